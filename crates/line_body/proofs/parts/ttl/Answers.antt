-- The same of a time to live.
use Rattle.line.specs.Writing.{chosen}
use Rattle.line_draft.proofs.Drafts.{adds_none}
use Rattle.line_body.specs.Steps.{add_tokens}
use Rattle.line_body.proofs.Drafts.{absent}
use Rattle.line_body.proofs.parts.ttl.Goals as goal

pub returns-in_default : goal.returns-in_default
unfolding chosen add_tokens
returns-in_default c = rw (absent c.args.ttl c.in_default.not-Some) adds_none

pub returns : goal.returns
unfolding chosen add_tokens
returns c = rw c.in-Some.is (rw c.from.ensures at c.number.ensures)
