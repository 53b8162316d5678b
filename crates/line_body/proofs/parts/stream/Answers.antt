-- All three tokens, or none.
use Rattle.line.specs.Writing.{chosen}
use Rattle.line_draft.proofs.Drafts.{adds_none, adds_then}
use Rattle.line_body.specs.Steps.{add_tokens}
use Rattle.line_body.proofs.Drafts.{absent}
use Rattle.line_body.proofs.parts.stream.Goals as goal

pub returns-in_default : goal.returns-in_default
unfolding chosen add_tokens
returns-in_default c = rw (absent c.args.stream c.in_default.not-Some) adds_none

pub returns : goal.returns
unfolding chosen add_tokens
returns c =
    let a = rw c.part.ensures at c.text.ensures in
    let b = rw c.from.ensures at c.number.ensures in
    let e = rw c.from-2.ensures at c.number-2.ensures in
    rw c.in-Some.is (adds_then (adds_then a b) e)
