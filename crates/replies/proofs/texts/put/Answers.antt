-- The part stands at the front, or nothing changed.
use mathlib.Core.Path.{sym, ◌∙◌}
use Rattle.replies.proofs.Joins.{part-put, put-none}
use Rattle.replies.specs.Texts.{part}
use Rattle.replies.proofs.texts.put.Goals as goal

pub returns-then-copy : goal.returns-then-copy
returns-then-copy c = (part-put c.args.from c.args.to c.args.out.now c.requires.0 c.requires.1 (sym c.copy.ensures.0 ∙ c.if-copy.true), c.copy.ensures.1)

pub returns : goal.returns
returns c = (put-none (part c.args.from c.args.to) c.args.out.now (sym c.copy.ensures.0 ∙ c.if-copy.false), c.copy.ensures.1)
