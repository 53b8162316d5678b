-- The lowest is given where it is due.
use mathlib.Core.Path.{sym, ◌∙◌}
use Rattle.rows.proofs.Steps.{take-given, due-held}
use Rattle.rows.proofs.Row.take.Goals as goal

pub give_if-requires : goal.give_if-requires
give_if-requires c = λ d. due-held _ _ (sym c.is_due-due.ensures ∙ d)

pub returns : goal.returns
returns c = c.give_if.ensures ∙ take-given c.args.self _ _ c.args.time c.is_due-due.ensures c.later-clock.ensures
