-- The lowest is given where there is one.
use mathlib.Core.Path.{refl, ◌∙◌}
use Rattle.rows.proofs.Steps.{force-given}
use Rattle.rows.proofs.Row.force.Goals as goal

pub returns : goal.returns
returns c = c.give_if.ensures ∙ force-given c.args.self _ _ c.args.time refl c.later-clock.ensures
