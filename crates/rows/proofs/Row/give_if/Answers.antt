-- Where nothing may be given, only the clock goes on.
use mathlib.Core.Path.{sym, ap, ◌∙◌}
use Rattle.octets.proofs.Tests.{if_yes, if_no}
use Rattle.rows.specs.Row.{packed}
use Rattle.rows.proofs.Steps.{stay-is}
use Rattle.rows.proofs.Row.give_if.Goals as goal

pub returns : goal.returns
returns c = let k = sym c.keeps_rules.ensures ∙ c.if-not-keeps_rules.false in
    stay-is c.args.self k c.args.clock ∙ ap packed (sym (if_no _ _ _ c.if-due.false)) ∙ sym (if_yes _ _ _ k)
