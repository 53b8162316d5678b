-- 40, then the count.
use mathlib.Core.Path.{sym, ap, ◌∙◌}
use Rattle.octets.proofs.Tests.{if_yes, if_no, no_true, no_false}
use Rattle.streams.specs.Answer.{counted}
use Rattle.streams.specs.Calls.{open_rows}
use Rattle.streams.proofs.Lookups.{test_broken, test_good, test-rows}
use Rattle.streams.proofs.Table.open_rows.Goals as goal

pub returns-in-None : goal.returns-in-None
unfolding open_rows
returns-in-None c = sym (if_yes _ _ _ (no_false _ (test_broken c.args.self _ c.in-None.ensures)))

pub returns-in-Some : goal.returns-in-Some
unfolding open_rows
returns-in-Some c = ap counted (test-rows c.args.self _ _ c.in-Some.ensures) ∙ sym (if_no _ _ _ (no_true _ (test_good c.args.self _ _ c.in-Some.ensures)))
