-- The base's length, then the suffix.
use mathlib.Core.Path.{sym, ◌∙◌}
use borrow.Author.Rules.{rules}
use Rattle.callsigns.proofs.Callsigns.{base-none, base-long, call-bad, call-good}
use Rattle.callsigns.proofs.read_callsign.Goals as goal

pub returns-then-base-lt1 : goal.returns-then-base-lt1
returns-then-base-lt1 c = base-none c.args.s.now c.call_run-base.result c.call_run-base.ensures.0 (search rules)

pub returns-then-base-gt9 : goal.returns-then-base-gt9
returns-then-base-gt9 c = base-long c.args.s.now c.call_run-base.result c.call_run-base.ensures.0 (search rules)

pub returns-in_err-ssid : goal.returns-in_err-ssid
returns-in_err-ssid c = c.from_residual.ensures ∙ call-bad c.args.s.now c.call_run-base.result c.call_run-base.ensures.0 (sym c.read_suffix.ensures ∙ c.in_err-ssid.was)

pub returns : goal.returns
returns c = call-good c.args.s.now c.call_run-base.result c.call_run-base.ensures.0 _ (search rules) (search rules) (sym c.read_suffix.ensures ∙ c.in_ok-ssid.was)
