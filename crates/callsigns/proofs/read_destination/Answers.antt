-- The app's length, the `@`, then the callsign.
use mathlib.Core.Path.{sym, ◌∙◌}
use borrow.Author.Rules.{rules}
use Rattle.callsigns.proofs.Destinations.{app-none, app-long, app-alone, app-other, app-no-call, app-call}
use Rattle.callsigns.proofs.read_destination.Goals as goal

pub returns-then-app-lt1 : goal.returns-then-app-lt1
returns-then-app-lt1 c = app-none c.args.s.now c.app_run-app.result c.app_run-app.ensures.0 (search rules)

pub returns-then-app-gt32 : goal.returns-then-app-gt32
returns-then-app-gt32 c = app-long c.args.s.now c.app_run-app.result c.app_run-app.ensures.0 (search rules)

pub returns-in_default : goal.returns-in_default
returns-in_default c = app-alone c.args.s.now c.app_run-app.result c.app_run-app.ensures.0 c.in_default.len_below

pub returns-in_default-2 : goal.returns-in_default-2
returns-in_default-2 c = app-other c.args.s.now c.app_run-app.result c.app_run-app.ensures.0 (search rules)

pub returns-in_err-call : goal.returns-in_err-call
returns-in_err-call c = c.from_residual.ensures ∙ app-no-call c.args.s.now c.app_run-app.result c.app_run-app.ensures.0 (sym c.read_callsign.ensures ∙ c.in_err-call.was)

pub returns : goal.returns
returns c = app-call c.args.s.now c.app_run-app.result c.app_run-app.ensures.0 _ (search rules) (search rules) (search rules) (sym c.read_callsign.ensures ∙ c.in_ok-call.was)
