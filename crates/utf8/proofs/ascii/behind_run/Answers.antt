-- The last steps are single bytes, and end where the ASCII does.
use mathlib.Core.Path.{sym, ◌∙◌}
use native.Mathlib.Omega.{arith}
use Rattle.utf8.proofs.AsciiRuns.{ascii-stop}
use Rattle.utf8.proofs.ascii.behind_run.Goals as goal

pub returns : goal.returns
returns c = let a = c.behind_steps-by_long.ensures in let b = c.behind_steps-by_short.ensures in let d = c.behind_steps.ensures in
    (omega (arith, a.onward, b.onward, d.onward), d.within, sym (a.passed ∙ b.passed ∙ d.passed ∙ ascii-stop c.args.s.now c.behind_steps.result d.stopped))
