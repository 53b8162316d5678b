-- Each step leads on within the ASCII.
use mathlib.Core.Path.{refl, sym, ◌∙◌}
use native.Mathlib.Omega.{arith}
use borrow.Author.Rules.{rules}
use Rattle.utf8.proofs.AsciiRuns.{ascii-step}
use Rattle.utf8.proofs.ascii.behind_steps.Goals as goal

pub loop-next-init : goal.loop-next-init
loop-next-init c = (search rules, search rules, refl)

pub returns-then-not-is_ascii : goal.returns-then-not-is_ascii
returns-then-not-is_ascii c = record { onward = c.loop-next.invariant.0; within = c.loop-next.invariant.1; passed = c.loop-next.invariant.2; stopped = λ h. sym c.is_ascii.ensures ∙ c.if-not-is_ascii.true }

pub loop-next-preserved : goal.loop-next-preserved
loop-next-preserved c = (search rules, search rules, c.loop-next.invariant.2 ∙ ascii-step c.args.s.now c.loop-next.next c.args.width (sym c.is_ascii.ensures ∙ c.if-not-is_ascii.false))

pub returns : goal.returns
returns c = record { onward = search rules; within = search rules; passed = c.loop-next.invariant.2; stopped = λ h. absurd (omega (arith, h, c.loop-next-test.false)) }
