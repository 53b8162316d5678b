-- From each place on, the rest decides: behind a run of ASCII, and behind any other character, which `character` measures.
use mathlib.Core.Path.{refl, sym, ◌∙◌}
use native.Mathlib.Omega.{arith}
use borrow.Author.Rules.{rules}
use Rattle.utf8.proofs.Runs.{run_end}
use Rattle.utf8.proofs.well_formed.Goals as goal

pub loop-i-init : goal.loop-i-init
loop-i-init c = refl

pub returns-in_default : goal.returns-in_default
returns-in_default c = sym (c.loop-i.invariant ∙ c.in_default.ensures)

pub loop-i-smaller : goal.loop-i-smaller
loop-i-smaller c = let p = c.in-Some.ensures in omega (arith, p.0, p.1)

pub loop-i-preserved : goal.loop-i-preserved
loop-i-preserved c = let p = c.in-Some.ensures in c.loop-i.invariant ∙ p.2

pub returns : goal.returns
returns c = sym (c.loop-i.invariant ∙ run_end c.args.s.now c.loop-i.i (search rules))
