-- Each tenth has one digit less.
use Prim.Native.Nat.{◌+◌, ◌≤◌}
use mathlib.Core.Path.{◌≡◌}
use Rattle.text.specs.Decimal.{count}
use Rattle.text.proofs.number_size.Given as goal

abbrev pub invariant-loop-left : goal.invariant-loop-left
invariant-loop-left l = (l.n + l.left ≤ l.v + 1) × (count l.v + 1 ≡ l.n + count l.left)

abbrev pub decreases-loop-left : goal.decreases-loop-left
decreases-loop-left l = l.left
