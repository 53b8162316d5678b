-- Each step leads on within the ASCII.
use Prim.Native.Nat.{◌-◌, ◌≤◌}
use mathlib.Core.Path.{◌≡◌}
use lib.ListN.{length, drop}
use Rattle.utf8.specs.Ascii.{behind_ascii}
use Rattle.utf8.proofs.ascii.behind_steps.Given as goal

abbrev pub invariant-loop-next : goal.invariant-loop-next
invariant-loop-next l = (l.at ≤ l.next) × (l.next ≤ length l.s) × (behind_ascii (drop l.at l.s) ≡ behind_ascii (drop l.next l.s))

abbrev pub decreases-loop-next : goal.decreases-loop-next
decreases-loop-next l = length l.s - l.next
