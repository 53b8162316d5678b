-- Tail bytes: each one takes the place of one that the character lacks.
use Prim.Native.Nat.{◌+◌, ◌-◌, ◌≤◌}
use mathlib.Core.Path.{◌≡◌}
use lib.ListN.{length, drop, replicate}
use Rattle.utf8.specs.Utf8.{run, tail}
use Rattle.utf8.proofs.characters.tails.Given as goal

abbrev pub invariant-loop-done : goal.invariant-loop-done
invariant-loop-done l = (l.from + l.done ≤ length l.s) × (run (replicate l.count tail) (drop l.from l.s) ≡ run (replicate (l.count - l.done) tail) (drop (l.from + l.done) l.s))
