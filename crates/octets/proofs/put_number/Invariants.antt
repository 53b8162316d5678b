-- The number's bytes stand at their place, or nothing changed: what is left of the number is placed behind what was written.
use Prim.Native.Nat.{◌+◌, ◌-◌}
use mathlib.Core.Path.{◌≡◌}
use lib.ListN.{length}
use Rattle.octets.specs.Numbers.{little_bytes}
use Rattle.octets.specs.Bytes.{placed}
use Rattle.octets.proofs.put_number.Given as goal

abbrev pub invariant-loop-i : goal.invariant-loop-i
invariant-loop-i l = (length l.out ≡ length l.initial.out) × (placed (little_bytes (l.width - l.i) l.rest) (l.at + l.i) l.out ≡ placed (little_bytes l.width l.v) l.at l.initial.out)
