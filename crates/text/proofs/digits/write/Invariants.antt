-- The last digit is stored at its place, and what is left before it.
use mathlib.Core.Path.{◌≡◌}
use lib.ListN.{length}
use Rattle.octets.specs.Bytes.{placed}
use Rattle.text.specs.Digits.{digits}
use Rattle.text.proofs.digits.write.Given as goal

abbrev pub invariant-loop-i : goal.invariant-loop-i
invariant-loop-i l = (length l.out ≡ length l.initial.out) × (placed (digits l.base l.i l.n) l.at l.out ≡ placed (digits l.base l.count l.v) l.at l.initial.out)
