-- From each place on, the rest decides.
use mathlib.Core.Path.{◌≡◌}
use lib.ListN.{drop}
use Rattle.octets.specs.Bytes.{same}
use Rattle.letters.specs.Letters.{folded}
use Rattle.letters.proofs.alike.Given as goal

abbrev pub invariant-loop-i : goal.invariant-loop-i
invariant-loop-i l = same (folded l.a) (folded l.b) ≡ same (drop l.i (folded l.a)) (drop l.i (folded l.b))
