-- What was read goes on with the rest; past the limit nothing brings it back.
use Prim.Native.Nat.{◌≤◌}
use mathlib.Core.Path.{◌≡◌}
use lib.ListN.{drop}
use Rattle.octets.specs.Words.{every}
use Rattle.text.specs.Digits.{is_digit, value}
use Rattle.text.proofs.Numerals.{on}
use Rattle.text.proofs.digits.read.Given as goal

abbrev pub invariant-loop-b : goal.invariant-loop-b
invariant-loop-b l = (l.n ≤ l.limit) × (every (is_digit l.base) l.s ≡ every (is_digit l.base) (drop l.b-index l.s)) × (value l.base l.s ≡ on l.base l.n (drop l.b-index l.s))
