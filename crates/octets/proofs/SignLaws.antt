-- Two's complement: what the two halves of the code's conversions say.
use Rattle.std.specs.Prelude.{if◌then◌else◌}
use Prim.Native.Nat.{ℕ, zero, suc, ◌-◌, ◌^◌, ◌<◌, ◌≤◌}
use mathlib.Core.Path.{◌≡◌, refl, ap, ◌∙◌}
use mathlib.Core.Bool.{Bool, true, false}
use native.Mathlib.Omega.{arith}
use lib.IntN.{ℤ, pos, negsuc, ◌-ℤ◌}
use lib.Signed.{le_z, mag}
use borrow.Author.Tests.{le-ltb, leb-false}
use mir.Syntax.{w64}
use mir.Val.{Fits, SFits, of_z, to_z, sel}
use mir.ValLaws.{to_z-of_z, of_z_fits, to_z_pos, to_z-Fits}
use Rattle.octets.specs.Words.{◌<?◌}
use Rattle.octets.specs.Numbers.{twos, from_twos}

-- the kit's own words for the bits of a signed number and the signed number of the bits, and that the definitions' two cases say the same
abbrev pub bits64 : ℤ → ℕ
bits64 z = of_z w64 z

abbrev pub signed64 : ℕ → ℤ
signed64 v = to_z w64 v

pub twos-kit : (z : ℤ) → twos z ≡ bits64 z
twos-kit (pos n) = refl
twos-kit (negsuc n) = refl

pub from-kit : (v : ℕ) → from_twos v ≡ signed64 v
from-kit v = go (v <? 2 ^ 63)
  where
    go : (t : Bool) → (if t then pos v else negsuc (2 ^ 64 - suc v)) ≡ sel t (pos v) (negsuc (2 ^ 64 - suc v))
    go true = refl
    go false = refl

-- a signed number of 64 bits comes back from its bits, which are a number of 64 bits
pub twos_back : (z : ℤ) → mag z < 2 ^ 63 → from_twos (twos z) ≡ z
twos_back z h = from-kit (twos z) ∙ ap signed64 (twos-kit z) ∙ to_z-of_z w64 z (record { sfits = h })

pub twos-below : (z : ℤ) → mag z < 2 ^ 63 → twos z < 2 ^ 64
twos-below z h = omega (arith, twos-kit z, (of_z_fits w64 z (record { sfits = h })).fits)

minus_one : (k : ℕ) → negsuc 0 -ℤ pos k ≡ negsuc k
minus_one zero = refl
minus_one (suc k) = ap negsuc (omega arith)

-- the bits from 2 ^ 63 up count down from -1
pub high : (v : ℕ) → 9223372036854775808 ≤ v → v < 2 ^ 64 → negsuc 0 -ℤ signed64 (18446744073709551615 - v) ≡ signed64 v
high v h k =
    ap (λ z. negsuc 0 -ℤ z) (to_z_pos w64 (18446744073709551615 - v) (omega arith))
    ∙ minus_one (18446744073709551615 - v)
    ∙ rw (le-ltb v 9223372036854775808 h) (ap negsuc (omega arith))

-- what the test `z >= 0` says where it holds, and where it does not
pub low : (z : ℤ) → SFits w64 z → le_z (pos 0) (signed64 (bits64 z)) ≡ true → signed64 (bits64 z) ≡ pos (bits64 z)
low (pos n) f e = to_z_pos w64 n f.sfits
low (negsuc n) f e =
    let q : le_z (pos 0) (negsuc n) ≡ true = rw (to_z-of_z w64 (negsuc n) f) at e in
    let z : ◌≡◌ {A = ℕ} 0 1 = cc in
    absurd (omega arith)

one_less : (n : ℕ) → negsuc 0 -ℤ negsuc n ≡ pos n
one_less n = rw (le-ltb (suc n) 1 (omega arith)) (ap pos (omega arith))

pub record Below (z : ℤ) : Type 0 where
  pub depth : ℕ
  pub small : depth < 2 ^ 63
  pub bits : bits64 z ≡ 18446744073709551615 - depth
  pub back : negsuc 0 -ℤ signed64 (bits64 z) ≡ pos depth

pub under : (z : ℤ) → SFits w64 z → le_z (pos 0) (signed64 (bits64 z)) ≡ false → Below z
under (pos n) f e =
    let q : le_z (pos 0) (pos n) ≡ false = rw (to_z-of_z w64 (pos n) f) at e in
    absurd (omega (arith, leb-false 0 n q))
under (negsuc n) f e = record { depth = n; small = f.sfits; bits = omega arith; back = rw (to_z-of_z w64 (negsuc n) f) (one_less n) }

-- a signed64 result that went through its bits is what it was
pub signed-result : (v : ℕ) (z : ℤ) → v < 2 ^ 64 → z ≡ signed64 v → signed64 (bits64 z) ≡ signed64 v
signed-result v z h e =
    let f : Fits w64 v = record { fits = h } in
    ap (λ y. signed64 (bits64 y)) e ∙ to_z-of_z w64 (signed64 v) (to_z-Fits w64 v f)
