-- A signed number's sign and magnitude, as the code tells them from its bits, and what they make of a decimal.
use Rattle.std.specs.Prelude.{Some, None, if◌then◌else◌}
use Prim.Native.Nat.{ℕ, suc, ◌+◌, ◌≤◌, ◌<◌}
use mathlib.Core.Path.{◌≡◌, refl, ap, sym, subst, ◌∙◌}
use mathlib.Core.Bool.{Bool, true, false}
use mathlib.Core.List.{List, [], ◌∷◌}
use native.Mathlib.Omega.{arith}
use borrow.Author.Tests.{leb-false, leb-true, le-leb, ne_eqb}
use lib.IntN.{ℤ, pos, negsuc, nat_abs}
use lib.ListN.{length, get_or, set, length-set}
use lib.Signed.{le_z}
use mir.Syntax.{w64}
use mir.Val.{to_z, of_z, SFits}
use mir.ValLaws.{to_z-of_z}
use Rattle.octets.specs.Bytes.{fits, placed}
use Rattle.octets.proofs.Tests.{and_right}
use Rattle.octets.proofs.Lists.{placed-next}
use Rattle.text.specs.Digits.{digits}
use Rattle.text.specs.Decimal.{is_decimal, number, is_number, number_of, decimal, has_minus, signed_of, signed_decimal}
use Rattle.text.proofs.Decimals.{length-decimal}
use Rattle.text.specs.Steps.{at_most}

-- ---- written

-- a number as it comes from its bits
abbrev pub held : ℤ → ℤ
held z = to_z w64 (of_z w64 z)

-- what the test `z >= 0` says
abbrev tested : ℤ → Bool
tested z = le_z (pos 0) (held z)

from_zero : {A : Type 0} (n : ℕ) → SFits w64 (pos n) → tested (pos n) ≡ false → A
from_zero n f e = absurd (omega (arith, leb-false 0 n (rw (to_z-of_z w64 (pos n) f) at e)))

pub minus-decimal : (z : ℤ) → SFits w64 z → tested z ≡ false → signed_decimal z ≡ 0x2D ∷ decimal (nat_abs (held z))
minus-decimal (pos n) f e = from_zero n f e
minus-decimal (negsuc n) f e = rw (to_z-of_z w64 (negsuc n) f)

-- a minus that is stored, and the digits placed behind it
pub minus-written : (m n at : ℕ) (l l' : List ℕ) (r : Bool) → n ≡ length (decimal m) → at + suc n ≤ length l
    → (r ≡ fits (digits 10 n m) (at + 1) (set l at 0x2D)) × (l' ≡ placed (digits 10 n m) (at + 1) (set l at 0x2D))
    → (r ≡ fits (0x2D ∷ decimal m) at l) × (l' ≡ placed (0x2D ∷ decimal m) at l)
minus-written m n at l l' r e h w =
    let p = rw (e ∙ length-decimal m) at w in
    let i : at + suc (length (decimal m)) ≤ length l = omega arith in
    let k : at + 1 + length (decimal m) ≤ length (set l at 0x2D) = rw length-set (omega arith) in
    (p.0 ∙ le-leb _ _ k ∙ sym (le-leb _ _ i), p.1 ∙ sym (placed-next 0x2D (decimal m) at l i))

-- ---- read

pub number_of-most : (limit : ℕ) (s : List ℕ) → at_most limit (number_of limit s)
number_of-most limit s = go (is_number limit s) refl
  where
    go : (t : Bool) → is_number limit s ≡ t → at_most limit (if t then Some (number s) else None)
    go true e = leb-true (number s) limit (and_right (is_decimal s) _ e)
    go false e = tt

-- a text that has no minus is the number that it spells
pub no_minus-empty : (s : List ℕ) → length s < 1 → has_minus s ≡ false
no_minus-empty [] h = refl
no_minus-empty (b ∷ s) h = absurd (omega arith)

pub no_minus-other : (s : List ℕ) → (get_or s 0 0 ≡ 0x2D → ⊥) → has_minus s ≡ false
no_minus-other s h = ne_eqb (get_or s 0 0) 0x2D h

pub signed-none : (s : List ℕ) → has_minus s ≡ false → number_of 9223372036854775807 s ≡ None → signed_of s ≡ None
signed-none s e f = rw e (go (is_number 9223372036854775807 s) f)
  where
    go : (t : Bool) → (if t then Some (number s) else None) ≡ None → (if t then Some (pos (number s)) else None) ≡ None
    go true f = cc
    go false f = refl

pub signed-some : (s : List ℕ) (n : ℕ) → has_minus s ≡ false → number_of 9223372036854775807 s ≡ Some n → (signed_of s ≡ Some (pos n)) × (n ≤ 9223372036854775807)
signed-some s n e f = rw e (go (is_number 9223372036854775807 s) f, subst (at_most 9223372036854775807) f (number_of-most 9223372036854775807 s))
  where
    go : (t : Bool) → (if t then Some (number s) else None) ≡ Some n → (if t then Some (pos (number s)) else None) ≡ Some (pos n)
    go true f = let z : number s ≡ n = cc in ap (λ (n : ℕ). Some (pos n)) z
    go false f = cc
