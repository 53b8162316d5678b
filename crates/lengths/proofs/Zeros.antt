-- Bytes gathered bit by bit are zero exactly if each of them is; the bytes from a place on, as the code lends them.
use Rattle.std.specs.Prelude.{fold}
use Prim.Native.Nat.{ℕ, zero, suc, ◌-◌, min}
use mathlib.Core.Path.{◌≡◌, refl, sym, ap, ◌∙◌}
use mathlib.Core.Bool.{Bool, true, false}
use mathlib.Core.List.{List, [], ◌∷◌}
use native.Mathlib.Omega.{arith}
use lib.Bits.{bit_or, or_zero_l, or_add_and, and_le_r}
use lib.Dec.{leb}
use lib.ListN.{length, take, drop, length-drop, drop_of_length-le}
use lib.Seq.{take_all}
use borrow.Author.Tests.{ne_eqb, leb-true, leb-false}
use Rattle.octets.specs.Words.{◌and◌, ◌=?◌}
use Rattle.octets.specs.Bytes.{all_zero}
use Rattle.octets.proofs.Tests.{and-not-left, and-true, and_assoc}

-- two numbers gathered are 0 if both are
pub or-zero : (a b : ℕ) → (bit_or a b =? 0) ≡ (a =? 0) and (b =? 0)
or-zero zero b = ap (λ x. x =? 0) (or_zero_l b)
or-zero (suc a) b =
    ne_eqb (bit_or (suc a) b) 0 (λ e. absurd (omega (arith, or_add_and (suc a) b, and_le_r (suc a) b, e)))
    ∙ sym (and-not-left _ _ (ne_eqb (suc a) 0 (λ e. absurd (omega arith))))

pub all-gathered : (g : ℕ) (s : List ℕ) → (fold bit_or g s =? 0) ≡ (g =? 0) and all_zero s
all-gathered g [] = sym (and-true (g =? 0))
all-gathered g (b ∷ s) = all-gathered (bit_or g b) s ∙ rw (or-zero g b) (sym (and_assoc (g =? 0) (b =? 0) (all_zero s)))

pub part-from : (n : ℕ) (s : List ℕ) → take (length s - min n (length s)) (drop (min n (length s)) s) ≡ drop n s
part-from n s = take_all _ _ (omega (arith, length-drop (min n (length s)) s)) ∙ go (leb n (length s)) refl
  where
    go : (b : Bool) → leb n (length s) ≡ b → drop (min n (length s)) s ≡ drop n s
    go true e = let z : min n (length s) ≡ n = omega (arith, leb-true n (length s) e) in rw z
    go false e =
        let k = leb-false n (length s) e in
        drop_of_length-le s {i = min n (length s)} (omega arith) ∙ sym (drop_of_length-le s {i = n} (omega arith))
