-- What a turn of the code's loop over two texts comes to: from each place on, the rest decides.
use Prim.Native.Nat.{ℕ, ◌+◌, ◌<◌}
use mathlib.Core.Path.{◌≡◌, sym, ◌∙◌}
use mathlib.Core.Bool.{true, false}
use mathlib.Core.List.{List}
use lib.ListN.{length, get_or, drop}
use borrow.Author.Tests.{eqb-true, eqb-false}
use Rattle.octets.specs.Words.{◌=?◌}
use Rattle.octets.specs.Bytes.{same}
use Rattle.octets.proofs.Lists.{same-short, same_next, same_not, same_end}
use Rattle.letters.specs.Letters.{upper, folded}
use Rattle.letters.proofs.Folding.{length-folded, folded-at}

module _ (a b : List ℕ) where
  pub alike-short : (length a ≡ length b → ⊥) → same (folded a) (folded b) ≡ false
  alike-short h = same-short (folded a) (folded b) (λ e. h (sym (length-folded a) ∙ e ∙ length-folded b))

  module _ (i : ℕ) (h : i < length a) (k : i < length b) where
    pub alike_next : (upper (get_or a i 0) =? upper (get_or b i 0)) ≡ true → same (drop i (folded a)) (drop i (folded b)) ≡ same (drop (i + 1) (folded a)) (drop (i + 1) (folded b))
    alike_next e =
        same_next (folded a) (folded b) i (rw length-folded h) (rw length-folded k) (folded-at a i h ∙ eqb-true _ _ e ∙ sym (folded-at b i k))

    pub alike-not : (upper (get_or a i 0) =? upper (get_or b i 0)) ≡ false → same (drop i (folded a)) (drop i (folded b)) ≡ false
    alike-not e =
        same_not (folded a) (folded b) i (rw length-folded h) (rw length-folded k) (λ q. eqb-false _ _ e (sym (folded-at a i h) ∙ q ∙ folded-at b i k))

  pub alike_end : (i : ℕ) → i ≡ length a → i ≡ length b → same (drop i (folded a)) (drop i (folded b)) ≡ true
  alike_end i e f = same_end (folded a) (folded b) i (e ∙ sym (length-folded a)) (f ∙ sym (length-folded b))
