-- Words: what begins a line, and the line `data ID`.
use mathlib.Core.Path.{◌≡◌, refl, sym, ap, ◌∙◌}
use Prim.Native.Nat.{ℕ, zero, suc, ◌+◌, ◌<◌}
use native.Mathlib.Omega.{arith}
use native.Mathlib.Numerals.{add-one}
use mathlib.Core.Bool.{Bool, true, false}
use mathlib.Core.List.{List, [], ◌∷◌, ◌++◌, append-nil}
use lib.ListN.{length, take, drop, replicate, get_or}
use lib.Seq.{take-suc, take_all, take-append_seam}
use borrow.Author.Tests.{eq-eqb}
use Rattle.octets.specs.Words.{◌and◌, ◌=?◌}
use Rattle.octets.specs.Bytes.{same, placed}
use Rattle.octets.proofs.Tests.{or-next, and-next, true-not-false}
use Rattle.octets.proofs.Lists.{same_refl, same-eq, same-short, placed-in}
use Rattle.text.specs.Hex.{hex_digits}
use Rattle.text.proofs.Numerals.{length_digits}
use Rattle.phrases.specs.Lines.{data-word, verb, is_data}

-- a test that is true only where something false holds is false
refuted : (b : Bool) → (b ≡ true → ⊥) → b ≡ false
refuted true f = absurd (f refl)
refuted false f = refl

-- ---- a word, or the word and a space

verb-none : (word s : List ℕ) → (s ≡ word → ⊥) → (take (length word + 1) s ≡ word ++ (32 ∷ []) → ⊥) → verb word s ≡ false
unfolding verb
verb-none word s f g = or-next _ _ (refuted _ (λ e. f (same-eq s word e))) ∙ refuted _ (λ e. g (same-eq _ _ e))

front_of : (word s : List ℕ) → take (length word + 1) s ≡ word ++ (32 ∷ []) → take (length word) s ≡ word
front_of word s e = sym (shorter (length word) s) ∙ ap (take (length word)) e ∙ take-append_seam word (32 ∷ [])
  where
    shorter : (n : ℕ) (l : List ℕ) → take n (take (n + 1) l) ≡ take n l
    shorter n l = rw (add-one n) (go n l)
      where
        go : (n : ℕ) (l : List ℕ) → take n (take (suc n) l) ≡ take n l
        go zero l = refl
        go (suc n) [] = refl
        go (suc n) (x ∷ l) = ap (λ (r : List ℕ). x ∷ r) (go n l)

pub verb-not : (word s : List ℕ) → same (take (length word) s) word ≡ false → verb word s ≡ false
verb-not word s n =
    verb-none word s (λ e. true-not-false _ (ap (λ (t : List ℕ). same t word) (ap (take (length word)) e ∙ take_all (length word) word (omega arith)) ∙ same_refl word) n)
    (λ e. true-not-false _ (ap (λ (t : List ℕ). same t word) (front_of word s e) ∙ same_refl word) n)

same-last : (w : List ℕ) (x y : ℕ) → same (w ++ (x ∷ [])) (w ++ (y ∷ [])) ≡ x =? y
same-last [] x y = go (x =? y)
  where
    go : (b : Bool) → b and true ≡ b
    go true = refl
    go false = refl
same-last (a ∷ w) x y = and-next _ _ (eq-eqb a a refl) ∙ same-last w x y

pub verb-more : (word s : List ℕ) → same (take (length word) s) word ≡ true → length word < length s → verb word s ≡ (get_or s (length word) 0 =? 32)
unfolding verb
verb-more word s e h =
    let t : take (length word) s ≡ word = same-eq _ _ e in
    or-next _ _ (same-short s word (λ z. omega arith))
    ∙ ap (λ (l : List ℕ). same l (word ++ (32 ∷ []))) (rw (add-one (length word)) (take-suc s (length word) 0 h) ∙ ap (λ (l : List ℕ). l ++ (get_or s (length word) 0 ∷ [])) t)
    ∙ same-last word (get_or s (length word) 0) 32

-- ---- `data ID`

-- `data ` and seven digits in the place of seven noughts
pub data-line : (id : ℕ) → placed (hex_digits 7 id) 5 (data-word ++ (0x20 ∷ replicate 7 48)) ≡ data-word ++ (0x20 ∷ hex_digits 7 id)
data-line id =
    let d = length_digits 16 7 id in
    let z : 5 + length (hex_digits 7 id) ≡ 12 = omega arith in
    placed-in (hex_digits 7 id) 5 (data-word ++ (0x20 ∷ replicate 7 48)) (omega arith)
    ∙ ap (λ (n : ℕ). data-word ++ (0x20 ∷ (hex_digits 7 id ++ drop n (data-word ++ (0x20 ∷ replicate 7 48))))) z
    ∙ ap (λ (l : List ℕ). data-word ++ (0x20 ∷ l)) (append-nil (hex_digits 7 id))

-- the line is `data ID`
pub data_is : (id : ℕ) (b : Bool) (s l : List ℕ) → l ≡ placed (hex_digits 7 id) 5 (data-word ++ (0x20 ∷ replicate 7 48)) → b ≡ same s l → b ≡ is_data id s
unfolding is_data
data_is id b s l e f = f ∙ ap (same s) (e ∙ data-line id)
