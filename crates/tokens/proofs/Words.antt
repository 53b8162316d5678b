-- The words of a text one after the other, from a place on.
use Rattle.std.specs.Prelude.{if◌then◌else◌}
use Prim.Native.Nat.{ℕ, suc, ◌+◌, ◌-◌, ◌≤◌, ◌<◌}
use mathlib.Core.Path.{◌≡◌, refl, ap, sym, ◌∙◌}
use mathlib.Core.Bool.{Bool, true, false}
use mathlib.Core.List.{List, [], ◌∷◌, map}
use native.Mathlib.Omega.{arith}
use lib.ListN.{length, take, drop, length-drop}
use lib.Seq.{take_all, drop-drop}
use lib.Dec.{leb-suc-suc}
use borrow.Author.Tests.{le-leb, lt-leb, leb-true, leb-false}
use Rattle.octets.specs.Words.{◌≤?◌, ◌=?◌}
use Rattle.octets.proofs.Tests.{if_yes, if_no}
use Rattle.std.specs.List.{onto_first}
use Rattle.tokens.specs.Cuts.{before, split}
use Rattle.tokens.specs.Tokens.{token_of, words, tokens, space}
use Rattle.tokens.specs.Steps.{words_from, tokens_from, word_at}
use Rattle.tokens.proofs.Parts.{before-cons, before-short}

-- the first word, and the words behind it
first_word : (s : List ℕ) → words s ≡ before space s ∷ words_from (suc (length (before space s))) s
unfolding before split
first_word [] = refl
first_word (x ∷ s) = rw (before-cons space x s) (go (x =? space) (first_word s))
  where
    go : (t : Bool) → words s ≡ before space s ∷ words_from (suc (length (before space s))) s
        → (if t then ([] ∷ split space s) else onto_first x (split space s))
        ≡ (if t then [] else (x ∷ before space s)) ∷ words_from (suc (length (if t then [] else (x ∷ before space s)))) (x ∷ s)
    go true h = ap (λ (l : List (List ℕ)). [] ∷ l) (sym (if_yes _ _ _ (le-leb 1 (suc (length s)) (omega arith))))
    go false h = rw h (ap (λ (b : Bool). (x ∷ before space s) ∷ (if b then words (drop (suc (length (before space s))) s) else [])) (sym (leb-suc-suc (suc (length (before space s))) (length s))))

leb-alike : (a b c d : ℕ) → (c ≤ d → a ≤ b) → (d < c → b < a) → (a ≤? b) ≡ (c ≤? d)
leb-alike a b c d f g = go (c ≤? d) refl
  where
    go : (t : Bool) → (c ≤? d) ≡ t → (a ≤? b) ≡ t
    go true e = le-leb a b (f (leb-true c d e))
    go false e = lt-leb a b (g (leb-false c d e))

-- the text from a place on, as the code lends it
pub part-from : (s : List ℕ) (i : ℕ) → take (length s - i) (drop i s) ≡ drop i s
part-from s i = take_all (length s - i) (drop i s) (omega (arith, length-drop i s))

pub word-is : (s : List ℕ) (i : ℕ) (w : List ℕ) → w ≡ before space (take (length s - i) (drop i s)) → w ≡ word_at i s
word-is s i w e = e ∙ ap (before space) (part-from s i)

module _ (s : List ℕ) (i : ℕ) (l : i ≤ length s) where
  pub words-here : words_from i s ≡ words (drop i s)
  words-here = if_yes _ _ _ (le-leb i (length s) l)

  pub word-short : (w : List ℕ) → w ≡ before space (take (length s - i) (drop i s)) → i + length w ≤ length s
  word-short w e = omega (arith, ap length (word-is s i w e), before-short space (drop i s), length-drop i s)

  pub words-next : words_from i s ≡ word_at i s ∷ words_from (i + length (word_at i s) + 1) s
  words-next =
      let d = drop i s in
      let n = length (word_at i s) in
      let k = length-drop i s in
      let f : (suc n ≤? length d) ≡ (i + n + 1 ≤? length s) = leb-alike (suc n) (length d) (i + n + 1) (length s) (λ h. omega arith) (λ h. omega arith) in
      let z : i + suc n ≡ i + n + 1 = omega arith in
      let g : drop (suc n) d ≡ drop (i + n + 1) s = drop-drop (suc n) i s ∙ ap (λ (m : ℕ). drop m s) z in
      words-here
      ∙ first_word d
      ∙ ap (λ (b : Bool). word_at i s ∷ (if b then words (drop (suc n) d) else [])) f
      ∙ ap (λ (t : List ℕ). word_at i s ∷ (if i + n + 1 ≤? length s then words t else [])) g

  pub tokens-next : tokens_from i s ≡ token_of (word_at i s) ∷ tokens_from (i + length (word_at i s) + 1) s
  tokens-next = ap (map token_of) words-next

pub words-end : (s : List ℕ) (i : ℕ) → length s < i → words_from i s ≡ []
words-end s i h = if_no _ _ _ (lt-leb i (length s) h)

pub tokens-end : (s : List ℕ) (i : ℕ) → length s < i → tokens_from i s ≡ []
tokens-end s i h = ap (map token_of) (words-end s i h)

pub words-start : (s : List ℕ) → words s ≡ words_from 0 s
words-start s = sym (words-here s 0 (omega arith))

pub tokens-start : (s : List ℕ) → tokens s ≡ tokens_from 0 s
tokens-start s = ap (map token_of) (words-start s)
