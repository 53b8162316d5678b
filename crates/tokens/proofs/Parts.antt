-- A text cut at a byte: what stands before it and behind it are parts of the text.
use Rattle.std.specs.Prelude.{if◌then◌else◌, ◌+◌, not}
use Rattle.std.specs.List.{position_or_len}
use Rattle.std.proofs.lemmas.List.Sums.{prefix_len-le-length}
use Rattle.std.proofs.lemmas.List.Folds.{length-prefix_len}
use Prim.Native.Nat.{ℕ, suc, ◌-◌, ◌≤◌}
use mathlib.Core.Path.{◌≡◌, refl, ap, sym, ◌∙◌}
use mathlib.Core.Bool.{Bool, true, false}
use mathlib.Core.List.{List, [], ◌∷◌}
use native.Mathlib.Omega.{arith}
use native.Mathlib.Numerals.{add-one}
use lib.ListN.{length, take, drop, length-drop}
use lib.Seq.{take_all}
use lib.Dec.{leb-suc-suc}
use borrow.Author.Tests.{lt-ltb}
use Rattle.octets.specs.Words.{◌or◌, ◌<?◌, ◌=?◌}
use Rattle.tokens.specs.Cuts.{has, before, after}

one-more : (n : ℕ) → 1 + n ≡ suc n
one-more n = omega arith

one-behind : (n : ℕ) → suc n + 1 ≡ suc (n + 1)
one-behind n = omega arith

module _ (c : ℕ) where
  -- ---- by the first byte

  pub before-cons : (x : ℕ) (s : List ℕ) → before c (x ∷ s) ≡ (if x =? c then [] else (x ∷ before c s))
  unfolding before
  before-cons x s = go (x =? c)
    where
      go : (t : Bool) → take (if not t then (1 + position_or_len (λ y. y =? c) s) else 0) (x ∷ s) ≡ (if t then [] else (x ∷ before c s))
      go true = refl
      go false = ap (λ (n : ℕ). take n (x ∷ s)) (one-more (position_or_len (λ y. y =? c) s))

  pub after-cons : (x : ℕ) (s : List ℕ) → after c (x ∷ s) ≡ (if x =? c then s else after c s)
  unfolding after
  after-cons x s = go (x =? c)
    where
      go : (t : Bool) → drop ((if not t then (1 + position_or_len (λ y. y =? c) s) else 0) + 1) (x ∷ s) ≡ (if t then s else after c s)
      go true = refl
      go false = ap (λ (n : ℕ). drop (n + 1) (x ∷ s)) (one-more (position_or_len (λ y. y =? c) s)) ∙ ap (λ (n : ℕ). drop n (x ∷ s)) (one-behind (position_or_len (λ y. y =? c) s))

  -- ---- both parts, by the length of the first

  before-length : (s : List ℕ) → length (before c s) ≡ position_or_len (λ x. x =? c) s
  unfolding before
  before-length s = length-prefix_len (λ x. not (x =? c)) s

  pub before-short : (s : List ℕ) → length (before c s) ≤ length s
  before-short s = rw (before-length s) (prefix_len-le-length (λ x. not (x =? c)) s)

  pub before-take : (s : List ℕ) → before c s ≡ take (length (before c s)) s
  unfolding before
  before-take s = ap (λ (n : ℕ). take n s) (sym (before-length s))

  pub after-drop : (s : List ℕ) → after c s ≡ drop (suc (length (before c s))) s
  unfolding after
  after-drop s = ap (λ (n : ℕ). drop n s) (add-one _ ∙ ap suc (sym (before-length s)))

  pub has-before : (s : List ℕ) → has c s ≡ (length (before c s) <? length s)
  unfolding has before
  has-before [] = refl
  has-before (x ∷ s) = rw (before-cons x s) (go (x =? c) (has-before s))
    where
      go : (t : Bool) → has c s ≡ (length (before c s) <? length s) → (t or has c s) ≡ (length (if t then [] else (x ∷ before c s)) <? suc (length s))
      go true h = sym (lt-ltb 0 (suc (length s)) (omega arith))
      go false h = h ∙ sym (leb-suc-suc (suc (length (before c s))) (length s))

-- ---- as the code lends them

module _ (c : ℕ) (s : List ℕ) (n : ℕ) (e : n ≡ length (before c s)) where
  pub part-before : take (n - 0) (drop 0 s) ≡ before c s
  part-before = let z : n - 0 ≡ length (before c s) = omega arith in rw z (sym (before-take c s))

  pub part-after : take (length s - (n + 1)) (drop (n + 1) s) ≡ after c s
  part-after = take_all (length s - (n + 1)) (drop (n + 1) s) (omega (arith, length-drop (n + 1) s)) ∙ sym (after-drop c s ∙ rw (sym e, sym (add-one n)))
