-- Lists that a loop goes through: the rest decides. Each law is over the element.
use Rattle.std.specs.Prelude.{if◌then◌else◌}
use mathlib.Core.Path.{◌≡◌, refl, ap, sym, ◌∙◌}
use mathlib.Core.Bool.{Bool, true, false}
use mathlib.Core.List.{List, [], ◌∷◌, ◌++◌, append_assoc, map}
use Prim.Native.Nat.{ℕ, zero, suc, ◌+◌, ◌≤◌, ◌<◌}
use native.Mathlib.Omega.{arith}
use native.Mathlib.Numerals.{add-one}
use lib.ListN.{length, get_or, take, drop, set, length-append, length-drop, length-take, length-set, length-map, take-append-drop}
use lib.Seq.{drop-cons, drop-length, drop-set-lt, take-suc-set}
use borrow.Author.Tests.{le-leb, lt-leb, leb-true, eq-eqb, ne_eqb, eqb-true}
use Rattle.octets.specs.Words.{◌and◌, every, some, ◌=?◌}
use Rattle.octets.specs.Bytes.{same, fits, placed}
use Rattle.octets.proofs.Tests.{if_yes, if_no, and_left, and_right, and-next, and-not-left, true-not-false}

-- the length of an array of structs, which the check tells of its elements read one by one
pub unmapped : (X Y : Type 0) (f : X → Y) (l : List X) (n : ℕ) → length (map f l) ≡ n → length l ≡ n
unmapped X Y f l n e = sym (length-map l f) ∙ e

-- ---- one element, and the rest

pub drop-next : {A : Type 0} (s : List A) (i : ℕ) (d : A) → i < length s → drop i s ≡ get_or s i d ∷ drop (i + 1) s
drop-next s i d h = rw (add-one, drop-cons s i d)

pub every-next : {A : Type 0} (p : A → Bool) (s : List A) (i : ℕ) (d : A) → i < length s → p (get_or s i d) ≡ true → every p (drop i s) ≡ every p (drop (i + 1) s)
every-next p s i d h e = rw (drop-next s i d h) (and-next _ _ e)

pub every-not : {A : Type 0} (p : A → Bool) (s : List A) (i : ℕ) (d : A) → i < length s → p (get_or s i d) ≡ false → every p (drop i s) ≡ false
every-not p s i d h e = rw (drop-next s i d h) (and-not-left _ _ e)

pub every-end : {A : Type 0} (p : A → Bool) (s : List A) (i : ℕ) → i ≡ length s → every p (drop i s) ≡ true
every-end p s i e = rw (e, drop-length s)

pub some_next : {A : Type 0} (p : A → Bool) (s : List A) (i : ℕ) (d : A) → i < length s → p (get_or s i d) ≡ false → some p (drop i s) ≡ some p (drop (i + 1) s)
some_next p s i d h e = rw (drop-next s i d h, e)

pub some-here : {A : Type 0} (p : A → Bool) (s : List A) (i : ℕ) (d : A) → i < length s → p (get_or s i d) ≡ true → some p (drop i s) ≡ true
some-here p s i d h e = rw (drop-next s i d h, e)

pub some_end : {A : Type 0} (p : A → Bool) (s : List A) (i : ℕ) → i ≡ length s → some p (drop i s) ≡ false
some_end p s i e = rw (e, drop-length s)

-- what every element passes, an element passes
pub every-at : {A : Type 0} (p : A → Bool) (s : List A) (i : ℕ) (d : A) → every p s ≡ true → i < length s → p (get_or s i d) ≡ true
every-at p [] i d e h = absurd (omega arith)
every-at p (x ∷ s) zero d e h = and_left (p x) (every p s) e
every-at p (x ∷ s) (suc i) d e h = every-at p s i d (and_right (p x) (every p s) e) (omega arith)

-- ---- the same text

pub same_refl : (s : List ℕ) → same s s ≡ true
same_refl [] = refl
same_refl (x ∷ s) = rw (eq-eqb x x refl) (same_refl s)

pub same-eq : (s t : List ℕ) → same s t ≡ true → s ≡ t
same-eq [] [] e = refl
same-eq [] (y ∷ t) e = true-not-false false e refl
same-eq (x ∷ s) [] e = true-not-false false e refl
same-eq (x ∷ s) (y ∷ t) e =
    let a = eqb-true x y (and_left (x =? y) (same s t) e) in
    let b = same-eq s t (and_right (x =? y) (same s t) e) in
    cc

pub same_length : (s t : List ℕ) → same s t ≡ true → length s ≡ length t
same_length s t e = ap length (same-eq s t e)

pub same-sym : (s t : List ℕ) → same s t ≡ true → same t s ≡ true
same-sym s t e = rw (same-eq s t e) (same_refl t)

pub same-trans : (s t u : List ℕ) → same s t ≡ true → same t u ≡ true → same s u ≡ true
same-trans s t u e f = rw (same-eq s t e) f

-- texts of two lengths differ
pub same-short : (s t : List ℕ) → (length s ≡ length t → ⊥) → same s t ≡ false
same-short s t h = go (same s t) refl
  where
    go : (b : Bool) → same s t ≡ b → same s t ≡ false
    go true e = absurd (h (same_length s t e))
    go false e = e

module _ (s t : List ℕ) (i : ℕ) (h : i < length s) (k : i < length t) where
  same-split : same (drop i s) (drop i t) ≡ (get_or s i 0 =? get_or t i 0) and same (drop (i + 1) s) (drop (i + 1) t)
  same-split = rw (drop-next s i 0 h, drop-next t i 0 k)

  pub same_next : get_or s i 0 ≡ get_or t i 0 → same (drop i s) (drop i t) ≡ same (drop (i + 1) s) (drop (i + 1) t)
  same_next e = same-split ∙ and-next _ _ (eq-eqb _ _ e)

  pub same_not : (get_or s i 0 ≡ get_or t i 0 → ⊥) → same (drop i s) (drop i t) ≡ false
  same_not e = same-split ∙ and-not-left _ _ (ne_eqb _ _ e)

pub same_end : (s t : List ℕ) (i : ℕ) → i ≡ length s → i ≡ length t → same (drop i s) (drop i t) ≡ true
same_end s t i e f = rw (e) (rw (drop-length s) (rw (sym e ∙ f, drop-length t)))

-- ---- bytes in a lent buffer

pub length-placed : {A : Type 0} (w : List A) (at : ℕ) (l : List A) → length (placed w at l) ≡ length l
length-placed w at l = go (fits w at l) refl
  where
    go : (t : Bool) → fits w at l ≡ t → length (if t then take at l ++ (w ++ drop (at + length w) l) else l) ≡ length l
    go true e = simp (length-append, length-take, length-drop) (omega (arith, leb-true (at + length w) (length l) e))
    go false e = refl

-- what fits stands between the bytes before it and those behind it; what does not changes nothing
pub placed-in : {A : Type 0} (w : List A) (at : ℕ) (l : List A) → at + length w ≤ length l → placed w at l ≡ take at l ++ (w ++ drop (at + length w) l)
placed-in w at l h = if_yes _ _ _ (le-leb (at + length w) (length l) h)

pub placed-out : {A : Type 0} (w : List A) (at : ℕ) (l : List A) → length l < at + length w → placed w at l ≡ l
placed-out w at l h = if_no _ _ _ (lt-leb (at + length w) (length l) h)

-- writing element by element: each is stored at its place, and the rest behind it
pub placed-none : {A : Type 0} (at : ℕ) (l : List A) → at ≤ length l → placed [] at l ≡ l
placed-none at l h = placed-in [] at l (omega arith) ∙ let z : at + 0 ≡ at = omega arith in rw z (take-append-drop at l)

pub placed-next : {A : Type 0} (x : A) (w : List A) (at : ℕ) (l : List A) → at + suc (length w) ≤ length l → placed (x ∷ w) at l ≡ placed w (at + 1) (set l at x)
placed-next x w at l h =
    let z : at + suc (length w) ≡ at + 1 + length w = omega arith in
    let k : at + 1 + length w ≤ length (set l at x) = rw length-set (omega arith) in
    placed-in (x ∷ w) at l h
    ∙ rw z
    (sym (placed-in w (at + 1) (set l at x) k
    ∙ rw (drop-set-lt (at + 1 + length w) l at x (omega arith), add-one)
    (rw (take-suc-set l at x (omega arith), append_assoc))))

-- v behind w: the two stand together as one
pub placed-append : {A : Type 0} (w v : List A) (at : ℕ) (l : List A) → at + (length w + length v) ≤ length l → placed v (at + length w) (placed w at l) ≡ placed (w ++ v) at l
placed-append [] v at l h =
    let z : at + 0 ≡ at = omega arith in
    ap (λ (n : ℕ). placed v n (placed [] at l)) z ∙ ap (placed v at) (placed-none at l (omega arith))
placed-append (x ∷ w) v at l h =
    let z : at + suc (length w) ≡ at + 1 + length w = omega arith in
    let k : at + 1 + (length w + length v) ≤ length (set l at x) = rw length-set (omega arith) in
    let n : at + suc (length (w ++ v)) ≤ length l = rw length-append (omega arith) in
    ap (λ (i : ℕ). placed v i (placed (x ∷ w) at l)) z
    ∙ ap (placed v (at + 1 + length w)) (placed-next x w at l (omega arith))
    ∙ placed-append w v (at + 1) (set l at x) k
    ∙ sym (placed-next x (w ++ v) at l n)

-- a copy that has come to the place i: what is left is placed behind it
pub placed_on : {A : Type 0} (w : List A) (d : A) (at i : ℕ) (l : List A) → i < length w → at + length w ≤ length l
    → placed (drop i w) (at + i) l ≡ placed (drop (i + 1) w) (at + (i + 1)) (set l (at + i) (get_or w i d))
placed_on w d at i l h k =
    let z : at + (i + 1) ≡ at + i + 1 = omega arith in
    let n : at + i + suc (length (drop (i + 1) w)) ≤ length l = rw length-drop (omega arith) in
    rw (drop-next w i d h, z) (placed-next (get_or w i d) (drop (i + 1) w) (at + i) l n)

pub placed_end : {A : Type 0} (w : List A) (at i : ℕ) (l : List A) → i ≡ length w → at + i ≤ length l → placed (drop i w) (at + i) l ≡ l
placed_end w at i l e h = rw (e, drop-length w) (placed-none (at + length w) l (rw (sym e) h))

-- what is placed where nothing fits
pub unplaced : {A : Type 0} (w : List A) (at : ℕ) (l : List A) → length l < at + length w → (false ≡ fits w at l) × (l ≡ placed w at l)
unplaced w at l h = (sym (lt-leb (at + length w) (length l) h), sym (placed-out w at l h))
