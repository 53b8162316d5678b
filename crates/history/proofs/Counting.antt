-- Counting in lists of messages, lists whose numbers rise, and one more message among them.
use Rattle.std.specs.Prelude.{if◌then◌else◌}
use Prim.Native.Nat.{ℕ, ◌+◌, ◌<◌, ◌≤◌}
use native.Mathlib.Omega.{arith}
use native.Mathlib.Decide.{ℕ_discrete}
use mathlib.Core.Path.{◌≡◌, refl, sym, ap, ◌∙◌, subst}
use mathlib.Core.Bool.{Bool, true, false}
use mathlib.Core.List.{List, [], ◌∷◌, ◌++◌}
use mathlib.Core.Logic.{◌⊎◌, inl, inr}
use borrow.Author.Tests.{eq-eqb, ne_eqb, leb-true}
use Rattle.octets.specs.Words.{◌<?◌, ◌≤?◌, ◌=?◌}
use Rattle.octets.proofs.Tests.{and_left, and_right}
use Rattle.places.specs.declared.Held.{Held}
use Rattle.rows.specs.Stream.{ascending, insert}
use Rattle.history.specs.History.{Sent, sent, bit, count, count_held, numbered, In, Rises}

pub bit_is : (n a : ℕ) → a ≡ n → bit (a =? n) ≡ 1
bit_is n a e = ap bit (eq-eqb a n e)

bit-other : (n a : ℕ) → (a ≡ n → ⊥) → bit (a =? n) ≡ 0
bit-other n a h = ap bit (ne_eqb a n h)

pub bit-most : (b : Bool) → bit b ≤ 1
bit-most true = omega arith
bit-most false = omega arith

pub count-append : (p : Sent → Bool) (s t : List Sent) → count p (s ++ t) ≡ count p s + count p t
count-append p [] t = omega arith
count-append p (x ∷ s) t = omega (arith, count-append p s t)

pub held-append : (p : Sent → Bool) (s t : List Held) → count_held p (s ++ t) ≡ count_held p s + count_held p t
held-append p [] t = omega arith
held-append p (m ∷ s) t = omega (arith, held-append p s t)

pub held-insert : (p : Sent → Bool) (x : Held) (l : List Held) → count_held p (insert x l) ≡ bit (p (sent x)) + count_held p l
held-insert p x [] = refl
held-insert p x (m ∷ l) = go (x.number <? m.number) (held-insert p x l)
  where
    go : (b : Bool) → count_held p (insert x l) ≡ bit (p (sent x)) + count_held p l
        → count_held p (if b then x ∷ m ∷ l else (m ∷ insert x l)) ≡ bit (p (sent x)) + (bit (p (sent m)) + count_held p l)
    go true q = refl
    go false q = omega arith

-- ---- held messages in ascending number

pub first-low : (low : ℕ) (m : Held) (l : List Held) → ascending low (m ∷ l) ≡ true → low ≤ m.number
first-low low m l a = leb-true low m.number (and_left (low ≤? m.number) _ a)

pub rest-order : (low : ℕ) (m : Held) (l : List Held) → ascending low (m ∷ l) ≡ true → ascending (m.number + 1) l ≡ true
rest-order low m l a = and_right (low ≤? m.number) _ a

-- below its start there is no number, and no number stands twice
pub held_low : (n low : ℕ) (l : List Held) → n < low → ascending low l ≡ true → count_held (numbered n) l ≡ 0
held_low n low [] h a = refl
held_low n low (m ∷ l) h a =
    let k = first-low low m l a in
    omega (arith, bit-other n m.number (λ e. omega arith), held_low n (m.number + 1) l (omega arith) (rest-order low m l a))

pub held-once : (n low : ℕ) (l : List Held) → ascending low l ≡ true → count_held (numbered n) l ≤ 1
held-once n low [] a = omega arith
held-once n low (m ∷ l) a = go (ℕ_discrete m.number n) (held-once n (m.number + 1) l (rest-order low m l a))
  where
    go : Dec (m.number ≡ n) → count_held (numbered n) l ≤ 1 → bit (m.number =? n) + count_held (numbered n) l ≤ 1
    go (yes e) below = omega (arith, bit-most (m.number =? n), held_low n (m.number + 1) l (omega arith) (rest-order low m l a))
    go (no d) below = omega (arith, bit-other n m.number d)

-- ---- given messages whose numbers rise and stay below a bound

abbrev pub Within : ℕ → ℕ → List Sent → Type 0
Within low high [] = low ≤ high
Within low high (x ∷ l) = (low ≤ x.number) × Within (x.number + 1) high l

pub within-rises : (low high : ℕ) (l : List Sent) → Within low high l → Rises low l
within-rises low high [] w = tt
within-rises low high (x ∷ l) w = (w.0, within-rises (x.number + 1) high l w.1)

within-order : (low high : ℕ) (l : List Sent) → Within low high l → low ≤ high
within-order low high [] w = w
within-order low high (x ∷ l) w = omega (arith, w.0, within-order (x.number + 1) high l w.1)

pub within_more : (low high : ℕ) (x : Sent) (l : List Sent) → high ≤ x.number → Within low high l → Within low (x.number + 1) (l ++ (x ∷ []))
within_more low high x [] h w = (omega arith, omega arith)
within_more low high x (y ∷ l) h w = (w.0, within_more (y.number + 1) high x l h w.1)

pub count-high : (n low high : ℕ) (l : List Sent) → high ≤ n → Within low high l → count (numbered n) l ≡ 0
count-high n low high [] h w = refl
count-high n low high (x ∷ l) h w =
    let k = within-order (x.number + 1) high l w.1 in
    omega (arith, bit-other n x.number (λ e. omega arith), count-high n (x.number + 1) high l h w.1)

count_low : (n low : ℕ) (l : List Sent) → n < low → Rises low l → count (numbered n) l ≡ 0
count_low n low [] h r = refl
count_low n low (x ∷ l) h r = let k = r.0 in omega (arith, bit-other n x.number (λ e. omega arith), count_low n (x.number + 1) l (omega arith) r.1)

pub count-once : (n low : ℕ) (l : List Sent) → Rises low l → count (numbered n) l ≤ 1
count-once n low [] r = omega arith
count-once n low (x ∷ l) r = go (ℕ_discrete x.number n) (count-once n (x.number + 1) l r.1)
  where
    go : Dec (x.number ≡ n) → count (numbered n) l ≤ 1 → bit (x.number =? n) + count (numbered n) l ≤ 1
    go (yes e) below = omega (arith, bit-most (x.number =? n), count_low n (x.number + 1) l (omega arith) r.1)
    go (no d) below = omega (arith, bit-other n x.number d)

-- ---- membership

pub in-append : (m : Held) (s t : List Held) → In m s → In m (s ++ t)
in-append m [] t i = absurd i
in-append m (x ∷ s) t (inl e) = inl e
in-append m (x ∷ s) t (inr i) = inr (in-append m s t i)

pub in-last : (m : Held) (s : List Held) → In m (s ++ (m ∷ []))
in-last m [] = inl refl
in-last m (x ∷ s) = inr (in-last m s)

pub in_insert : (m x : Held) (l : List Held) → In m (insert x l) → (m ≡ x) ⊎ In m l
in_insert m x [] i = i
in_insert m x (y ∷ l) i = go (x.number <? y.number) i (in_insert m x l)
  where
    pass : (m ≡ x) ⊎ In m l → (m ≡ x) ⊎ In m (y ∷ l)
    pass (inl e) = inl e
    pass (inr j) = inr (inr j)

    go : (b : Bool) → In m (if b then x ∷ y ∷ l else (y ∷ insert x l)) → (In m (insert x l) → (m ≡ x) ⊎ In m l) → (m ≡ x) ⊎ In m (y ∷ l)
    go true i f = i
    go false (inl e) f = inr (inl e)
    go false (inr j) f = pass (f j)

in-counts : (m : Held) (l : List Held) → In m l → 1 ≤ count_held (numbered m.number) l
in-counts m [] i = absurd i
in-counts m (x ∷ l) (inl e) = omega (arith, bit_is m.number x.number (ap (λ (y : Held). y.number) (sym e)))
in-counts m (x ∷ l) (inr i) = omega (arith, in-counts m l i)

-- of messages with one number there is one
pub one_of : (a b : Held) (l : List Held) → a.number ≡ b.number → count_held (numbered a.number) l ≤ 1 → In a l → In b l → a ≡ b
one_of a b [] e c i j = absurd i
one_of a b (x ∷ l) e c (inl p) (inl q) = p ∙ sym q
one_of a b (x ∷ l) e c (inl p) (inr j) =
    absurd (omega (arith, bit_is a.number x.number (ap (λ (y : Held). y.number) (sym p)), subst (λ (n : ℕ). 1 ≤ count_held (numbered n) l) (sym e) (in-counts b l j)))
one_of a b (x ∷ l) e c (inr i) (inl q) =
    absurd (omega (arith, bit_is a.number x.number (ap (λ (y : Held). y.number) (sym q) ∙ sym e), in-counts a l i))
one_of a b (x ∷ l) e c (inr i) (inr j) = one_of a b l e (omega arith) i j
