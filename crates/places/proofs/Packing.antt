-- The sixteen places and the list in them: what a turn of each loop comes to, and how a list stands in its places.
use Rattle.std.specs.Prelude.{if◌then◌else◌}
use mathlib.Core.Path.{◌≡◌, refl, sym, ap, ◌∙◌}
use Prim.Native.Nat.{ℕ, zero, suc, ◌+◌, ◌-◌, ◌≤◌, ◌<◌, min}
use native.Mathlib.Omega.{arith}
use native.Mathlib.Numerals.{add-one}
use native.Mathlib.Decide.{dec_le}
use mathlib.Core.Bool.{Bool, true, false, not}
use mathlib.Core.List.{List, [], ◌∷◌, ◌++◌, append_assoc, append-nil}
use lib.ListN.{length, get_or, set, take, drop, length-append, length-drop, take-append-drop, drop_of_length-le, replicate, replicate-append-replicate, length-replicate}
use lib.Seq.{paste, take-append-le, drop-append-le, drop-drop, length-take-le, take_all, take_at, get_or-take}
use lib.Bits.{bit_or}
use borrow.Author.Tests.{eqb-true, le-leb, le-ltb, lt-leb, lt-ltb}
use Rattle.std.specs.List.{fold, prefix_len}
use Rattle.std.proofs.lemmas.List.Folds.{length-prefix_len}
use Rattle.std.proofs.lemmas.List.Sums.{prefix_len-le-length}
use Rattle.octets.specs.Words.{◌and◌, every, ◌<?◌, ◌≤?◌, ◌=?◌}
use Rattle.octets.proofs.Tests.{and_left, and_right, and_both, and-true, no_true, no_false}
use Rattle.octets.proofs.Lists.{drop-next}
use Rattle.lengths.proofs.Zeros.{or-zero}
use Rattle.places.specs.declared.Held.{Held}
use Rattle.places.specs.Messages.{insert}
use Rattle.places.specs.Places.{blank, is_blank, with_fields, places, place_for}

-- ---- places in order

-- the messages from i on, of the first n: the one at i, then the rest
pub rest_at : (l : List Held) (i n : ℕ) → i < n → n ≤ length l → drop i (take n l) ≡ get_or l i blank ∷ drop (i + 1) (take n l)
rest_at l i n h k =
    drop-next (take n l) i blank (rw (length-take-le n l k) h) ∙ ap (λ (m : Held). m ∷ drop (i + 1) (take n l)) (get_or-take n l i blank h)

pub rest_end : (l : List Held) (i n : ℕ) → n ≤ i → n ≤ length l → drop i (take n l) ≡ []
rest_end l i n h k = drop_of_length-le (take n l) {i = i} (rw (length-take-le n l k) h)

-- the places from n on, n cut to sixteen
pub past : (l : List Held) (n k : ℕ) → length l ≡ 16 → k ≡ min n 16 → take (16 - k) (drop k l) ≡ drop n l
past l n k e q = take_all (16 - k) (drop k l) (rw (length-drop k l) (omega arith)) ∙ go (dec_le n 16)
  where
    go : Dec (n ≤ 16) → drop k l ≡ drop n l
    go (yes h) = ap (λ (j : ℕ). drop j l) (let p : k ≡ n = omega arith in p)
    go (no h) = drop_of_length-le l {i = k} (omega arith) ∙ sym (drop_of_length-le l {i = n} (omega arith))

module _ {A : Type 0} where
  -- each element from p on was copied one place up, and x stored at p
  moved-up : (h : List A) (p k n : ℕ) (x : A) → length h ≡ n → k + p + 1 ≡ n → set (take (suc p) h ++ take k (drop p h) ++ drop n h) p x ≡ take n (take p h ++ (x ∷ drop p h))
  moved-up [] p k n x e q = absurd (omega arith)
  moved-up (y ∷ t) p k zero x e q = absurd (omega arith)
  moved-up (y ∷ t) zero k (suc m) x e q =
      let z : drop m t ≡ [] = drop_of_length-le t {i = m} (omega arith) in
      let i : k ≡ m = omega arith in
      rw (z, append-nil (take k (y ∷ t)), i) refl
  moved-up (y ∷ t) (suc p) k (suc m) x e q = ap (λ (r : List A). y ∷ r) (moved-up t p k m x (omega arith) (omega arith))

  pub one-more : (h : List A) (p : ℕ) (x : A) → length h ≡ 16 → p < 16 → set (paste h (p + 1) (drop p h) (15 - p)) p x ≡ take 16 (take p h ++ (x ∷ drop p h))
  one-more h p x e q =
      ap (λ (j : ℕ). set (take j h ++ take (15 - p) (drop p h) ++ drop (p + 1 + (15 - p)) h) p x) (add-one p)
      ∙ ap (λ (j : ℕ). set (take (suc p) h ++ take (15 - p) (drop p h) ++ drop j h) p x) (let i : p + 1 + (15 - p) ≡ 16 = omega arith in i)
      ∙ moved-up h p (15 - p) 16 x e (omega arith)

  -- each element but the first was copied one place down, and x stored in the last place
  moved-down : (t d : List A) (x : A) → length d ≡ 1 → set (t ++ d) (length t) x ≡ t ++ (x ∷ [])
  moved-down [] [] x e = absurd (omega arith)
  moved-down [] (y ∷ []) x e = refl
  moved-down [] (y ∷ z ∷ d) x e = absurd (omega arith)
  moved-down (y ∷ t) d x e = ap (λ (r : List A). y ∷ r) (moved-down t d x e)

  pub one-less : (h : List A) (x : A) → length h ≡ 16 → set (paste h 0 (drop 1 h) 15) 15 x ≡ drop 1 h ++ (x ∷ [])
  one-less [] x e = absurd (omega arith)
  one-less (y ∷ t) x e =
      let l : 15 ≡ length t = omega arith in
      rw (take_all 15 t (omega arith)) (ap (λ (n : ℕ). set (t ++ drop 14 t) n x) l ∙ moved-down t (drop 14 t) x (rw (length-drop 14 t) (omega arith)))

-- the lowest of the held messages, where there is one
pub lowest-of : (l : List Held) (n : ℕ) → 0 < n → 0 < length l → take n l ≡ get_or l 0 blank ∷ take (n - 1) (drop 1 l)
lowest-of l zero h k = absurd (omega arith)
lowest-of [] (suc n) h k = absurd (omega arith)
lowest-of (x ∷ xs) (suc n) h k = ap (λ (j : ℕ). x ∷ take j xs) (let e : n ≡ suc n - 1 = omega arith in e)

-- ---- empty places

is-blank : (m : Held) → is_blank m ≡ true → m ≡ blank
is-blank m e =
    let b = and_right (m.number =? 0) _ e in
    let p = eqb-true m.number 0 (and_left _ _ e) in
    let q = eqb-true m.timeout 0 (and_left _ _ b) in
    let r = eqb-true m.slip 0 (and_right (m.timeout =? 0) _ b) in
    λ i. record { number = p i; timeout = q i; slip = r i }

pub blanks : (l : List Held) → every is_blank l ≡ true → l ≡ replicate (length l) blank
blanks [] e = refl
blanks (m ∷ l) e =
    ap (λ (x : Held). x ∷ l) (is-blank m (and_left (is_blank m) _ e)) ∙ ap (λ (r : List Held). blank ∷ r) (blanks l (and_right (is_blank m) _ e))

pub all-blank : (n : ℕ) → every is_blank (replicate n blank) ≡ true
all-blank zero = refl
all-blank (suc n) = all-blank n

-- what is gathered from empty places is 0, and from no others
pub bare-gathered : (g : ℕ) (l : List Held) → (fold with_fields g l =? 0) ≡ (g =? 0) and every is_blank l
bare-gathered g [] = sym (and-true (g =? 0))
bare-gathered g (m ∷ l) =
    bare-gathered (with_fields g m) l
    ∙ rw (or-zero (bit_or (bit_or g m.number) m.timeout) m.slip, or-zero (bit_or g m.number) m.timeout, or-zero g m.number)
    (regroup (g =? 0) (m.number =? 0) (m.timeout =? 0) (m.slip =? 0) (every is_blank l))
  where
    regroup : (g x y z e : Bool) → (((g and x) and y) and z) and e ≡ g and ((x and y and z) and e)
    regroup false x y z e = refl
    regroup true false y z e = refl
    regroup true true false z e = refl
    regroup true true true z e = refl

blank-more : (l : List Held) → every is_blank l ≡ true → every is_blank (l ++ (blank ∷ [])) ≡ true
blank-more [] e = refl
blank-more (m ∷ l) e = and_both _ _ (and_left (is_blank m) _ e) (blank-more l (and_right (is_blank m) _ e))

-- ---- a list in its places

-- the places l have n messages in front: there are sixteen, and those from n on are empty
pub record Placed (n : ℕ) (l : List Held) : Type 0 where
  pub long : length l ≡ 16
  pub most : n ≤ 16
  pub bare : every is_blank (drop n l) ≡ true

module _ (n : ℕ) (l : List Held) (w : Placed n l) where
  pub counted : n ≡ length (take n l)
  counted = sym (length-take-le n l (omega arith))

  pub placed : l ≡ places (take n l)
  placed =
      let m : length (drop n l) ≡ 16 - length (take n l) = length-drop n l ∙ ap (λ (k : ℕ). k - n) w.long ∙ ap (λ (k : ℕ). 16 - k) counted in
      sym (take-append-drop n l) ∙ ap (λ (r : List Held). take n l ++ r) (blanks (drop n l) w.bare ∙ ap (λ (k : ℕ). replicate k blank) m)

-- without the first
module _ (n : ℕ) (l : List Held) (z : 0 < n) (w : Placed n l) where
  rest-places : Placed (n - 1) (drop 1 l ++ (blank ∷ []))
  rest-places =
      record {
        long = length-append (drop 1 l) (blank ∷ []) ∙ ap (λ (k : ℕ). k + 1) (length-drop 1 l) ∙ ap (λ (k : ℕ). k - 1 + 1) w.long;
        most = omega arith;
        bare =
            ap (every is_blank) (drop-append-le (n - 1) (drop 1 l) (blank ∷ []) (rw (length-drop 1 l) (omega arith)))
            ∙ blank-more (drop (n - 1) (drop 1 l)) (ap (every is_blank) (drop-drop (n - 1) 1 l ∙ ap (λ (k : ℕ). drop k l) (let e : 1 + (n - 1) ≡ n = omega arith in e)) ∙ w.bare);
      }

  pub rest-taken : take (n - 1) (drop 1 l ++ (blank ∷ [])) ≡ take (n - 1) (drop 1 l)
  rest-taken = take-append-le (n - 1) (drop 1 l) (blank ∷ []) (rw (length-drop 1 l) (omega arith))

  pub rest-placed : drop 1 l ++ (blank ∷ []) ≡ places (take (n - 1) (drop 1 l))
  rest-placed = placed (n - 1) (drop 1 l ++ (blank ∷ [])) rest-places ∙ ap places rest-taken

  pub rest-counted : n - 1 ≡ length (take (n - 1) (drop 1 l))
  rest-counted = counted (n - 1) (drop 1 l ++ (blank ∷ [])) rest-places ∙ ap length rest-taken

-- with one more
pub place-le : (n : ℕ) (l : List Held) → place_for n l ≤ length l
place-le n l = rw (length-prefix_len (λ m. m.number ≤? n) l) (prefix_len-le-length (λ m. m.number ≤? n) l)

le-or-lt : (a b : ℕ) → (a ≤? b) ≡ not (b <? a)
le-or-lt a b = go (dec_le a b)
  where
    go : Dec (a ≤ b) → (a ≤? b) ≡ not (b <? a)
    go (yes h) = le-leb a b h ∙ sym (no_false _ (le-ltb b a h))
    go (no h) = lt-leb a b (omega arith) ∙ sym (no_true _ (lt-ltb b a (omega arith)))

abbrev not-above : ℕ → Held → Bool
not-above n m = m.number ≤? n

insert-at : (x : Held) (l : List Held) → insert x l ≡ take (prefix_len (not-above x.number) l) l ++ (x ∷ drop (prefix_len (not-above x.number) l) l)
insert-at x [] = refl
insert-at x (m ∷ l) = rw (le-or-lt m.number x.number) (turn (x.number <? m.number) (insert-at x l))
  where
    p : ℕ
    p = prefix_len (not-above x.number) l

    at : ℕ → List Held
    at k = take k (m ∷ l) ++ (x ∷ drop k (m ∷ l))

    turn : (b : Bool) → insert x l ≡ take p l ++ (x ∷ drop p l) → (if b then x ∷ m ∷ l else (m ∷ insert x l)) ≡ at (if not b then (1 + p) else 0)
    turn true ih = refl
    turn false ih = ap (λ (r : List Held). m ∷ r) ih ∙ ap at (let e : suc p ≡ 1 + p = omega arith in e)

insert-is : (x : Held) (l : List Held) → insert x l ≡ take (place_for x.number l) l ++ (x ∷ drop (place_for x.number l) l)
insert-is x l = insert-at x l ∙ ap (λ (k : ℕ). take k l ++ (x ∷ drop k l)) (sym (length-prefix_len (not-above x.number) l))

pub length-insert : (x : Held) (l : List Held) → length (insert x l) ≡ length l + 1
length-insert x l =
    let p = place_for x.number l in
    let h : p ≤ length l = place-le x.number l in
    ap length (insert-is x l) ∙ length-append (take p l) (x ∷ drop p l) ∙ simp (length-take-le p l, length-drop) (omega arith)

pub length-places : (l : List Held) → length l ≤ 16 → length (places l) ≡ 16
length-places l h = length-append l (replicate (16 - length l) blank) ∙ ap (λ (k : ℕ). length l + k) (length-replicate (16 - length l) blank) ∙ (omega arith)

-- the places after a store in the middle
pub more-placed : (x : Held) (l : List Held) → length l < 16
    → take 16 (take (place_for x.number l) (places l) ++ (x ∷ drop (place_for x.number l) (places l))) ≡ places (insert x l)
more-placed x l h =
    let p = place_for x.number l in
    let z = replicate (16 - length l) blank in
    let q : p ≤ length l = place-le x.number l in
    let k : 16 - length l ≡ (16 - length (insert x l)) + 1 = rw (length-insert x l) (omega arith) in
    ap (λ (r : List Held). take 16 (r ++ (x ∷ drop p (places l)))) (take-append-le p l z q)
    ∙ ap (λ (r : List Held). take 16 (take p l ++ (x ∷ r))) (drop-append-le p l z q)
    ∙ ap (take 16) (sym (append_assoc (take p l) (x ∷ drop p l) z))
    ∙ ap (λ (r : List Held). take 16 (r ++ z)) (sym (insert-is x l))
    ∙ ap (λ (j : ℕ). take 16 (insert x l ++ replicate j blank)) k
    ∙ ap (λ (r : List Held). take 16 (insert x l ++ r)) (sym (replicate-append-replicate (16 - length (insert x l)) 1 blank))
    ∙ ap (take 16) (sym (append_assoc (insert x l) (replicate (16 - length (insert x l)) blank) (blank ∷ [])))
    ∙ take_at (places (insert x l)) (blank ∷ []) 16 (length-places (insert x l) (rw (length-insert x l) (omega arith)))

pub more-taken : (x : Held) (l : List Held) → take (length l + 1) (places (insert x l)) ≡ insert x l
more-taken x l = take_at (insert x l) (replicate (16 - length (insert x l)) blank) (length l + 1) (length-insert x l)
