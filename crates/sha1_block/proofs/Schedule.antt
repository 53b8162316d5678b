-- One block: the quarters of the rounds, four sums as one, and the message schedule word by word.
use Rattle.std.proofs.Common.{◌≡◌, ℕ, zero, suc, ◌+◌, ◌-◌, ◌*◌, ◌%◌, ◌^◌, ◌<◌, ◌≤◌, List, [], length, get_or, take, drop, set, sym, refl, ap, ◌∙◌, add-zero, add_assoc, add-suc, add-one, arith, length-append, get_or-drop, take_all, get_or-take, take-suc-set, le-ltb, lt-ltb}
use lib.Seq.{take-append-le, get_or_at}
use Rattle.sha1_block.specs.Block.{quarter, word, mixed, scheduled, schedule}

-- ---- the rounds

module _ {A : Type 0} (t : ℕ) (p q r s : A) where
  pub quarter-first : t < 20 → p ≡ quarter t p q r s
  unfolding quarter
  quarter-first h = simp (lt-ltb _ _ h)

  pub quarter-second : 20 ≤ t → t < 40 → q ≡ quarter t p q r s
  unfolding quarter
  quarter-second g h = simp (le-ltb _ _ g, lt-ltb _ _ h)

  pub quarter-third : 40 ≤ t → t < 60 → r ≡ quarter t p q r s
  unfolding quarter
  quarter-third g h =
      let e : 20 ≤ t = omega arith in
      simp (le-ltb _ _ e, le-ltb _ _ g, lt-ltb _ _ h)

  pub quarter-fourth : 60 ≤ t → s ≡ quarter t p q r s
  unfolding quarter
  quarter-fourth g =
      let e : 20 ≤ t = omega arith in
      let f : 40 ≤ t = omega arith in
      simp (le-ltb _ _ e, le-ltb _ _ f, le-ltb _ _ g)

-- sums that drop their carry one by one are one sum modulo 2^32
abbrev pub sum : ℕ → ℕ → ℕ
sum x y = (x + y) % 2 ^ 32

carry-left : (a b : ℕ) → sum (a % 2 ^ 32) b ≡ sum a b
carry-left a b = omega arith

carry-right : (a b : ℕ) → sum a (b % 2 ^ 32) ≡ sum a b
carry-right a b = omega arith

order : (r f e k w : ℕ) → r + (f + k) + e + w ≡ r + f + e + k + w
order r f e k w = omega arith

pub sum5 : (r f e k w x y z v : ℕ) → x ≡ sum f k → y ≡ sum r x → z ≡ sum y e → v ≡ sum z w → v ≡ (r + f + e + k + w) % 2 ^ 32
sum5 r f e k w x y z v p q s u =
    let a : y ≡ sum r (f + k) = q ∙ ap (sum r) p ∙ carry-right r (f + k) in
    let b : z ≡ sum (r + (f + k)) e = s ∙ ap (λ n. sum n e) a ∙ carry-left (r + (f + k)) e in
    u ∙ ap (λ n. sum n w) b ∙ carry-left (r + (f + k) + e) w ∙ ap (λ n. n % 2 ^ 32) (order r f e k w)

-- ---- the schedule as it is filled

-- a word of a part is the word at its place in the whole
pub word-part : (s : List ℕ) (at n i : ℕ) → i + 4 ≤ n → word s (at + i) ≡ word (take n (drop at s)) i
word-part s at n i h =
    let h0 : i < n = omega arith in
    let h1 : i + 1 < n = omega arith in
    let h2 : i + 2 < n = omega arith in
    let h3 : i + 3 < n = omega arith in
    simp (get_or-take, get_or-drop, add_assoc)

-- one word more
pub more : (m w : List ℕ) (t v : ℕ) → t < length w → take t w ≡ schedule m t → v ≡ scheduled m t (take t w)
    → take (t + 1) (set w t v) ≡ schedule m (t + 1)
unfolding schedule
more m w t v h p q = rw (add-one, take-suc-set w t v h, q, p)

pub early : (m w : List ℕ) (t : ℕ) → t < 16 → word m (4 * t) ≡ scheduled m t w
unfolding scheduled
early m w t h = simp (lt-ltb _ _ h)

pub late : (m w : List ℕ) (t : ℕ) → 16 ≤ t → mixed w t ≡ scheduled m t (take t w)
unfolding scheduled
late m w t h =
    let h0 : t - 3 < t = omega arith in
    let h1 : t - 8 < t = omega arith in
    let h2 : t - 14 < t = omega arith in
    let h3 : t - 16 < t = omega arith in
    simp (le-ltb _ _ h, get_or-take)

-- ---- the schedule is the standard's recurrence, word by word

size : (m : List ℕ) (n : ℕ) → length (schedule m n) ≡ n
unfolding schedule
size m zero = refl
size m (suc n) =
    let e = size m n in
    simp length-append (omega arith)

front : (m : List ℕ) (t n : ℕ) → take t (schedule m (t + n)) ≡ schedule m t
unfolding schedule
front m t zero =
    let e = size m t in
    rw add-zero (take_all t (schedule m t) (omega arith))
front m t (suc n) =
    let e = size m (t + n) in
    rw (add-suc, take-append-le t (schedule m (t + n)) _ (omega arith)) (front m t n)

at : (m : List ℕ) (t n : ℕ) → get_or (schedule m (suc t + n)) t 0 ≡ scheduled m t (schedule m t)
unfolding schedule
at m t n =
    sym (get_or-take (suc t) (schedule m (suc t + n)) t 0 (omega arith))
    ∙ ap (λ (l : List ℕ). get_or l t 0) (front m (suc t) n)
    ∙ get_or_at (schedule m t) _ [] 0 t (size m t)

module _ (m : List ℕ) (t : ℕ) (h : t < 80) where
  one : get_or (schedule m 80) t 0 ≡ scheduled m t (schedule m t)
  one =
      let whole : suc t + (79 - t) ≡ 80 = omega arith in
      rw whole at (at m t (79 - t))

  -- W t is the block's word t, for t from 0 to 15
  pub word-early : t < 16 → get_or (schedule m 80) t 0 ≡ word m (4 * t)
  word-early p = one ∙ sym (early m (schedule m t) t p)

  -- and ROTL 1 (W (t - 3) ⊕ W (t - 8) ⊕ W (t - 14) ⊕ W (t - 16)), for t from 16 to 79
  pub word-late : 16 ≤ t → get_or (schedule m 80) t 0 ≡ mixed (schedule m 80) t
  word-late p =
      let e : t + (80 - t) ≡ 80 = omega arith in
      let f : take t (schedule m 80) ≡ schedule m t = rw e at (front m t (80 - t)) in
      one ∙ ap (scheduled m t) (sym f) ∙ sym (late m (schedule m 80) t p)
