-- Digits, once over the base and the width: what is written spells the number, and what spells a number is what is written.
use Rattle.std.specs.Prelude.{Some, None, if◌then◌else◌}
use Prim.Native.Nat.{ℕ, zero, suc, ◌+◌, ◌-◌, ◌*◌, ◌/◌, ◌%◌, ◌^◌, ◌≤◌, ◌<◌}
use mathlib.Core.Path.{◌≡◌, refl, ap, sym, ◌∙◌}
use mathlib.Core.Bool.{Bool, true, false}
use mathlib.Core.List.{List, [], ◌∷◌, ◌++◌, append_assoc}
use native.Mathlib.Nat.{one-le-pow, le-mul_of_pos_right, pow-succ', pow-suc, pow-zero, mul-one, mul_assoc, add-mul, mod-lt, mod-eq_of_lt, div-add-mod', div-lt_iff_lt-mul, le-div_iff_mul-le, mul-le-mul_right, mul-add-div_right, mul-add-mod_self_right}
use native.Mathlib.Omega.{arith}
use borrow.Author.Tests.{ltb-true, ltb-false, lt-ltb, le-ltb, le-leb, lt-leb, leb-true}
use lib.ListN.{length, get_or, drop, set, length-append, length-set}
use lib.Seq.{drop-length, drop-cons, drop-set-lt, take-set-le, get_or-set_same}
use Rattle.octets.specs.Words.{◌and◌, ◌<?◌, ◌≤?◌, between, every}
use Rattle.octets.proofs.Tests.{if_yes, if_no, and_left, and_right, and_both, and-not-left, and-not-right, inside, above, inside-low, inside-high}
use Rattle.octets.specs.Bytes.{placed}
use Rattle.octets.proofs.Lists.{drop-next, placed-in, placed-none}
use Rattle.text.specs.Digits.{digit, worth, is_digit, value, digits}
use Rattle.text.specs.Steps.{worth_in, spelled}

-- ---- one digit

pub worth-digit : (d : ℕ) → d < 16 → worth (digit d) ≡ d
worth-digit d h = go (d <? 10) refl
  where
    go : (t : Bool) → (d <? 10) ≡ t → worth (if t then 0x30 + d else 0x57 + d) ≡ d
    go true e =
        let k = ltb-true d 10 e in
        if_yes _ _ _ (inside 0x30 0x39 (0x30 + d) (omega arith) (omega arith)) ∙ omega arith
    go false e =
        let k = ltb-false d 10 e in
        if_no _ _ _ (above 0x30 0x39 (0x57 + d) (omega arith)) ∙ if_yes _ _ _ (inside 0x61 0x66 (0x57 + d) (omega arith) (omega arith)) ∙ omega arith

pub digit-worth : (b : ℕ) → worth b < 16 → digit (worth b) ≡ b
digit-worth b h = go (between 0x30 0x39 b) (between 0x61 0x66 b) refl refl h
  where
    go : (t u : Bool) → between 0x30 0x39 b ≡ t → between 0x61 0x66 b ≡ u → (if t then b - 0x30 else (if u then b - 0x57 else 16)) < 16
        → digit (if t then b - 0x30 else (if u then b - 0x57 else 16)) ≡ b
    go true u e f k =
        let l = inside-low 0x30 0x39 b e in
        let m = inside-high 0x30 0x39 b e in
        if_yes _ _ _ (lt-ltb (b - 0x30) 10 (omega arith)) ∙ omega arith
    go false true e f k =
        let l = inside-low 0x61 0x66 b f in
        let m = inside-high 0x61 0x66 b f in
        if_no _ _ _ (le-ltb (b - 0x57) 10 (omega arith)) ∙ omega arith
    go false false e f k = absurd (omega arith)

-- ---- reading from the left: n is what was read before the text s

abbrev pub on : ℕ → ℕ → List ℕ → ℕ
on base n s = n * base ^ length s + value base s

pub on-next : (base n b : ℕ) (s : List ℕ) → on base n (b ∷ s) ≡ on base (n * base + worth b) s
unfolding value
on-next base n b s =
    let p = base ^ length s in
    omega (arith, ap (λ (x : ℕ). n * x) (pow-succ' base (length s)), mul_assoc n base p, add-mul (n * base) (worth b) p)

pub on-end : (base n : ℕ) → on base n [] ≡ n
unfolding value
on-end base n = omega (arith, ap (λ (x : ℕ). n * x) (pow-zero base), mul-one n)

-- ---- digits spell

pub value-below : (base : ℕ) (s : List ℕ) → every (is_digit base) s ≡ true → value base s < base ^ length s
unfolding value
value-below base [] e = omega (arith, pow-zero base)
value-below base (b ∷ s) e =
    let p = base ^ length s in
    let h = ltb-true (worth b) base (and_left _ _ e) in
    let k = value-below base s (and_right (is_digit base b) _ e) in
    let m : (worth b + 1) * p ≤ base * p = mul-le-mul_right p (omega arith) in
    omega (arith, add-mul (worth b) 1 p, pow-succ' base (length s))

length_last : (s : List ℕ) (b : ℕ) → length (s ++ (b ∷ [])) ≡ suc (length s)
length_last s b = length-append s (b ∷ []) ∙ omega arith

value-last : (base : ℕ) (s : List ℕ) (b : ℕ) → value base (s ++ (b ∷ [])) ≡ value base s * base + worth b
unfolding value
value-last base [] b = omega (arith, ap (λ (x : ℕ). worth b * x) (pow-zero base), mul-one (worth b))
value-last base (x ∷ s) b =
    let p = base ^ length s in
    let l : base ^ length (s ++ (b ∷ [])) ≡ p * base = ap (λ (k : ℕ). base ^ k) (length_last s b) ∙ pow-suc base (length s) in
    omega (arith, value-last base s b, ap (λ (k : ℕ). worth x * k) l, mul_assoc (worth x) p base, add-mul (worth x * p) (value base s) base)

every-last : (p : ℕ → Bool) (s : List ℕ) (b : ℕ) → every p s ≡ true → p b ≡ true → every p (s ++ (b ∷ [])) ≡ true
every-last p [] b e f = and_both _ _ f refl
every-last p (x ∷ s) b e f = and_both _ _ (and_left (p x) _ e) (every-last p s b (and_right (p x) _ e) f)

pub length_digits : (base n v : ℕ) → length (digits base n v) ≡ n
unfolding digits
length_digits base zero v = refl
length_digits base (suc n) v = length_last (digits base n (v / base)) _ ∙ ap suc (length_digits base n (v / base))

module _ (base : ℕ) (some-base : 0 < base) (to-sixteen : base ≤ 16) where
  last-worth : (v : ℕ) → worth (digit (v % base)) ≡ v % base
  last-worth v = let h : v % base < base = mod-lt v some-base in worth-digit (v % base) (omega arith)

  pub all_digits : (n v : ℕ) → every (is_digit base) (digits base n v) ≡ true
  unfolding digits
  all_digits zero v = refl
  all_digits (suc n) v =
      let h : worth (digit (v % base)) < base = rw (last-worth v) (mod-lt v some-base) in
      every-last (is_digit base) (digits base n (v / base)) _ (all_digits n (v / base)) (lt-ltb _ _ h)

  shorter : (n v : ℕ) → v < base ^ suc n → v / base < base ^ n
  shorter n v h = (div-lt_iff_lt-mul {k = base} {x = v} {y = base ^ n} some-base).1 (omega (arith, pow-suc base n))

  -- what is written spells the number
  pub value-digits : (n v : ℕ) → v < base ^ n → value base (digits base n v) ≡ v
  unfolding value digits
  value-digits zero v h = omega (arith, pow-zero base)
  value-digits (suc n) v h =
      value-last base (digits base n (v / base)) (digit (v % base))
      ∙ rw (value-digits n (v / base) (shorter n v h), last-worth v) (div-add-mod' v base)

  first-digit : (n d v : ℕ) → d < base → v < base ^ n → digits base (suc n) (d * base ^ n + v) ≡ digit d ∷ digits base n v
  unfolding digits
  first-digit zero d v l h =
      let e : d * base ^ zero + v ≡ d = omega (arith, pow-zero base, ap (λ (x : ℕ). d * x) (pow-zero base), mul-one d) in
      rw (e, mod-eq_of_lt l)
  first-digit (suc n) d v l h =
      let p = d * base ^ n in
      let e : d * base ^ suc n + v ≡ p * base + v = omega (arith, ap (λ (x : ℕ). d * x) (pow-suc base n), mul_assoc d (base ^ n) base) in
      rw (e, mul-add-div_right some-base p (v), mul-add-mod_self_right p base v)
      (ap (λ (s : List ℕ). s ++ (digit (v % base) ∷ [])) (first-digit n d (v / base) l (shorter n v h)))

  -- what spells a number is what is written
  pub digits_value : (s : List ℕ) → every (is_digit base) s ≡ true → digits base (length s) (value base s) ≡ s
  unfolding value digits
  digits_value [] e = refl
  digits_value (b ∷ s) e =
      let h = ltb-true (worth b) base (and_left _ _ e) in
      let k = and_right (is_digit base b) _ e in
      first-digit (length s) (worth b) (value base s) h (value-below base s k) ∙ rw (digit-worth b (omega arith), digits_value s k)

-- ---- what the code goes by

module _ (base n : ℕ) (s : List ℕ) (i : ℕ) where
  pub on-at : i < length s → on base n (drop i s) ≡ on base (n * base + worth (get_or s i 0)) (drop (i + 1) s)
  on-at h = rw (drop-next s i 0 h) (on-next base n (get_or s i 0) (drop (i + 1) s))

  pub on-done : i ≡ length s → on base n (drop i s) ≡ n
  on-done e = rw (e, drop-length s) (on-end base n)

-- the room that a division leaves
pub in-room : (base limit n : ℕ) → 0 < base → n ≤ limit / base → n * base ≤ limit
in-room base limit n h k = (le-div_iff_mul-le {k = base} {x = n} {y = limit} h).0 k

pub no_room : (base limit n : ℕ) → 0 < base → limit / base < n → limit < n * base
no_room base limit n h k = (div-lt_iff_lt-mul {k = base} {x = limit} {y = n} h).0 k

-- what a digit is worth
pub worth_in-some : (base b d : ℕ) → worth_in base b ≡ Some d → (is_digit base b ≡ true) × (worth b ≡ d)
worth_in-some base b d e = go (is_digit base b) refl e
  where
    go : (t : Bool) → is_digit base b ≡ t → (if t then Some (worth b) else None) ≡ Some d → (is_digit base b ≡ true) × (worth b ≡ d)
    go true f g = (f, cc)
    go false f g = cc

-- what is past the limit stays past it
pub spelled-past : (base limit n : ℕ) (s : List ℕ) (i : ℕ) → 0 < base → i < length s → value base s ≡ on base n (drop i s) → limit < n * base + worth (get_or s i 0)
    → spelled base limit s ≡ None
spelled-past base limit n s i h l e k =
    let m = n * base + worth (get_or s i 0) in
    let t = drop (i + 1) s in
    let p : m ≤ m * base ^ length t = le-mul_of_pos_right m (one-le-pow (length t) base h) in
    let f : value base s ≡ on base m t = e ∙ on-at base n s i l in
    if_no _ _ _ (and-not-right (every (is_digit base) s) _ (lt-leb (value base s) limit (omega arith)))

pub spelled-not : (base limit : ℕ) (s : List ℕ) → every (is_digit base) s ≡ false → spelled base limit s ≡ None
spelled-not base limit s e = if_no _ _ _ (and-not-left _ _ e)

pub spelled_is : (base limit n : ℕ) (s : List ℕ) → every (is_digit base) s ≡ true → value base s ≡ n → n ≤ limit → spelled base limit s ≡ Some n
spelled_is base limit n s e f h = if_yes _ _ _ (and_both _ _ e (rw f (le-leb n limit h))) ∙ ap Some f

pub spelled-most : (base limit : ℕ) (s : List ℕ) (v : ℕ) → spelled base limit s ≡ Some v → v ≤ limit
spelled-most base limit s v e = go (every (is_digit base) s and value base s ≤? limit) refl e
  where
    go : (t : Bool) → (every (is_digit base) s and value base s ≤? limit) ≡ t → (if t then Some (value base s) else None) ≡ Some v → v ≤ limit
    go true f g = let z : value base s ≡ v = cc in omega (arith, leb-true (value base s) limit (and_right (every (is_digit base) s) _ f))
    go false f g = let z : ◌≡◌ {A = ℕ} 0 1 = cc in absurd (omega arith)

-- a text that ends in b: b is stored at its place, and the rest before it
placed-last : (w : List ℕ) (b at : ℕ) (l : List ℕ) → at + suc (length w) ≤ length l → placed (w ++ (b ∷ [])) at l ≡ placed w at (set l (at + length w) b)
placed-last w b at l h =
    let m = at + length w in
    let z : at + length (w ++ (b ∷ [])) ≡ suc m = rw (length_last w b) (omega arith) in
    let k : m < length (set l m b) = rw length-set (omega arith) in
    placed-in (w ++ (b ∷ [])) at l (omega arith)
    ∙ rw (z, append_assoc)
    (sym (placed-in w at (set l m b) (omega arith)
    ∙ rw (take-set-le at l m b (omega arith), drop-cons (set l m b) m 0 k)
    (rw (get_or-set_same l m b 0 (omega arith), drop-set-lt (suc m) l m b (omega arith)))))

pub digits_last : (base left n at : ℕ) (l : List ℕ) → 0 < left → at + left ≤ length l
    → placed (digits base left n) at l ≡ placed (digits base (left - 1) (n / base)) at (set l (at + (left - 1)) (digit (n % base)))
unfolding digits
digits_last base zero n at l h k = absurd (omega arith)
digits_last base (suc left) n at l h k =
    let e : suc left - 1 ≡ left = omega arith in
    let d = length_digits base left (n / base) in
    rw e (placed-last (digits base left (n / base)) (digit (n % base)) at l (omega arith) ∙ rw d)

pub digits-done : (base n at : ℕ) (l : List ℕ) → at ≤ length l → placed (digits base 0 n) at l ≡ l
unfolding digits
digits-done base n at l h = placed-none at l h
