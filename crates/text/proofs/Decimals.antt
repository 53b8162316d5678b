-- Decimals: what is written is read back as the number, for every limit; what is read and written again is the same bytes.
use Rattle.std.specs.Prelude.{Some, if◌then◌else◌}
use Prim.Native.Nat.{ℕ, zero, suc, ◌+◌, ◌*◌, ◌/◌, ◌%◌, ◌^◌, ◌≤◌, ◌<◌}
use mathlib.Core.Path.{◌≡◌, refl, ap, sym, ◌∙◌}
use mathlib.Core.Bool.{Bool, true, false}
use mathlib.Core.List.{List, [], ◌∷◌}
use native.Mathlib.Nat.{pow-suc, one-le-pow, mod-eq_of_lt, mul-le-mul_right, one-mul}
use native.Mathlib.Numerals.{add-one}
use native.Mathlib.Omega.{arith}
use borrow.Author.Tests.{ltb-true, ltb-false, lt-ltb, le-ltb, le-leb, ne_eqb, eqb-true, eqb-false}
use lib.ListN.{length, get_or, drop, get_or-append}
use lib.IntN.{ℤ, pos, negsuc, neg_ℤ}
use mir.Syntax.{w64}
use mir.Val.{SFits}
use Rattle.octets.specs.Words.{◌and◌, no, ◌<?◌, ◌=?◌, every}
use Rattle.octets.proofs.Tests.{if_yes, true-not-false, and_left, and_right, and_both, and-not-right, and-next, no_false}
use Rattle.octets.proofs.Lists.{every-at}
use Rattle.text.specs.Digits.{digit, worth, is_digit, value, digits}
use Rattle.text.specs.Decimal.{leading_zero, begins, is_decimal, number, is_number, number_of, count_in, count, decimal, has_minus, is_signed, signed, signed_of, signed_decimal}
use Rattle.text.proofs.Numerals.{digit-worth, value-below, length_digits, all_digits, value-digits, digits_value}

-- ---- how many digits

abbrev turned : ℕ → ℕ → ℕ
turned k v = count_in k (v <? 10) v

small : (k v : ℕ) → v < 10 → turned k v ≡ 1
unfolding count_in
small zero v h = refl
small (suc k) v h = rw (lt-ltb v 10 h)

next : (k v : ℕ) → 9 < v → turned (suc k) v ≡ turned k (v / 10) + 1
unfolding count_in
next k v h = rw (le-ltb v 10 h)

-- a number has one digit, or its tenth one less
by_ten : {A : Type 0} (v : ℕ) → (v < 10 → A) → (9 < v → A) → A
by_ten {A} v one more = go (v <? 10) refl
  where
    go : (t : Bool) → (v <? 10) ≡ t → A
    go true e = one (ltb-true v 10 e)
    go false e = more (omega (arith, ltb-false v 10 e))

by_count : (P : ℕ → ℕ → Type 0) → ((v : ℕ) → v < 10 → P 1 v) → ((n v : ℕ) → 9 < v → P n (v / 10) → P (suc n) v) → (k v : ℕ) → v ≤ k → P (turned k v) v
by_count P one more zero v h = rw (small zero v (omega arith)) (one v (omega arith))
by_count P one more (suc k) v h =
    by_ten v (λ l. rw (small (suc k) v l) (one v l)) (λ l. rw (next k v l, add-one) (more (turned k (v / 10)) v l (by_count P one more k (v / 10) (omega arith))))

-- turns that are enough come to the same
alike : (k m v : ℕ) → v ≤ k → v ≤ m → turned k v ≡ turned m v
alike zero m v a b = small zero v (omega arith) ∙ sym (small m v (omega arith))
alike (suc k) zero v a b = small (suc k) v (omega arith) ∙ sym (small zero v (omega arith))
alike (suc k) (suc m) v a b =
    by_ten v (λ l. small (suc k) v l ∙ sym (small (suc m) v l)) (λ l. rw (next k v l, next m v l, alike k m (v / 10) (omega arith) (omega arith)))

pub count_small : (v : ℕ) → v < 10 → count v ≡ 1
count_small v h = small v v h

pub count_next : (v : ℕ) → 9 < v → count v ≡ count (v / 10) + 1
count_next zero h = absurd (omega arith)
count_next (suc v) h = next v (suc v) h ∙ ap (λ (n : ℕ). n + 1) (alike v (suc v / 10) (suc v / 10) (omega arith) (omega arith))

count-is : (n v : ℕ) → 10 ^ n ≤ v → v < 10 ^ suc n → count v ≡ suc n
count-is zero v l h = count_small v (omega arith)
count-is (suc n) v l h =
    let p : 1 ≤ 10 ^ n = one-le-pow n 10 (omega arith) in
    omega (arith, count_next v (omega (arith, pow-suc 10 n)), count-is n (v / 10) (omega (arith, pow-suc 10 n)) (omega (arith, pow-suc 10 (suc n))))

count-enough : (v : ℕ) → v < 10 ^ count v
count-enough v = by_count (λ n x. x < 10 ^ n) (λ x h. omega arith) (λ n x h p. omega (arith, pow-suc 10 n)) v v (omega arith)

pub count-some : (v : ℕ) → 0 < count v
count-some v = by_count (λ n x. 0 < n) (λ x h. omega arith) (λ n x h p. omega arith) v v (omega arith)

pub count_most : (v : ℕ) → count v ≤ v + 1
count_most v = by_count (λ n x. n ≤ x + 1) (λ x h. omega arith) (λ n x h p. omega arith) v v (omega arith)

-- ---- what is written is a decimal

-- the first digit of a number above 0 is no zero
first-no-zero : (v : ℕ) → 0 < v → get_or (decimal v) 0 0 ≡ 0x30 → ⊥
unfolding digits
first-no-zero v h = (by_count (λ n x. 0 < n × (0 < x → get_or (digits 10 n x) 0 0 ≡ 0x30 → ⊥)) one more v v (omega arith)).1 h
  where
    one : (x : ℕ) → x < 10 → 0 < 1 × (0 < x → get_or (digits 10 1 x) 0 0 ≡ 0x30 → ⊥)
    one x l = (omega arith, λ p e. let z : 0x30 + x ≡ 0x30 = sym (if_yes _ _ _ (lt-ltb x 10 l)) ∙ ap digit (sym (mod-eq_of_lt l)) ∙ e in omega arith)

    more : (n x : ℕ) → 9 < x → 0 < n × (0 < x / 10 → get_or (digits 10 n (x / 10)) 0 0 ≡ 0x30 → ⊥) → 0 < suc n × (0 < x → get_or (digits 10 (suc n) x) 0 0 ≡ 0x30 → ⊥)
    more n x l p =
        let f = get_or-append (digits 10 n (x / 10)) (digit (x % 10) ∷ []) 0 0 (omega (arith, length_digits 10 n (x / 10))) in
        (omega arith, λ q e. p.1 (omega arith) (sym f ∙ e))

no-leading-zero : (v : ℕ) → leading_zero (decimal v) ≡ false
unfolding digits count_in
no-leading-zero zero = refl
no-leading-zero (suc v) = and-not-right (1 <? length (decimal (suc v))) _ (ne_eqb _ _ (first-no-zero (suc v) (omega arith)))

pub length-decimal : (v : ℕ) → length (decimal v) ≡ count v
length-decimal v = length_digits 10 (count v) v

decimal-is : (v : ℕ) → is_decimal (decimal v) ≡ true
decimal-is v =
    let h : 0 < length (decimal v) = rw (length-decimal v) (count-some v) in
    and_both _ _ (and_both _ _ (lt-ltb _ _ h) (no_false _ (no-leading-zero v))) (all_digits 10 (omega arith) (omega arith) (count v) v)

decimal-back : (v : ℕ) → number (decimal v) ≡ v
decimal-back v = value-digits 10 (omega arith) (omega arith) (count v) v (count-enough v)

number_is : (limit v : ℕ) → v ≤ limit → is_number limit (decimal v) ≡ true
number_is limit v h = and_both _ _ (decimal-is v) (rw (decimal-back v) (le-leb v limit h))

-- reading what was written gives the number, for every limit that it is not above
pub number-back : (limit v : ℕ) → v ≤ limit → number_of limit (decimal v) ≡ Some v
number-back limit v h = if_yes _ _ _ (number_is limit v h) ∙ ap Some (decimal-back v)

-- ---- what is read is written so

decimal-digits : (s : List ℕ) → is_decimal s ≡ true → every (is_digit 10) s ≡ true
decimal-digits s e = and_right (begins s) _ e

no-yes : (t : Bool) → no t ≡ true → t ≡ false
no-yes true e = true-not-false false e refl
no-yes false e = refl

-- a digit that is no zero is worth something
worth-some : (b : ℕ) → is_digit 10 b ≡ true → (b ≡ 0x30 → ⊥) → 0 < worth b
worth-some b e f = go (worth b) (digit-worth b (omega (arith, ltb-true (worth b) 10 e)))
  where
    go : (w : ℕ) → digit w ≡ b → 0 < w
    go zero g = absurd (f (sym g))
    go (suc w) g = omega arith

-- a decimal has as many digits as its number
count-number : (s : List ℕ) → is_decimal s ≡ true → count (number s) ≡ length s
unfolding value
count-number [] e = true-not-false false e refl
count-number (b ∷ []) e = count_small (number (b ∷ [])) (value-below 10 (b ∷ []) (decimal-digits (b ∷ []) e))
count-number (b ∷ c ∷ s) e =
    let n = length (c ∷ s) in
    let z = no-yes (leading_zero (b ∷ c ∷ s)) (and_right (0 <? length (b ∷ c ∷ s)) _ (and_left (begins (b ∷ c ∷ s)) _ e)) in
    let f = eqb-false b 0x30 (sym (and-next (1 <? suc n) (b =? 0x30) (lt-ltb 1 (suc n) (omega arith))) ∙ z) in
    let d = decimal-digits (b ∷ c ∷ s) e in
    let w = worth-some b (and_left _ (every (is_digit 10) (c ∷ s)) d) f in
    let p : 1 * 10 ^ n ≤ worth b * 10 ^ n = mul-le-mul_right (10 ^ n) (omega arith) in
    count-is n (number (b ∷ c ∷ s)) (omega (arith, one-mul (10 ^ n))) (value-below 10 (b ∷ c ∷ s) d)

-- what is read and written again is the same bytes
pub number-forth : (s : List ℕ) → is_decimal s ≡ true → decimal (number s) ≡ s
number-forth s e = rw (count-number s e) (digits_value 10 (omega arith) (omega arith) s (decimal-digits s e))

-- ---- signed

no_minus : (s : List ℕ) → is_decimal s ≡ true → has_minus s ≡ false
no_minus s e = ne_eqb (get_or s 0 0) 0x2D (λ z. true-not-false (is_digit 10 (get_or s 0 0)) (every-at (is_digit 10) s 0 0 (decimal-digits s e) h) (ap (is_digit 10) z))
  where
    h : 0 < length s
    h = ltb-true 0 (length s) (and_left _ _ (and_left (begins s) _ e))

-- reading what was written gives the number, for every number of 64 bits
pub signed_back : (z : ℤ) → SFits w64 z → signed_of (signed_decimal z) ≡ Some z
signed_back (pos m) f =
    let h : m ≤ 9223372036854775807 = omega (arith, f.sfits) in
    rw (no_minus (decimal m) (decimal-is m)) (if_yes _ _ _ (number_is 9223372036854775807 m h) ∙ rw (decimal-back m))
signed_back (negsuc m) f =
    let h : suc m ≤ 9223372036854775808 = omega (arith, f.sfits) in
    let k : 0 < number (decimal (suc m)) = rw (decimal-back (suc m)) (omega arith) in
    if_yes _ _ _ (and_both _ _ (number_is 9223372036854775808 (suc m) h) (lt-ltb 0 _ k)) ∙ rw (decimal-back (suc m))

with-minus : (n : ℕ) → 0 < n → signed_decimal (neg_ℤ (pos n)) ≡ 0x2D ∷ decimal n
with-minus zero h = absurd (omega arith)
with-minus (suc n) h = refl

-- what is read and written again is the same bytes
pub signed-forth : (s : List ℕ) → is_signed s ≡ true → signed_decimal (signed s) ≡ s
signed-forth s e = go s (has_minus s) refl e
  where
    go : (s : List ℕ) (t : Bool) → has_minus s ≡ t → (if t then is_number 9223372036854775808 (drop 1 s) and 0 <? number (drop 1 s) else is_number 9223372036854775807 s) ≡ true
        → signed_decimal (if t then neg_ℤ (pos (number (drop 1 s))) else pos (number s)) ≡ s
    go s false f g = number-forth s (and_left _ _ g)
    go [] true f g = true-not-false (has_minus []) f refl
    go (b ∷ s) true f g =
        let d = number-forth s (and_left _ _ (and_left _ _ g)) in
        let z : b ≡ 0x2D = eqb-true b 0x2D f in
        with-minus (number s) (ltb-true 0 (number s) (and_right (is_number 9223372036854775808 s) _ g)) ∙ rw (d, z)
