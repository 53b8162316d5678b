-- The register is linear: a byte's eight bits at once, and what stood in the register's lower half rides along.
use Rattle.std.specs.Prelude.{if◌then◌else◌}
use mathlib.Core.Path.{◌≡◌, refl, sym, ap, ap₂, ◌∙◌}
use mathlib.Core.Bool.{Bool, true, false}
use mathlib.Core.List.{List, [], ◌∷◌}
use Prim.Native.Nat.{ℕ, zero, suc, ◌+◌, ◌*◌, ◌/◌, ◌%◌, ◌^◌, ◌<◌}
use native.Mathlib.Nat.{mod-lt, add-zero}
use native.Mathlib.Omega.{arith}
use lib.Pow.{split, pow_pos}
use lib.Bits.{bit_xor, xor_shr, xor_mod, xor_lt, xor_block, xor_zero_r, xor_shifted}
use Rattle.octets.specs.Words.{◌=?◌}
use Rattle.crc16.specs.Crc.{polynomial, bit_feed, bits_feed, bits}
use Rattle.crc16.proofs.Every.{agree, agreed}
use Rattle.crc16.proofs.Xor.{xor_assoc, xor-swap}

-- ---- one bit

pub bit-lt : (c x : ℕ) → bit_feed c x < 2 ^ 16
unfolding bit_feed
bit-lt c x = by (c / 2 ^ 15 =? x)
  where
    low : c * 2 % 2 ^ 16 < 2 ^ 16
    low = omega arith

    by : (t : Bool) → (if t then c * 2 % 2 ^ 16 else bit_xor (c * 2 % 2 ^ 16) polynomial) < 2 ^ 16
    by true = low
    by false = xor_lt 16 (c * 2 % 2 ^ 16) polynomial low (omega arith)

-- the register by its top bit and the other fifteen
pub by-top : (q r x : ℕ) → q < 2 → r < 2 ^ 15 → bit_feed (q * 2 ^ 15 + r) x ≡ (if q =? x then r * 2 else bit_xor (r * 2) polynomial)
unfolding bit_feed
by-top q r x hq hr =
    let d : (q * 2 ^ 15 + r) / 2 ^ 15 ≡ q = omega arith in
    let m : (q * 2 ^ 15 + r) * 2 % 2 ^ 16 ≡ r * 2 = omega arith in
    rw (d, m)

-- what has no top bit rides along
module _ (h l x : ℕ) (p : l < 2 ^ 15) where
  top : bit_xor h l / 2 ^ 15 ≡ h / 2 ^ 15
  top =
      let z : l / 2 ^ 15 ≡ 0 = omega arith in
      xor_shr h l 15 ∙ ap (bit_xor (h / 2 ^ 15)) z ∙ xor_zero_r (h / 2 ^ 15)

  low : bit_xor h l * 2 % 2 ^ 16 ≡ bit_xor (h * 2 % 2 ^ 16) (l * 2)
  low =
      let z : l * 2 % 2 ^ 16 ≡ l * 2 = omega arith in
      ap (λ (y : ℕ). y % 2 ^ 16)
      (sym (ap₂ bit_xor (sym (add-zero (h * 2))) (sym (add-zero (l * 2))) ∙ xor_block 1 h l 0 0 (pow_pos 1) (pow_pos 1) ∙ add-zero (bit_xor h l * 2)))
      ∙ xor_mod (h * 2) (l * 2) 16
      ∙ ap (bit_xor (h * 2 % 2 ^ 16)) z

  either : (t : Bool) (a b : ℕ) → (if t then bit_xor a b else bit_xor (bit_xor a b) polynomial) ≡ bit_xor (if t then a else bit_xor a polynomial) b
  either true a b = refl
  either false a b = xor-swap a b polynomial

  pub ride : bit_feed (bit_xor h l) x ≡ bit_xor (bit_feed h x) (l * 2)
  unfolding bit_feed
  ride = rw (top, low) (either (h / 2 ^ 15 =? x) (h * 2 % 2 ^ 16) (l * 2))

-- a bit that comes in is a bit added to the top
at_top : (q r x : ℕ) → q < 2 → r < 2 ^ 15 → x < 2 → bit_feed (bit_xor q x * 2 ^ 15 + r) 0 ≡ bit_feed (q * 2 ^ 15 + r) x
at_top q r x hq hr hx = by-top (bit_xor q x) r 0 (xor_lt 1 q x hq hx) hr ∙ same q x hq hx ∙ sym (by-top q r x hq hr)
  where
    same : (q x : ℕ) → q < 2 → x < 2 → (if bit_xor q x =? 0 then r * 2 else bit_xor (r * 2) polynomial) ≡ (if q =? x then r * 2 else bit_xor (r * 2) polynomial)
    same zero zero hq hx = refl
    same zero (suc zero) hq hx = refl
    same (suc zero) zero hq hx = refl
    same (suc zero) (suc zero) hq hx = refl
    same (suc (suc q)) x hq hx = absurd (omega arith)
    same zero (suc (suc x)) hq hx = absurd (omega arith)
    same (suc zero) (suc (suc x)) hq hx = absurd (omega arith)

enter : (c x : ℕ) → c < 2 ^ 16 → x < 2 → bit_feed (bit_xor c (x * 2 ^ 15)) 0 ≡ bit_feed c x
enter c x hc hx =
    let q = c / 2 ^ 15 in
    let r = c % 2 ^ 15 in
    let hq : q < 2 = omega arith in
    let hr : r < 2 ^ 15 = omega arith in
    let e : bit_xor c (x * 2 ^ 15) ≡ bit_xor q x * 2 ^ 15 + r =
    ap₂ bit_xor (sym (split c 15)) (sym (add-zero (x * 2 ^ 15))) ∙ xor_block 15 q x r 0 hr (pow_pos 15) ∙ ap (λ y. bit_xor q x * 2 ^ 15 + y) (xor_zero_r r) in
    rw e (at_top q r x hq hr hx ∙ ap (λ y. bit_feed y x) (split c 15))

-- ---- one byte

-- the register moved n places, with no bit coming in
abbrev pub times : ℕ → ℕ → ℕ
times zero c = c
times (suc n) c = times n (bit_feed c 0)

-- a byte's n highest bits, and the byte without them
abbrev tops : ℕ → ℕ → List ℕ
tops zero b = []
tops (suc n) b = b / 128 ∷ tops n (b * 2 % 256)

abbrev rest : ℕ → ℕ → ℕ
rest zero b = b
rest (suc n) b = rest n (b * 2 % 256)

one : (c b : ℕ) → c < 2 ^ 16 → b < 256 → bit_feed (bit_xor c (b * 2 ^ 8)) 0 ≡ bit_xor (bit_feed c (b / 128)) (b * 2 % 256 * 2 ^ 8)
one c b hc hb =
    let l = b % 128 * 2 ^ 8 in
    let hl : l < 2 ^ 15 = omega arith in
    let e : b * 2 ^ 8 ≡ b / 128 * 2 ^ 15 + l = omega arith in
    let f : b * 2 % 256 ≡ b % 128 * 2 = agreed (λ b. b * 2 % 256) (λ b. b % 128 * 2) 256 refl b hb in
    let d : l * 2 ≡ b * 2 % 256 * 2 ^ 8 = omega arith in
    ap (λ y. bit_feed y 0) (ap (bit_xor c) (e ∙ sym (xor_shifted (b / 128) 15 l hl)) ∙ sym (xor_assoc c (b / 128 * 2 ^ 15) l))
    ∙ ride (bit_xor c (b / 128 * 2 ^ 15)) l 0 hl
    ∙ ap₂ bit_xor (enter c (b / 128) hc (omega arith)) d

several : (n c b : ℕ) → c < 2 ^ 16 → b < 256 → times n (bit_xor c (b * 2 ^ 8)) ≡ bit_xor (bits_feed c (tops n b)) (rest n b * 2 ^ 8)
several zero c b hc hb = refl
several (suc n) c b hc hb = ap (times n) (one c b hc hb) ∙ several n (bit_feed c (b / 128)) (b * 2 % 256) (bit-lt c (b / 128)) (omega arith)

-- eight bits that come in are a byte added to the upper half
pub whole : (c b : ℕ) → c < 2 ^ 16 → b < 256 → bits_feed c (bits b) ≡ times 8 (bit_xor c (b * 2 ^ 8))
whole c b hc hb =
    let gone : rest 8 b ≡ 0 = agreed (rest 8) (λ b. 0) 256 refl b hb in
    let bit : (f : ℕ → ℕ) (n : ℕ) → agree (λ b. rest n b / 128) f 256 ≡ true → rest n b / 128 ≡ f b = λ f n e. agreed (λ b. rest n b / 128) f 256 e b hb in
    let same : tops 8 b ≡ bits b = cc (
      bit (λ b. b / 128 % 2) 0 refl,
      bit (λ b. b / 64 % 2) 1 refl,
      bit (λ b. b / 32 % 2) 2 refl,
      bit (λ b. b / 16 % 2) 3 refl,
      bit (λ b. b / 8 % 2) 4 refl,
      bit (λ b. b / 4 % 2) 5 refl,
      bit (λ b. b / 2 % 2) 6 refl,
      bit (λ b. b % 2) 7 refl,
    ) in
    sym (several 8 c b hc hb ∙ ap₂ (λ xs y. bit_xor (bits_feed c xs) (y * 2 ^ 8)) same gone ∙ xor_zero_r (bits_feed c (bits b)))

halves : (c b : ℕ) → bit_xor c (b * 2 ^ 8) ≡ bit_xor (bit_xor (c / 2 ^ 8) b * 2 ^ 8) (c % 2 ^ 8)
halves c b =
    ap₂ bit_xor (sym (split c 8)) (sym (add-zero (b * 2 ^ 8)))
    ∙ xor_block 8 (c / 2 ^ 8) b (c % 2 ^ 8) 0 (mod-lt c (pow_pos 8)) (pow_pos 8)
    ∙ ap (λ (x : ℕ). bit_xor (c / 2 ^ 8) b * 2 ^ 8 + x) (xor_zero_r (c % 2 ^ 8))
    ∙ sym (xor_shifted (bit_xor (c / 2 ^ 8) b) 8 (c % 2 ^ 8) (mod-lt c (pow_pos 8)))

-- the upper half meets the byte as if the register were 0, the lower half moves up
pub by-halves : (c b : ℕ) → c < 2 ^ 16 → b < 256 → bit_xor (bits_feed 0 (bits (bit_xor (c / 2 ^ 8) b))) (c % 256 * 256) ≡ bits_feed c (bits b)
by-halves c b hc hb =
    let l = c % 2 ^ 8 in
    let p : l < 256 = omega arith in
    let u = bit_xor (c / 2 ^ 8) b in
    let e : l * 2 * 2 * 2 * 2 * 2 * 2 * 2 * 2 ≡ l * 256 = omega arith in
    sym (whole c b hc hb ∙ rw (
      halves c b,
      ride _ l 0 (omega arith),
      ride _ (l * 2) 0 (omega arith),
      ride _ (l * 2 * 2) 0 (omega arith),
      ride _ (l * 2 * 2 * 2) 0 (omega arith),
      ride _ (l * 2 * 2 * 2 * 2) 0 (omega arith),
      ride _ (l * 2 * 2 * 2 * 2 * 2) 0 (omega arith),
      ride _ (l * 2 * 2 * 2 * 2 * 2 * 2) 0 (omega arith),
      ride _ (l * 2 * 2 * 2 * 2 * 2 * 2 * 2) 0 (omega arith),
      e,
    ) (ap (λ y. bit_xor y (l * 256)) (sym (whole 0 u (pow_pos 16) (xor_lt 8 (c / 2 ^ 8) b (omega arith) hb)))))
