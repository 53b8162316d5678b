-- What is said of the check as a whole: it may be fed in parts, its published value, and that one changed byte changes it.
use Rattle.std.specs.Prelude.{if◌then◌else◌}
use mathlib.Core.Path.{◌≡◌, refl, sym, ap, ◌∙◌}
use mathlib.Core.List.{List, [], ◌∷◌, ◌++◌}
use Prim.Native.Nat.{ℕ, zero, suc, ◌+◌, ◌*◌, ◌/◌, ◌%◌, ◌^◌, ◌<◌}
use native.Mathlib.Omega.{arith}
use lib.Pow.{split}
use lib.Bits.{bit_xor, xor_lt, xor_comm}
use Rattle.octets.specs.Words.{◌=?◌}
use Rattle.octets.specs.Bytes.{Bytes}
use Rattle.crc16.specs.Crc.{polynomial, start, bit_feed, bits_feed, bits, crc_feed, crc16}
use Rattle.crc16.proofs.Xor.{xor-odd, xor-twice, xor-cancel}
use Rattle.crc16.proofs.Register.{bit-lt, by-top, times, whole}

-- feeding two parts, one after the other, is feeding the whole
pub feed-parts : (c : ℕ) (a b : List ℕ) → crc_feed c (a ++ b) ≡ crc_feed (crc_feed c a) b
feed-parts c [] b = refl
feed-parts c (x ∷ a) b = feed-parts (bits_feed c (bits x)) a b

-- "123456789"
pub check-value : crc16 (0x31 ∷ 0x32 ∷ 0x33 ∷ 0x34 ∷ 0x35 ∷ 0x36 ∷ 0x37 ∷ 0x38 ∷ 0x39 ∷ []) ≡ 0x29B1
unfolding bit_feed
check-value = refl

-- ---- one changed byte changes the check

-- the register before a bit 0 came in, from the register after it
undone : ℕ → ℕ
undone y = if y % 2 =? 0 then y / 2 else 2 ^ 15 + bit_xor y polynomial / 2

undo : (c : ℕ) → c < 2 ^ 16 → undone (bit_feed c 0) ≡ c
unfolding undone
undo c h =
    ap undone (ap (λ y. bit_feed y 0) (sym (split c 15)) ∙ by-top (c / 2 ^ 15) (c % 2 ^ 15) 0 (omega arith) (omega arith))
    ∙ by (c / 2 ^ 15) (c % 2 ^ 15) (omega arith)
    ∙ split c 15
  where
    by : (q r : ℕ) → q < 2 → undone (if q =? 0 then r * 2 else bit_xor (r * 2) polynomial) ≡ q * 2 ^ 15 + r
    by zero r k =
        let e : r * 2 % 2 ≡ 0 = omega arith in
        let d : r * 2 / 2 ≡ r = omega arith in
        rw (e, d) (omega arith)
    by (suc zero) r k =
        let e : r * 2 % 2 ≡ 0 = omega arith in
        let d : r * 2 / 2 ≡ r = omega arith in
        rw (xor-odd (r * 2) polynomial, e, xor-twice (r * 2) polynomial, d) (omega arith)
    by (suc (suc q)) r k = absurd (omega arith)

times-apart : (n c d : ℕ) → c < 2 ^ 16 → d < 2 ^ 16 → times n c ≡ times n d → c ≡ d
times-apart zero c d hc hd e = e
times-apart (suc n) c d hc hd e = sym (undo c hc) ∙ ap undone (times-apart n (bit_feed c 0) (bit_feed d 0) (bit-lt c 0) (bit-lt d 0) e) ∙ undo d hd

byte-lt : (c b : ℕ) → bits_feed c (bits b) < 2 ^ 16
byte-lt c b = bit-lt (bits_feed c (b / 128 % 2 ∷ b / 64 % 2 ∷ b / 32 % 2 ∷ b / 16 % 2 ∷ b / 8 % 2 ∷ b / 4 % 2 ∷ b / 2 % 2 ∷ [])) (b % 2)

pub feed-lt : (c : ℕ) (s : List ℕ) → c < 2 ^ 16 → crc_feed c s < 2 ^ 16
feed-lt c [] h = h
feed-lt c (b ∷ s) h = feed-lt (bits_feed c (bits b)) s (byte-lt c b)

-- two registers that the same byte makes equal were equal, and so were two bytes that make the same register equal
module _ (c d x y : ℕ) (hc : c < 2 ^ 16) (hd : d < 2 ^ 16) (hx : x < 256) (hy : y < 256) (e : bits_feed c (bits x) ≡ bits_feed d (bits y)) where
  before : bit_xor c (x * 2 ^ 8) ≡ bit_xor d (y * 2 ^ 8)
  before =
      times-apart 8 (bit_xor c (x * 2 ^ 8)) (bit_xor d (y * 2 ^ 8)) (xor_lt 16 c (x * 2 ^ 8) hc (omega arith)) (xor_lt 16 d (y * 2 ^ 8) hd (omega arith))
      (sym (whole c x hc hx) ∙ e ∙ whole d y hd hy)

feed-apart : (c d : ℕ) (s : List ℕ) → c < 2 ^ 16 → d < 2 ^ 16 → Bytes s → crc_feed c s ≡ crc_feed d s → c ≡ d
feed-apart c d [] hc hd h e = e
feed-apart c d (b ∷ s) hc hd h e =
    let same = feed-apart (bits_feed c (bits b)) (bits_feed d (bits b)) s (byte-lt c b) (byte-lt d b) (λ i. h (suc i)) e in
    xor-cancel (b * 2 ^ 8) c d (xor_comm (b * 2 ^ 8) c ∙ before c d b b hc hd (h 0) (h 0) same ∙ xor_comm d (b * 2 ^ 8))

-- two texts that differ in one byte, by one bit or more, have different checks
pub one_byte : (a s : List ℕ) (x y : ℕ) → Bytes s → x < 256 → y < 256 → crc16 (a ++ (x ∷ s)) ≡ crc16 (a ++ (y ∷ s)) → x ≡ y
one_byte a s x y h hx hy e =
    let c = crc16 a in
    let hc : c < 2 ^ 16 = feed-lt start a (omega arith) in
    let at : crc_feed (bits_feed c (bits x)) s ≡ crc_feed (bits_feed c (bits y)) s = sym (feed-parts start a (x ∷ s)) ∙ e ∙ feed-parts start a (y ∷ s) in
    let same = feed-apart (bits_feed c (bits x)) (bits_feed c (bits y)) s (byte-lt c x) (byte-lt c y) h at in
    let z : x * 2 ^ 8 ≡ y * 2 ^ 8 = xor-cancel c (x * 2 ^ 8) (y * 2 ^ 8) (before c c x y hc hc hx hy same) in
    omega arith
