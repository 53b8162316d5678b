-- CRC-16/CCITT-FALSE (document 01, "The ihave line"): polynomial 0x1021, start 0xFFFF, no reflection, no final xor.
-- A register of sixteen bits takes the text's bits one by one.
use Rattle.std.specs.Prelude.{List, [], ◌∷◌, ℕ, ◌*◌, ◌/◌, ◌%◌, ◌^◌, fold, if◌then◌else◌}
use Rattle.std.specs.Int.Bits.{bit_xor}
use Rattle.octets.specs.Words.{◌=?◌}

abbrev pub polynomial : ℕ
polynomial = 0x1021

abbrev pub start : ℕ
start = 0xFFFF

-- a bit comes in: the register moves one place up, and where the bit that leaves its top differs from the one that came, the polynomial is added
unfoldable pub bit_feed : ℕ → ℕ → ℕ
bit_feed c x = let moved = c * 2 % 2 ^ 16 in if c / 2 ^ 15 =? x then moved else bit_xor moved polynomial

abbrev pub bits_feed : ℕ → List ℕ → ℕ
bits_feed c xs = fold bit_feed c xs

-- the eight bits of a byte; no reflection: the highest first
abbrev pub bits : ℕ → List ℕ
bits b = b / 128 % 2 ∷ b / 64 % 2 ∷ b / 32 % 2 ∷ b / 16 % 2 ∷ b / 8 % 2 ∷ b / 4 % 2 ∷ b / 2 % 2 ∷ b % 2 ∷ []

-- the register after more bytes
abbrev pub crc_feed : ℕ → List ℕ → ℕ
crc_feed c s = fold (λ r b. bits_feed r (bits b)) c s

-- the check of a text; no final xor: the register as it stands
abbrev pub crc16 : List ℕ → ℕ
crc16 s = crc_feed start s
