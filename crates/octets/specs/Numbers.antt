-- Little-endian numbers: the number that bytes spell, and the bytes of a number, at every width.
use Rattle.std.specs.Prelude.{ℕ, zero, suc, ◌+◌, ◌-◌, ◌*◌, ◌/◌, ◌%◌, ◌^◌, List, [], ◌∷◌, ℤ, pos, negsuc, if◌then◌else◌}
use Rattle.octets.specs.Words.{◌<?◌}

-- the number that the bytes spell, the lowest byte first
unfoldable pub little : List ℕ → ℕ
little [] = 0
little (b ∷ s) = b + 256 * little s

-- the number in w bytes, the lowest first
unfoldable pub little_bytes : ℕ → ℕ → List ℕ
little_bytes zero v = []
little_bytes (suc w) v = v % 256 ∷ little_bytes w (v / 256)

-- two's complement in 64 bits: the bits of a signed number, which from -1 (`negsuc 0`) down count down from all ones
abbrev pub twos : ℤ → ℕ
twos (pos n) = n
twos (negsuc n) = 2 ^ 64 - suc n

-- and the signed number of the bits
abbrev pub from_twos : ℕ → ℤ
from_twos v = if v <? 2 ^ 63 then pos v else negsuc (2 ^ 64 - suc v)
