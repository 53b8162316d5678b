-- The digits `0-9a-f` and the numbers that they spell, in any base up to sixteen: what decimals and hex have in common.
use Rattle.std.specs.Prelude.{ℕ, zero, suc, ◌+◌, ◌-◌, ◌*◌, ◌/◌, ◌%◌, ◌^◌, Bool, List, [], ◌∷◌, ◌++◌, length, if◌then◌else◌}
use Rattle.octets.specs.Words.{◌<?◌, between}

-- the digit that is worth d: 0-9, then a-f
abbrev pub digit : ℕ → ℕ
digit d = if d <? 10 then 0x30 + d else 0x57 + d

-- what a digit is worth; sixteen says that the byte is no digit
abbrev pub worth : ℕ → ℕ
worth b = if between 0x30 0x39 b then b - 0x30 else (if between 0x61 0x66 b then b - 0x57 else 16)

abbrev pub is_digit : ℕ → ℕ → Bool
is_digit base b = worth b <? base

-- the number that digits spell, each worth its place's power of the base
unfoldable pub value : ℕ → List ℕ → ℕ
value base [] = 0
value base (b ∷ s) = worth b * base ^ length s + value base s

-- the last n digits of v, the lowest one last
unfoldable pub digits : ℕ → ℕ → ℕ → List ℕ
digits base zero v = []
digits base (suc n) v = digits base n (v / base) ++ (digit (v % base) ∷ [])
