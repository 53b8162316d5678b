-- Document 01, "Names and fields": the rules of the numbers that a line and a datagram share.
use Rattle.std.specs.Prelude.{ℕ, ◌^◌, Bool, true, Option, Some, None}
use Rattle.octets.specs.Words.{◌and◌, ◌<?◌, between}

-- an id is 7 hexadecimal digits: a number of 28 bits
unfoldable pub id_in : ℕ → Bool
id_in v = v <? 2 ^ 28

-- `ttl` 1 to 2147483647
unfoldable pub ttl_in : ℕ → Bool
ttl_in v = between 1 2147483647 v

-- a master id, and `frag=N/M`: M 2 to 65535, 1 ≤ N ≤ M
unfoldable pub fragment_in : ℕ → ℕ → ℕ → Bool
fragment_in mid n m = id_in mid and (between 2 65535 m and between 1 m n)

-- the same of the three together
abbrev pub numbers_in : ℕ × ℕ × ℕ → Bool
numbers_in f = fragment_in f.0 f.1 f.2

-- where there is a value, the rule holds of it
abbrev pub if_some : {A : Type 0} → (A → Bool) → Option A → Bool
if_some rule None = true
if_some rule (Some x) = rule x
