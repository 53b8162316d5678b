-- Document 01, "Names and fields", decimals: no leading zero, no plus sign; unsigned up to a limit, and signed with 64 bits, where `-0` is malformed.
use Rattle.std.specs.Prelude.{ℕ, zero, suc, ◌+◌, ◌/◌, Bool, true, false, List, ◌∷◌, length, get_or, drop, ℤ, pos, negsuc, neg_ℤ, Option, Some, None, if◌then◌else◌}
use Rattle.octets.specs.Words.{◌and◌, no, ◌<?◌, ◌≤?◌, ◌=?◌, every}
use Rattle.text.specs.Digits.{is_digit, value, digits}

-- a `0` before other bytes
abbrev pub leading_zero : List ℕ → Bool
leading_zero s = 1 <? length s and get_or s 0 0 =? 0x30

-- at least one byte, and no leading zero
abbrev pub begins : List ℕ → Bool
begins s = 0 <? length s and no (leading_zero s)

-- one or more digits, no leading zero; a plus sign is no digit
abbrev pub is_decimal : List ℕ → Bool
is_decimal s = begins s and every (is_digit 10) s

abbrev pub number : List ℕ → ℕ
number s = value 10 s

abbrev pub is_number : ℕ → List ℕ → Bool
is_number limit s = is_decimal s and number s ≤? limit

-- the answer of reading a number from 0 to the limit
abbrev pub number_of : ℕ → List ℕ → Option ℕ
number_of limit s = if is_number limit s then Some (number s) else None

-- how many digits v has: one where it is small, below ten, else one more than its tenth; the turns bound the definition, and v of them are enough
unfoldable pub count_in : ℕ → Bool → ℕ → ℕ
count_in zero small v = 1
count_in (suc turns) true v = 1
count_in (suc turns) false v = count_in turns (v / 10 <? 10) (v / 10) + 1

abbrev pub count : ℕ → ℕ
count v = count_in v (v <? 10) v

-- v in decimal, in the fewest digits
abbrev pub decimal : ℕ → List ℕ
decimal v = digits 10 (count v) v

abbrev pub has_minus : List ℕ → Bool
has_minus s = get_or s 0 0 =? 0x2D

-- behind a minus a number from 1 to 9223372036854775808, else a number up to 9223372036854775807
abbrev pub is_signed : List ℕ → Bool
is_signed s =
    if has_minus s
    then is_number 9223372036854775808 (drop 1 s) and 0 <? number (drop 1 s)
    else is_number 9223372036854775807 s

abbrev pub signed : List ℕ → ℤ
signed s = if has_minus s then neg_ℤ (pos (number (drop 1 s))) else pos (number s)

-- the answer of reading a signed number
abbrev pub signed_of : List ℕ → Option ℤ
signed_of s = if is_signed s then Some (signed s) else None

-- a signed number in decimal: a minus before the digits of a negative one
abbrev pub signed_decimal : ℤ → List ℕ
signed_decimal (pos m) = decimal m
signed_decimal (negsuc m) = 0x2D ∷ decimal (suc m)
