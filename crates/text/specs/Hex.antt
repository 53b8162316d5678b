-- Document 01, "Names and fields" and "The ihave line": an id is 7 of `0-9a-f`, `chk` four lowercase hex digits. Both are one thing at two widths.
use Rattle.std.specs.Prelude.{ℕ, Bool, List, length, Option, Some, None, if◌then◌else◌}
use Rattle.octets.specs.Words.{◌and◌, ◌=?◌, every}
use Rattle.text.specs.Digits.{is_digit, value, digits}

-- w of `0-9a-f`
abbrev pub is_hex : ℕ → List ℕ → Bool
is_hex w s = length s =? w and every (is_digit 16) s

abbrev pub hex_value : List ℕ → ℕ
hex_value s = value 16 s

-- the low w hex digits of v
abbrev pub hex_digits : ℕ → ℕ → List ℕ
hex_digits w v = digits 16 w v

-- the answer of reading w of `0-9a-f`
abbrev pub hex_of : ℕ → List ℕ → Option ℕ
hex_of w s = if is_hex w s then Some (hex_value s) else None

-- of an id: a number below 2 ^ 28
abbrev pub id_of : List ℕ → Option ℕ
id_of s = hex_of 7 s

-- of a `chk`: a number below 2 ^ 16
abbrev pub chk_of : List ℕ → Option ℕ
chk_of s = hex_of 4 s
