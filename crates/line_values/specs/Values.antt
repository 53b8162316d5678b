-- The values of a line's keys: N/M, and what a value that may be missing says.
use Rattle.std.specs.Prelude.{ℕ, Bool, List, [], Option, Some, None, if◌then◌else◌}
use Rattle.std.specs.Option.{unwrap_or}
use Rattle.octets.specs.Words.{◌and◌}
use Rattle.text.specs.Decimal.{is_number, number}
use Rattle.tokens.specs.Cuts.{has, before, after}
use Rattle.line_values.specs.declared.Part.{Part}

-- N/M, N and M up to 65535
abbrev pub slash : ℕ
slash = 0x2F

unfoldable pub is_part : List ℕ → Bool
is_part v = has slash v and (is_number 65535 (before slash v) and is_number 65535 (after slash v))

unfoldable pub part_of : List ℕ → Option Part
part_of v = if is_part v then Some (record { index = number (before slash v); total = number (after slash v) }) else None

-- the text of a value that may be missing: empty where it is missing
abbrev pub text_of : Option (List ℕ) → List ℕ
text_of v = unwrap_or v []
