-- What a number's reader answers: what the field's reading finds, as the code has it.
use Rattle.std.specs.Prelude.{ℕ, Option, Some, None}
use Rattle.octets.specs.Field.{Res, bad, got}

-- the value with the number of bytes that it took, or nothing
abbrev pub read_as : {A B : Type 0} → (A → B) → Res A → Option (B × ℕ)
read_as f bad = None
read_as f (got v n) = Some (f v, n)
