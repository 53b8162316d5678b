-- Worked examples, by computation.
use mathlib.Core.Path.{◌≡◌, refl}
use mathlib.Core.List.{[], ◌∷◌}
use lib.IntN.{negsuc}
use Rattle.std.specs.Prelude.{Some, None}
use Rattle.text.specs.Digits.{value, digits}
use Rattle.text.specs.Decimal.{number_of, count_in, signed_of, signed_decimal}
use Rattle.text.specs.Hex.{id_of}

-- `4096` up to 4095
past-limit : number_of 4095 (0x34 ∷ 0x30 ∷ 0x39 ∷ 0x36 ∷ []) ≡ None
unfolding value
past-limit = refl

-- `-0`
minus-zero : signed_of (0x2D ∷ 0x30 ∷ []) ≡ None
unfolding value
minus-zero = refl

-- the lowest signed number, written and read
lowest : signed_of (signed_decimal (negsuc 9223372036854775807)) ≡ Some (negsuc 9223372036854775807)
unfolding value digits count_in
lowest = refl

-- `7e1f3a2`, the id of document 01's smallest datagram
smallest-id : id_of (0x37 ∷ 0x65 ∷ 0x31 ∷ 0x66 ∷ 0x33 ∷ 0x61 ∷ 0x32 ∷ []) ≡ Some 0x7E1F3A2
unfolding value
smallest-id = refl
