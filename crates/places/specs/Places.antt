-- Sixteen places: the messages stand in the first of them, and the places past them are all zero.
use Rattle.std.specs.Prelude.{ℕ, ◌-◌, Bool, List, ◌++◌, length, replicate, bit_or}
use Rattle.std.specs.List.{take_while}
use Rattle.octets.specs.Words.{◌and◌, ◌≤?◌, ◌=?◌}
use Rattle.places.specs.declared.Held.{Held}

-- an empty place
abbrev pub blank : Held
blank = record { number = 0; timeout = 0; slip = 0 }

abbrev pub is_blank : Held → Bool
is_blank m = m.number =? 0 and m.timeout =? 0 and m.slip =? 0

-- bits, with those of a message's numbers
abbrev pub with_fields : ℕ → Held → ℕ
with_fields all m = bit_or (bit_or (bit_or all m.number) m.timeout) m.slip

-- the sixteen places of a list: its messages, then empty places
abbrev pub places : List Held → List Held
places l = l ++ replicate (16 - length l) blank

-- how many messages stand before the first whose number is above `number`: where `insert` puts it
abbrev pub place_for : ℕ → List Held → ℕ
place_for number l = length (take_while (λ m. m.number ≤? number) l)
