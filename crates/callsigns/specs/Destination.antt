-- Document 01, "Names and fields": destinations.
use Rattle.std.specs.Prelude.{ℕ, Bool, false, List, [], ◌∷◌, length, drop, Option, Some, None, if◌then◌else◌}
use Rattle.octets.specs.Words.{◌and◌, ◌or◌, ◌=?◌, between}
use Rattle.callsigns.specs.Runs.{run, rest}
use Rattle.callsigns.specs.Callsign.{alnum, callsign, call_of}
use Rattle.callsigns.specs.declared.Address.{Address}

-- a letter, a digit, `-`, `_` or `.`
unfoldable pub app_byte : ℕ → Bool
app_byte x = alnum x or (x =? 45 or (x =? 95 or x =? 46))

-- `@`, then a callsign
unfoldable pub at_callsign : List ℕ → Bool
at_callsign [] = false
at_callsign (x ∷ s) = x =? 64 and callsign s

-- app of 1 to 32 letters, digits, `-`, `_`, `.`; then `@`; then a callsign
unfoldable pub destination : List ℕ → Bool
destination s = between 1 32 (length (run app_byte s)) and at_callsign (rest app_byte s)

-- what the reader answers: the app's length, and the callsign behind the `@`
unfoldable pub address_of : List ℕ → Address
address_of s = record { app = length (run app_byte s); call = call_of (drop 1 (rest app_byte s)) }

unfoldable pub destination_of : List ℕ → Option Address
destination_of s = if destination s then Some (address_of s) else None
