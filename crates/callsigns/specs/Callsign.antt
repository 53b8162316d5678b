-- Document 01, "Names and fields": callsigns, and when two of them are equal.
use Rattle.std.specs.Prelude.{ℕ, ◌+◌, ◌-◌, Bool, true, false, List, [], ◌∷◌, length, Option, Some, None, if◌then◌else◌}
use Rattle.octets.specs.Words.{◌and◌, ◌or◌, ◌=?◌, between}
use Rattle.octets.specs.Bytes.{same}
use Rattle.callsigns.specs.Runs.{run, rest}
use Rattle.callsigns.specs.declared.Call.{Call}

-- a letter or digit: 0-9, A-Z, a-z
unfoldable pub alnum : ℕ → Bool
alnum x = between 48 57 x or (between 65 90 x or between 97 122 x)

-- nothing; `-1` to `-9`; `-10` to `-15`
unfoldable pub suffix : List ℕ → Bool
suffix [] = true
suffix (m ∷ []) = false
suffix (m ∷ x ∷ []) = m =? 45 and between 49 57 x
suffix (m ∷ x ∷ y ∷ []) = m =? 45 and (x =? 49 and between 48 53 y)
suffix (m ∷ x ∷ y ∷ z ∷ t) = false

-- the SSID that such a suffix writes, 0 where none is written
unfoldable pub suffix_ssid : List ℕ → ℕ
suffix_ssid [] = 0
suffix_ssid (m ∷ []) = 0
suffix_ssid (m ∷ x ∷ []) = x - 48
suffix_ssid (m ∷ x ∷ y ∷ t) = 10 + (y - 48)

-- the base is the letters or digits that the text begins with
unfoldable pub base_length : List ℕ → ℕ
base_length s = length (run alnum s)

unfoldable pub ssid : List ℕ → ℕ
ssid s = suffix_ssid (rest alnum s)

-- 1 to 9 letters or digits, then nothing or `-1` to `-15` without leading zero
unfoldable pub callsign : List ℕ → Bool
callsign s = between 1 9 (base_length s) and suffix (rest alnum s)

-- what the reader answers
unfoldable pub call_of : List ℕ → Call
call_of s = record { base = base_length s; ssid = ssid s }

unfoldable pub callsign_of : List ℕ → Option Call
callsign_of s = if callsign s then Some (call_of s) else None

-- two callsigns are equal if their bytes are
unfoldable pub same_call : List ℕ → List ℕ → Bool
same_call a b = same a b
