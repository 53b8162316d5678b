-- Worked cases of the definitions, each computed: the numbers that are SSIDs, and names of document 01.
use Rattle.std.specs.Prelude.{Some, if◌then◌else◌}
use Prim.Native.Nat.{ℕ, zero, suc, ◌+◌, ◌/◌, ◌%◌}
use mathlib.Core.Path.{◌≡◌, refl}
use mathlib.Core.Bool.{true, false}
use mathlib.Core.List.{List, [], ◌∷◌}
use Rattle.octets.specs.Words.{◌and◌, no, ◌<?◌, ◌=?◌, between, every}
use Rattle.callsigns.specs.Runs.{run, rest}
use Rattle.callsigns.specs.Callsign.{alnum, suffix, suffix_ssid, base_length, ssid, callsign, call_of, callsign_of}
use Rattle.callsigns.specs.Destination.{app_byte, at_callsign, destination, address_of, destination_of}

below : ℕ → List ℕ
below zero = []
below (suc n) = n ∷ below n

-- `-` and a number's decimal
written : ℕ → List ℕ
written n = if n <? 10 then (45 ∷ (48 + n) ∷ []) else (45 ∷ (48 + n / 10) ∷ (48 + n % 10) ∷ [])

-- of the numbers below 100, those from 1 to 15 are SSIDs, each read as itself
ssids : every (λ n. if between 1 15 n then suffix (written n) and suffix_ssid (written n) =? n else no (suffix (written n))) (below 100) ≡ true
unfolding below written suffix suffix_ssid
ssids = refl

-- `-01` is none
leading-zero : suffix (45 ∷ 48 ∷ 49 ∷ []) ≡ false
unfolding suffix
leading-zero = refl

-- `G0ORIG` and `G0ORIG-15`
plain-call : callsign_of (71 ∷ 48 ∷ 79 ∷ 82 ∷ 73 ∷ 71 ∷ []) ≡ Some (record { base = 6; ssid = 0 })
unfolding callsign_of callsign call_of base_length ssid suffix suffix_ssid run rest alnum
plain-call = refl

call-with-ssid : callsign_of (71 ∷ 48 ∷ 79 ∷ 82 ∷ 73 ∷ 71 ∷ 45 ∷ 49 ∷ 53 ∷ []) ≡ Some (record { base = 6; ssid = 15 })
unfolding callsign_of callsign call_of base_length ssid suffix suffix_ssid run rest alnum
call-with-ssid = refl

-- `m@A`, the smallest datagram's destination
smallest : destination_of (109 ∷ 64 ∷ 65 ∷ []) ≡ Some (record { app = 1; call = record { base = 1; ssid = 0 } })
unfolding destination_of destination address_of at_callsign app_byte callsign call_of base_length ssid suffix suffix_ssid run rest alnum
smallest = refl
