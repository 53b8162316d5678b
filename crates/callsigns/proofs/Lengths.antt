-- How long each name is at most: what an array that holds one must have room for.
use Prim.Native.Nat.{ℕ, ◌≤◌}
use mathlib.Core.Path.{◌≡◌, refl}
use mathlib.Core.Bool.{true, false}
use mathlib.Core.List.{List, [], ◌∷◌}
use native.Mathlib.Omega.{arith}
use lib.ListN.{length}
use Rattle.octets.specs.Words.{◌=?◌, between}
use Rattle.octets.proofs.Tests.{and_left, and_right, true-not-false, inside-high}
use Rattle.callsigns.specs.Runs.{run, rest}
use Rattle.callsigns.specs.Callsign.{alnum, suffix, base_length, callsign}
use Rattle.callsigns.specs.Destination.{app_byte, at_callsign, destination}
use Rattle.callsigns.proofs.Runs.{run-rest}

suffix-short : (t : List ℕ) → suffix t ≡ true → length t ≤ 3
unfolding suffix
suffix-short [] e = omega arith
suffix-short (m ∷ []) e = omega arith
suffix-short (m ∷ x ∷ []) e = omega arith
suffix-short (m ∷ x ∷ y ∷ []) e = omega arith
suffix-short (m ∷ x ∷ y ∷ z ∷ t) e = true-not-false false e refl

-- 9 letters or digits and a suffix of 3 bytes
pub callsign-short : (s : List ℕ) → callsign s ≡ true → length s ≤ 12
unfolding callsign base_length
callsign-short s e =
    let b = inside-high 1 9 (length (run alnum s)) (and_left _ _ e) in
    let t = suffix-short (rest alnum s) (and_right (between 1 9 (length (run alnum s))) _ e) in
    omega (arith, run-rest alnum s)

at-short : (t : List ℕ) → at_callsign t ≡ true → length t ≤ 13
unfolding at_callsign
at-short [] e = omega arith
at-short (x ∷ t) e = omega (arith, callsign-short t (and_right (x =? 64) _ e))

-- an app of 32 bytes, `@` and a callsign of 12
pub destination-short : (s : List ℕ) → destination s ≡ true → length s ≤ 45
unfolding destination
destination-short s e =
    let b = inside-high 1 32 (length (run app_byte s)) (and_left _ _ e) in
    let t = at-short (rest app_byte s) (and_right (between 1 32 (length (run app_byte s))) _ e) in
    omega (arith, run-rest app_byte s)
