-- A key and its originator: the originator stands in the front of zeros, and is read back from there.
use mathlib.Core.Path.{◌≡◌, refl, ap, ◌∙◌}
use Prim.Native.Nat.{ℕ, zero, suc, ◌+◌, ◌-◌}
use native.Mathlib.Omega.{arith}
use mathlib.Core.Bool.{true}
use Rattle.std.specs.Prelude.{Option, Some, None}
use mathlib.Core.List.{List}
use lib.ListN.{length, drop, replicate, length-append, length-drop, length-replicate}
use lib.Seq.{take-append_seam, drop-append_seam}
use borrow.Author.Tests.{eq-eqb, le-leb}
use Rattle.octets.specs.Bytes.{all_zero, front}
use Rattle.octets.proofs.Tests.{and_both}
use Rattle.callsigns.specs.Callsign.{callsign}
use Rattle.callsigns.proofs.Lengths.{callsign-short}
use Rattle.groupkeys.specs.Key.{is_originator, is_master, keeps_key, key_of}

zeros-drop : (n m : ℕ) → all_zero (drop n (replicate m 0)) ≡ true
zeros-drop zero zero = refl
zeros-drop zero (suc m) = zeros-drop zero m
zeros-drop (suc n) zero = refl
zeros-drop (suc n) (suc m) = zeros-drop n m

-- the key of valid names keeps the rules
pub key-keeps : (o : Option (List ℕ)) (master : ℕ) → is_originator o ≡ true → is_master master ≡ true → keeps_key (key_of o master) ≡ true
unfolding keeps_key
key-keeps None master v m = m
key-keeps (Some o) master v m =
    let h = callsign-short o v in
    let l : length (front o (replicate 12 0)) ≡ 12 =
    length-append o _ ∙ ap (λ (k : ℕ). length o + k) (length-drop (length o) (replicate 12 0)) ∙ ap (λ (k : ℕ). length o + (k - length o)) (length-replicate {A = ℕ} 12 0) ∙ omega arith in
    and_both _ _ (eq-eqb _ _ l)
    (and_both _ _ (le-leb _ _ h)
    (and_both _ _ (ap callsign (take-append_seam o _) ∙ v) (and_both _ _ (ap all_zero (drop-append_seam o _) ∙ zeros-drop (length o) 12) m)))
