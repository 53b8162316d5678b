-- Hex: what is written is read back, and what is read and written again is the same bytes; once over the width, then for an id and for `chk`.
use Rattle.std.specs.Prelude.{Some, None}
use Prim.Native.Nat.{ℕ, suc, ◌^◌, ◌<◌}
use mathlib.Core.Path.{◌≡◌, refl, ap, sym, ◌∙◌}
use mathlib.Core.Bool.{Bool, true, false}
use mathlib.Core.List.{List}
use native.Mathlib.Omega.{arith}
use borrow.Author.Tests.{eq-eqb, ne_eqb, eqb-true}
use lib.ListN.{length}
use Rattle.octets.specs.Words.{◌=?◌, every}
use Rattle.octets.proofs.Tests.{if_yes, if_no, and_left, and_right, and_both, and-not-left, and-not-right}
use Rattle.text.specs.Digits.{is_digit}
use Rattle.text.specs.Hex.{is_hex, hex_value, hex_digits, hex_of, id_of, chk_of}
use Rattle.text.specs.Steps.{spelled}
use Rattle.text.proofs.Numerals.{value-below, length_digits, all_digits, value-digits, digits_value, spelled_is, spelled-not}

pub hex-is : (w v : ℕ) → is_hex w (hex_digits w v) ≡ true
hex-is w v = and_both _ _ (eq-eqb _ _ (length_digits 16 w v)) (all_digits 16 (omega arith) (omega arith) w v)

pub hex-back : (w v : ℕ) → v < 16 ^ w → hex_value (hex_digits w v) ≡ v
hex-back w v h = value-digits 16 (omega arith) (omega arith) w v h

pub hex-forth : (w : ℕ) (s : List ℕ) → is_hex w s ≡ true → hex_digits w (hex_value s) ≡ s
hex-forth w s e =
    rw (sym (eqb-true (length s) w (and_left _ _ e))) (digits_value 16 (omega arith) (omega arith) s (and_right (length s =? w) _ e))

pub hex-below : (w : ℕ) (s : List ℕ) → is_hex w s ≡ true → hex_value s < 16 ^ w
hex-below w s e = rw (eqb-true (length s) w (and_left _ _ e)) at (value-below 16 s (and_right (length s =? w) _ e))

hex_of-back : (w v : ℕ) → v < 16 ^ w → hex_of w (hex_digits w v) ≡ Some v
hex_of-back w v h = if_yes _ _ _ (hex-is w v) ∙ ap Some (hex-back w v h)

pub id-back : (v : ℕ) → v < 2 ^ 28 → id_of (hex_digits 7 v) ≡ Some v
id-back v h = hex_of-back 7 v h

pub chk-back : (v : ℕ) → v < 2 ^ 16 → chk_of (hex_digits 4 v) ≡ Some v
chk-back v h = hex_of-back 4 v h

-- ---- what the code goes by

-- digits in the width spell no number past its limit
pub hex-read : (w limit : ℕ) (s : List ℕ) → length s ≡ w → 16 ^ w ≡ suc limit → spelled 16 limit s ≡ hex_of w s
hex-read w limit s l m = go (every (is_digit 16) s) refl
  where
    go : (t : Bool) → every (is_digit 16) s ≡ t → spelled 16 limit s ≡ hex_of w s
    go true e =
        let h = and_both _ _ (eq-eqb (length s) w l) e in
        let k = hex-below w s h in
        spelled_is 16 limit (hex_value s) s e refl (omega arith) ∙ sym (if_yes _ _ _ h)
    go false e = spelled-not 16 limit s e ∙ sym (if_no _ _ _ (and-not-right (length s =? w) _ e))

pub hex-long : (w : ℕ) (s : List ℕ) → (length s ≡ w → ⊥) → hex_of w s ≡ None
hex-long w s h = if_no _ _ _ (and-not-left _ _ (ne_eqb (length s) w h))
