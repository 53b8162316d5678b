-- The head of a line: whether it is good, and the id that it says.
use Rattle.std.specs.Prelude.{Some, None, if◌then◌else◌}
use Prim.Native.Nat.{ℕ}
use mathlib.Core.Path.{◌≡◌, refl}
use mathlib.Core.Bool.{Bool, true, false}
use mathlib.Core.List.{List}
use Rattle.octets.specs.Words.{◌and◌}
use Rattle.octets.specs.Bytes.{same}
use Rattle.text.specs.Hex.{is_hex, hex_value}
use Rattle.line_frame.specs.Frame.{ihave, verb_word, id_word, is_text, line_head}

module _ (s : List ℕ) where
  abbrev good : Bool
  good = is_text s and (same (verb_word s) ihave and is_hex 7 (id_word s))

  pub head_none : line_head s ≡ None → good ≡ false
  unfolding line_head
  head_none e = go (is_text s) (same (verb_word s) ihave) (is_hex 7 (id_word s)) e
    where
      go : (a b c : Bool) → (if a and b then (if c then Some (hex_value (id_word s)) else None) else None) ≡ None → a and (b and c) ≡ false
      go true true true q = cc
      go true true false q = refl
      go true false c q = refl
      go false b c q = refl

  pub head_some : (id : ℕ) → line_head s ≡ Some id → (good ≡ true) × (id ≡ hex_value (id_word s))
  unfolding line_head
  head_some id e = go (is_text s) (same (verb_word s) ihave) (is_hex 7 (id_word s)) e
    where
      go : (a b c : Bool) → (if a and b then (if c then Some (hex_value (id_word s)) else None) else None) ≡ Some id → (a and (b and c) ≡ true) × (id ≡ hex_value (id_word s))
      go true true true q = (refl, cc)
      go true true false q = cc
      go true false c q = cc
      go false b c q = cc
