-- Document 01, "The receiving session": what a peer's line is.
use Rattle.std.specs.Prelude.{ℕ, ◌+◌, Bool, List, [], ◌∷◌, ◌++◌, map, length, take, if◌then◌else◌}
use Rattle.std.specs.Char.{to_ascii_lowercase}
use Rattle.octets.specs.Words.{◌or◌, some}
use Rattle.octets.specs.Bytes.{same}
use Rattle.text.specs.Hex.{hex_digits}
pub use Rattle.tokens.specs.Tokens.{ihave}
use Rattle.phrases.specs.declared.Kind.{Kind}
use Rattle.phrases.specs.declared.Kind.TheVariants.{Ihave, Data, Leave, Ask, Other}

-- `data`: d, a, t, a
abbrev pub data-word : List ℕ
data-word = 100 ∷ 97 ∷ 116 ∷ 97 ∷ []

-- it is that word or begins with it and a space
unfoldable pub verb : List ℕ → List ℕ → Bool
verb word s = same s word or same (take (length word + 1) s) (word ++ (0x20 ∷ []))

-- in any letter case
abbrev pub lower : ℕ → ℕ
lower x = to_ascii_lowercase x

unfoldable pub spells : List ℕ → List ℕ → Bool
spells s word = same (map lower s) word

-- `quit`, `q`, `bye`, `exit`
abbrev pub leaving : List (List ℕ)
leaving = (113 ∷ 117 ∷ 105 ∷ 116 ∷ []) ∷ (113 ∷ []) ∷ (98 ∷ 121 ∷ 101 ∷ []) ∷ (101 ∷ 120 ∷ 105 ∷ 116 ∷ []) ∷ []

-- `help`, `info`
abbrev pub asking : List (List ℕ)
asking = (104 ∷ 101 ∷ 108 ∷ 112 ∷ []) ∷ (105 ∷ 110 ∷ 102 ∷ 111 ∷ []) ∷ []

unfoldable pub kind_of : List ℕ → Kind
kind_of s =
    if verb ihave s then Ihave
    else if verb data-word s then Data
    else if some (spells s) leaving then Leave
    else if some (spells s) asking then Ask
    else Other

-- `data ID`
unfoldable pub is_data : ℕ → List ℕ → Bool
is_data id s = same s (data-word ++ (0x20 ∷ hex_digits 7 id))
