-- Document 02, W4: "a to z become A to Z".
use Rattle.std.specs.Prelude.{ℕ, ◌-◌, List, map, if◌then◌else◌}
use Rattle.octets.specs.Words.{between}

-- the byte, with a to z become A to Z; any other byte is itself
unfoldable pub upper : ℕ → ℕ
upper x = if between 97 122 x then x - 32 else x

-- the text, with a to z become A to Z
abbrev pub folded : List ℕ → List ℕ
folded s = map upper s
