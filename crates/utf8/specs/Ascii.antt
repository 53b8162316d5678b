-- ASCII: the characters of one byte, up to 0x7F.
use Rattle.std.specs.Prelude.{ℕ, Bool, List, [], ◌∷◌, if◌then◌else◌}
use Rattle.octets.specs.Words.{between}

-- a byte up to 0x7F
abbrev pub ascii : ℕ → Bool
ascii b = between 0x00 0x7F b

-- the run of ASCII that a text begins with, taken as long as it goes
unfoldable pub ascii_run : List ℕ → List ℕ
ascii_run [] = []
ascii_run (b ∷ s) = if ascii b then b ∷ ascii_run s else []

-- and the rest behind it
unfoldable pub behind_ascii : List ℕ → List ℕ
behind_ascii [] = []
behind_ascii (b ∷ s) = if ascii b then behind_ascii s else b ∷ s
