-- Well-formed UTF-8: the rows of RFC 3629, section 4.
use Rattle.std.specs.Prelude.{ℕ, Bool, true, false, List, [], ◌∷◌}
use Rattle.octets.specs.Words.{◌and◌, between, some}

infix 80 ◌to◌
-- the bytes from low to high
pub record Range : Type 0 where
  pub low : ℕ
  pub high : ℕ

abbrev pub ◌to◌ : ℕ → ℕ → Range
a to b = record { low = a; high = b }

abbrev pub holds : Range → ℕ → Bool
holds r b = between r.low r.high b

-- a row of the grammar: where a character's first byte lies, then where each byte behind it lies
pub record Row : Type 0 where
  pub lead : Range
  pub behind : List Range

abbrev pub row : Range → List Range → Row
row r rs = record { lead = r; behind = rs }

abbrev pub tail : Range
tail = 0x80 to 0xBF

-- UTF8-1, UTF8-2, the four rows of UTF8-3 and the three of UTF8-4
abbrev pub rows : List Row
rows =
    row (0x00 to 0x7F) []
    ∷ row (0xC2 to 0xDF) (tail ∷ [])
    ∷ row (0xE0 to 0xE0) (0xA0 to 0xBF ∷ tail ∷ [])
    ∷ row (0xE1 to 0xEC) (tail ∷ tail ∷ [])
    ∷ row (0xED to 0xED) (0x80 to 0x9F ∷ tail ∷ [])
    ∷ row (0xEE to 0xEF) (tail ∷ tail ∷ [])
    ∷ row (0xF0 to 0xF0) (0x90 to 0xBF ∷ tail ∷ tail ∷ [])
    ∷ row (0xF1 to 0xF3) (tail ∷ tail ∷ tail ∷ [])
    ∷ row (0xF4 to 0xF4) (0x80 to 0x8F ∷ tail ∷ tail ∷ [])
    ∷ []

-- the bytes that a character still lacks, one in each range, then a run of characters, each by some row
unfoldable pub run : List Range → List ℕ → Bool
run [] [] = true
run [] (b ∷ s) = some (λ (r : Row). holds r.lead b and run r.behind s) rows
run (r ∷ rs) [] = false
run (r ∷ rs) (b ∷ s) = holds r b and run rs s

-- the text is a run of characters
abbrev pub utf8 : List ℕ → Bool
utf8 s = run [] s
