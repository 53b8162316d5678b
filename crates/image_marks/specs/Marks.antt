-- Document 01, "The saved table": the marks by which rows and end are told.
use Rattle.std.specs.Prelude.{ℕ, List, [], ◌∷◌}

-- mark 53 54 and the row number
abbrev pub row_mark : ℕ → List ℕ
row_mark i = 0x53 ∷ 0x54 ∷ i ∷ []

-- mark 53 45 and the row count
abbrev pub end_record : ℕ → List ℕ
end_record rows = 0x53 ∷ 0x45 ∷ rows ∷ []
