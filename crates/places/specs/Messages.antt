-- Document 01, "Streams": the messages that a row holds, in ascending number, and the gap before them.
use Rattle.std.specs.Prelude.{ℕ, ◌+◌, Bool, true, false, List, [], ◌∷◌, if◌then◌else◌}
use Rattle.octets.specs.Words.{◌and◌, some, ◌<?◌, ◌≤?◌, ◌=?◌}
use Rattle.places.specs.declared.Held.{Held}

-- ---- the held messages

-- a number of 32 bits
abbrev pub word : ℕ → Bool
word x = x <? 4294967296

-- a message of three such numbers
abbrev pub words : Held → Bool
words m = word m.number and word m.timeout and word m.slip

-- strictly ascending, and none below `low`
abbrev pub ascending : ℕ → List Held → Bool
ascending low [] = true
ascending low (m ∷ rest) = low ≤? m.number and ascending (m.number + 1) rest

-- how many stand above `expected`
abbrev pub above : ℕ → List Held → ℕ
above expected [] = 0
above expected (m ∷ rest) = (if expected <? m.number then 1 else 0) + above expected rest

-- whether the number is held
abbrev pub holds : ℕ → List Held → Bool
holds number = some (λ m. m.number =? number)

-- the messages with one more, in ascending number
abbrev pub insert : Held → List Held → List Held
insert x [] = x ∷ []
insert x (m ∷ rest) = if x.number <? m.number then x ∷ m ∷ rest else (m ∷ insert x rest)

-- ---- the gap

-- the gap is open while something is held and the lowest held is above expected
abbrev pub gap_open : ℕ → List Held → Bool
gap_open expected [] = false
gap_open expected (lowest ∷ rest) = expected <? lowest.number
