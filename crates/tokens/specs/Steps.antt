-- The words of a text from a place on, which loops over them go by; no public promise speaks of it.
use Rattle.std.specs.Prelude.{ℕ, List, [], map, length, drop, if◌then◌else◌}
use Rattle.octets.specs.Words.{◌≤?◌}
use Rattle.tokens.specs.Cuts.{before}
use Rattle.tokens.specs.Tokens.{Token, token_of, words, space}

-- the words from a place on: none past the end
abbrev pub words_from : ℕ → List ℕ → List (List ℕ)
words_from i s = if i ≤? length s then words (drop i s) else []

abbrev pub tokens_from : ℕ → List ℕ → List Token
tokens_from i s = map token_of (words_from i s)

-- the word at a place
abbrev pub word_at : ℕ → List ℕ → List ℕ
word_at i s = before space (drop i s)
