-- Document 01, "The ihave line": `key=value` tokens, one space between; a token splits at its first `=`.
use Rattle.std.specs.Prelude.{ℕ, Bool, true, false, List, [], ◌∷◌, ◌++◌, map, Option, Some, None, if◌then◌else◌}
use Rattle.octets.specs.Words.{◌and◌, ◌or◌, no, every, some}
use Rattle.octets.specs.Bytes.{same}
use Rattle.names.specs.Reserved.{reserved, key_chk}
use Rattle.headers.specs.Keys.{all_differ}
use Rattle.tokens.specs.Cuts.{has, before, after, split}

abbrev pub space : ℕ
space = 0x20

abbrev pub equals : ℕ
equals = 0x3D

-- the line's first word, `ihave`: i, h, a, v, e
abbrev pub ihave : List ℕ
ihave = 105 ∷ 104 ∷ 97 ∷ 118 ∷ 101 ∷ []

pub record Token : Type 0 where
  pub key : List ℕ
  pub value : List ℕ

abbrev pub token : List ℕ → List ℕ → Token
token k v = record { key = k; value = v }

-- a word splits at its first `=`
abbrev pub token_of : List ℕ → Token
token_of w = token (before equals w) (after equals w)

-- the words of a text, one space between, and the tokens that they are
abbrev pub words : List ℕ → List (List ℕ)
words s = split space s

abbrev pub tokens : List ℕ → List Token
tokens s = map token_of (words s)

abbrev pub keys : List Token → List (List ℕ)
keys ts = map (λ (t : Token). t.key) ts

-- whether a key is there, and its value: that of the first token with the key, empty where there is none
unfoldable pub present : List ℕ → List Token → Bool
present k ts = some (same k) (keys ts)

unfoldable pub value : List ℕ → List Token → List ℕ
value k [] = []
value k (t ∷ ts) = if same k t.key then t.value else value k ts

-- the value of a key that may be missing
abbrev pub given : List ℕ → List Token → Option (List ℕ)
given k ts = if present k ts then Some (value k ts) else None

-- the tokens whose keys are not reserved, in order
unfoldable pub others : List Token → List Token
others [] = []
others (t ∷ ts) = if reserved t.key then others ts else (t ∷ others ts)

abbrev pub none : List (List ℕ) → Bool
none [] = true
none (k ∷ ks) = false

-- the key k, where it stands, is last: each key is another one, or nothing follows it
unfoldable pub last_only : List ℕ → List (List ℕ) → Bool
last_only k [] = true
last_only k (x ∷ xs) = (no (same k x) or none xs) and last_only k xs

-- every word has its `=`, no key stands twice, and `chk` is last
unfoldable pub keyed : List ℕ → Bool
keyed s = every (has equals) (words s) and (all_differ (keys (tokens s)) and last_only key_chk (keys (tokens s)))

-- ---- written: a token is its key, `=` and its value; each word stands behind a space

abbrev pub word_of : Token → List ℕ
word_of t = t.key ++ (equals ∷ t.value)

abbrev pub spaced : List (List ℕ) → List ℕ
spaced [] = []
spaced (w ∷ ws) = space ∷ (w ++ spaced ws)
