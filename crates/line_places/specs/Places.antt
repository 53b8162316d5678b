-- Document 01, "The ihave line": where the values of the reserved keys stand in the text of a line's tokens.
use Rattle.std.specs.Prelude.{ℕ, ◌+◌, Bool, List, [], ◌∷◌, map, length, take, drop, Option, Some, None, if◌then◌else◌}
use Rattle.std.specs.Option.{option_map}
use Rattle.octets.specs.Words.{◌and◌, every}
use Rattle.octets.specs.Bytes.{same}
use Rattle.names.specs.Reserved.{reserved, reserved_keys, key_chk}
use Rattle.headers.specs.Keys.{all_differ}
use Rattle.tokens.specs.Cuts.{has, before, after}
use Rattle.tokens.specs.Tokens.{words, tokens, keys, others, last_only, equals}
use Rattle.line_places.specs.Headers.{headers_fit, headers_of}
use Rattle.line_places.specs.declared.Place.{Place}
use Rattle.line_places.specs.declared.Places.{Places}

abbrev pub no_place : Option Place
no_place = None

abbrev pub place_at : ℕ → ℕ → Option Place
place_at start len = Some (record { start = start; len = len })

-- the place of a key's value among words of which the first begins at the place `at`: behind the `=` of the first word with the key
unfoldable pub place_from : ℕ → List (List ℕ) → List ℕ → Option Place
place_from at [] k = no_place
place_from at (w ∷ ws) k =
    if same k (before equals w)
    then place_at (at + length (before equals w) + 1) (length (after equals w))
    else place_from (at + length w + 1) ws k

-- what stands at a place of a text
abbrev pub value_at : List ℕ → Option Place → Option (List ℕ)
value_at t p = option_map (λ (q : Place). take q.len (drop q.start t)) p

-- those of the keys that are reserved
unfoldable pub reserved_among : List (List ℕ) → List (List ℕ)
reserved_among [] = []
reserved_among (k ∷ ks) = if reserved k then (k ∷ reserved_among ks) else reserved_among ks

-- every word has its `=`, no reserved key stands twice, `chk` is last, and the headers fit (that their keys differ is said in `headers`)
unfoldable pub places_good : List ℕ → Bool
places_good t =
    every (has equals) (words t)
    and (all_differ (reserved_among (keys (tokens t)))
    and (last_only key_chk (keys (tokens t))
    and headers_fit (tokens t)))

-- the answer: the place of each reserved key in the table's order, and the headers; none where the rules do not hold
unfoldable pub places_of : List ℕ → Option Places
places_of t =
    if places_good t
    then Some (record { slots = map (place_from 0 (words t)) reserved_keys; headers = headers_of (others (tokens t)) })
    else None
