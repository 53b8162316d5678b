-- Document 01, "Names and fields": the keys of a message's headers all differ.
use Rattle.std.specs.Prelude.{ℕ, Bool, true, List, [], ◌∷◌, map, take}
use Rattle.octets.specs.Words.{◌and◌, no, some}
use Rattle.octets.specs.Bytes.{same}
use Rattle.headers.specs.declared.Header.{Header}
use Rattle.headers.specs.declared.Headers.{Headers}

-- no text comes again behind itself
unfoldable pub all_differ : List (List ℕ) → Bool
all_differ [] = true
all_differ (k ∷ ks) = no (some (same k) ks) and all_differ ks

-- a header's key: the first bytes of its array, as many as its length says and the array has
unfoldable pub key_of : Header → List ℕ
key_of h = take h.key_len h.key

-- the keys of the headers that count
unfoldable pub keys_of : Headers → List (List ℕ)
keys_of h = map key_of (take h.count h.items)
