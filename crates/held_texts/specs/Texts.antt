-- Texts held in arrays: the text, then zeros, beside its length. A text too long for its array is held as none.
use Rattle.std.specs.Prelude.{ℕ, ◌+◌, List, [], length, replicate, set, if◌then◌else◌}
use Rattle.octets.specs.Words.{◌≤?◌}
use Rattle.octets.specs.Bytes.{front}
use Rattle.headers.specs.declared.Header.{Header}
use Rattle.headers.specs.declared.Headers.{Headers}

-- what of a text an array of n bytes can hold: all of it, or nothing
unfoldable pub fitted : ℕ → List ℕ → List ℕ
fitted n s = if length s ≤? n then s else []

-- n zeros
abbrev pub zeros : ℕ → List ℕ
zeros n = replicate n 0

-- the array of n bytes that begins with the text
unfoldable pub padded : ℕ → List ℕ → List ℕ
padded n s = front s (zeros n)

abbrev pub header_text : List ℕ → List ℕ → Header
header_text k v = record {
  key = padded 32 (fitted 32 k);
  key_len = length (fitted 32 k);
  value = padded 128 (fitted 128 v);
  value_len = length (fitted 128 v);
}

-- no headers: eight empty ones, of which none counts
abbrev pub no_headers : Headers
no_headers = record { items = replicate 8 (header_text [] []); count = 0 }

-- the headers, and one more behind them; of eight there are no more
unfoldable pub with_header : Headers → Header → Headers
with_header h x = if 8 ≤? h.count then h else record { items = set h.items h.count x; count = h.count + 1 }
