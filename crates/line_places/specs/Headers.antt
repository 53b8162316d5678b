-- Document 01, "The ihave line": other keys are headers, kept in order.
use Rattle.std.specs.Prelude.{Bool, List, [], map, length, replicate}
use Rattle.octets.specs.Words.{◌and◌, ◌≤?◌, every}
use Rattle.octets.specs.Bytes.{front}
use Rattle.headers.specs.declared.Header.{Header}
use Rattle.headers.specs.declared.Headers.{Headers}
use Rattle.envelope.specs.Texts.{header_text}
use Rattle.tokens.specs.Tokens.{Token, others}

-- they fit into their arrays: at most 8, values of at most 128 bytes (what else is asked of headers is said in `headers`; a key too long
-- for its array is held as none there, and none is no key)
abbrev pub short_value : Token → Bool
short_value t = length t.value ≤? 128

unfoldable pub headers_fit : List Token → Bool
headers_fit ts = length (others ts) ≤? 8 and every short_value (others ts)

-- the headers that tokens are, in order
abbrev pub header_of : Token → Header
header_of t = header_text t.key t.value

unfoldable pub headers_of : List Token → Headers
headers_of hs = record { items = front (map header_of hs) (replicate 8 (header_text [] [])); count = length hs }
