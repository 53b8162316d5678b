-- Document 01, "Names and fields": what the headers of a message must be.
use Rattle.std.specs.Prelude.{ℕ, Bool, List, take}
use Rattle.octets.specs.Words.{◌and◌, ◌≤?◌, every}
use Rattle.names.specs.Texts.{header_key, header_value}
use Rattle.headers.specs.Keys.{all_differ, key_of, keys_of}
use Rattle.headers.specs.declared.Header.{Header}
use Rattle.headers.specs.declared.Headers.{Headers}

-- a header's value: the first bytes of its array
unfoldable pub value_of : Header → List ℕ
value_of h = take h.value_len h.value

-- a header: lengths that lie in their arrays, a header key and a header value
unfoldable pub header : Header → Bool
header h = h.key_len ≤? 32 and (h.value_len ≤? 128 and (header_key (key_of h) and header_value (value_of h)))

-- at most 8, each a header, and the keys all differ
unfoldable pub headers : Headers → Bool
headers h = h.count ≤? 8 and (every header (take h.count h.items) and all_differ (keys_of h))
