-- Document 01, "Names and fields": the rules of the fields that a line and a datagram share.
use Rattle.std.specs.Prelude.{ℕ, Bool, List, take}
use Rattle.octets.specs.Words.{◌and◌, ◌≤?◌}
use Rattle.callsigns.specs.Callsign.{callsign}
use Rattle.callsigns.specs.Destination.{destination}
use Rattle.names.specs.Texts.{stream_id}
use Rattle.headers.specs.Rule.{headers}
pub use Rattle.field_rules.specs.Rules.{if_some}
unfoldable pub use Rattle.field_rules.specs.Rules.{id_in, ttl_in, fragment_in}
use Rattle.envelope.specs.declared.CallText.{CallText}
use Rattle.envelope.specs.declared.AddressText.{AddressText}
use Rattle.envelope.specs.declared.StreamText.{StreamText}
use Rattle.envelope.specs.declared.Fragment.{Fragment}
use Rattle.envelope.specs.declared.Stream.{Stream}
use Rattle.envelope.specs.declared.Envelope.{Envelope}

-- a text: the first bytes of its array
abbrev pub call_bytes : CallText → List ℕ
call_bytes t = take t.len t.bytes

abbrev pub address_bytes : AddressText → List ℕ
address_bytes t = take t.len t.bytes

abbrev pub stream_bytes : StreamText → List ℕ
stream_bytes t = take t.len t.bytes

-- a length that lies in its array, and a text that is a callsign, a destination, a stream id
unfoldable pub call_in : CallText → Bool
call_in t = t.len ≤? 12 and callsign (call_bytes t)

unfoldable pub address_in : AddressText → Bool
address_in t = t.len ≤? 45 and destination (address_bytes t)

unfoldable pub stream_in : StreamText → Bool
stream_in t = t.len ≤? 255 and stream_id (stream_bytes t)

-- a fragment's numbers, and a stream with an id (its number and its gap may be any of their range)
abbrev pub fragment_good : Fragment → Bool
fragment_good f = fragment_in f.mid f.index f.total

abbrev pub stream_good : Stream → Bool
stream_good s = stream_in s.sid

-- the fields are those of a valid message (the salt may be any number of its range)
unfoldable pub envelope : Envelope → Bool
envelope e =
    id_in e.id
    and (if_some ttl_in e.ttl
    and (if_some call_in e.src
    and (if_some fragment_good e.fragment
    and (if_some stream_good e.stream
    and (headers e.headers
    and address_in e.dst)))))
