-- What of a message counts: its fields up to their lengths. Tidied, it is zero past every length; readers answer tidy messages only.
use Rattle.std.specs.Prelude.{[], map, take, replicate, option_map}
use Rattle.octets.specs.Bytes.{front}
use Rattle.headers.specs.declared.Header.{Header}
use Rattle.headers.specs.declared.Headers.{Headers}
use Rattle.headers.specs.Keys.{key_of}
use Rattle.headers.specs.Rule.{value_of}
use Rattle.envelope.specs.declared.CallText.{CallText}
use Rattle.envelope.specs.declared.Stream.{Stream}
use Rattle.envelope.specs.declared.Envelope.{Envelope}
use Rattle.envelope.specs.Texts.{call_text, address_text, stream_text, header_text}
use Rattle.envelope.specs.Rules.{call_bytes, address_bytes, stream_bytes}

abbrev pub tidy_call : CallText → CallText
tidy_call t = call_text (call_bytes t)

abbrev pub tidy_stream : Stream → Stream
tidy_stream s = record { sid = stream_text (stream_bytes s.sid); sn = s.sn; gt = s.gt }

abbrev pub tidy_header : Header → Header
tidy_header h = header_text (key_of h) (value_of h)

unfoldable pub tidy_headers : Headers → Headers
tidy_headers h = record { items = front (map tidy_header (take h.count h.items)) (replicate 8 (header_text [] [])); count = h.count }

unfoldable pub tidy : Envelope → Envelope
tidy e = record {
  id = e.id;
  salt = e.salt;
  ttl = e.ttl;
  src = option_map tidy_call e.src;
  fragment = e.fragment;
  stream = option_map tidy_stream e.stream;
  headers = tidy_headers e.headers;
  dst = address_text (address_bytes e.dst);
}
