-- Texts held in arrays: the text, then zeros, beside its length. A text too long for its array is held as none.
use Rattle.std.specs.Prelude.{ℕ, List, [], length, None}
pub use Rattle.held_texts.specs.Texts.{zeros, header_text, no_headers}
unfoldable pub use Rattle.held_texts.specs.Texts.{fitted, padded, with_header}
use Rattle.envelope.specs.declared.CallText.{CallText}
use Rattle.envelope.specs.declared.AddressText.{AddressText}
use Rattle.envelope.specs.declared.StreamText.{StreamText}
use Rattle.envelope.specs.declared.Envelope.{Envelope}

abbrev pub call_text : List ℕ → CallText
call_text s = record { len = length (fitted 12 s); bytes = padded 12 (fitted 12 s) }

abbrev pub address_text : List ℕ → AddressText
address_text s = record { len = length (fitted 45 s); bytes = padded 45 (fitted 45 s) }

abbrev pub stream_text : List ℕ → StreamText
stream_text s = record { len = length (fitted 255 s); bytes = padded 255 (fitted 255 s) }

-- no message: every number 0, nothing that may be absent, every text empty
unfoldable pub blank_envelope : Envelope
blank_envelope = record {
  id = 0;
  salt = None;
  ttl = None;
  src = None;
  fragment = None;
  stream = None;
  headers = no_headers;
  dst = address_text [];
}
