-- Document 01, "The saved table": what the image has of one open row behind its mark and number, each part a field, in the paper's order.
use Rattle.std.specs.Prelude.{ℕ, true, List, length}
use Rattle.octets.specs.Words.{◌and◌, ◌≤?◌}
use Rattle.octets.specs.Field.{Field, num, raw, only, seq, tagged, through, many}
use Rattle.callsigns.specs.Callsign.{callsign}
use Rattle.names.specs.Texts.{stream_id}
use Rattle.keys.specs.declared.Key.{Key}
use Rattle.keys.specs.Key.{originator_of, stream_id_of, key_of, keeps_key}
use Rattle.places.specs.declared.Held.{Held}
use Rattle.rows.specs.declared.Row.{Row}
use Rattle.rows.specs.Stream.{Stream, keeps}
use Rattle.rows.specs.Row.{stream_of, row_of, keeps_row}

-- ---- originator length and bytes, stream id length and bytes

-- a length in one byte, and as many bytes
unfoldable pub text : Field (List ℕ)
text = tagged length (num 1) (raw (λ b. true))

-- an originator that is a callsign, then a stream id that is one
abbrev pub names : Field (List ℕ × List ℕ)
names = only (λ x. callsign x.0 and stream_id x.1) (seq text (λ originator. text))

-- the key of the two
unfoldable pub key : Field Key
key = through (λ x. key_of x.0 x.1) (λ k. (originator_of k, stream_id_of k)) keeps_key names

-- ---- expected (8 bytes), clock (4), gap start (4), held count (1), then number, timeout, slip (4 each)

unfoldable pub message : Field Held
message = through
    (λ x. record { number = x.0; timeout = x.1.0; slip = x.1.1 })
    (λ m. (m.number, (m.timeout, m.slip)))
    (λ m. true)
    (seq (num 4) (λ number. seq (num 4) (λ timeout. num 4)))

-- at most sixteen, after their count
unfoldable pub messages : Field (List Held)
messages = tagged length (only (λ n. n ≤? 16) (num 1)) (many message)

abbrev pub stream : Field Stream
stream = through
    (λ x. record { expected = x.0; clock = x.1.0; gap_start = x.1.1.0; held = x.1.1.1 })
    (λ s. (s.expected, (s.clock, (s.gap_start, s.held))))
    (λ s. true)
    (seq (num 8) (λ expected. seq (num 4) (λ clock. seq (num 4) (λ start. messages))))

-- a row that keeps its rules
unfoldable pub row : Field Row
row = through row_of stream_of keeps_row (only keeps stream)

-- THE RECORD of an open row: its key, then the row
unfoldable pub body : Field (Key × Row)
body = seq key (λ k. row)
