-- Document 01, "The ihave line": what reading a line finds. The line is split into tokens, each key is looked up, and the rules are tests.
use Rattle.std.specs.Prelude.{ℕ, zero, suc, ◌-◌, Bool, true, List, length, take, Result, Ok, Err, if◌then◌else◌}
use Rattle.octets.specs.Words.{◌and◌, no, ◌=?◌}
use Rattle.text.specs.Hex.{hex_value}
use Rattle.names.specs.Reserved.{key_chk}
use Rattle.crc16.specs.Crc.{crc16}
use Rattle.envelope.specs.Texts.{blank_envelope}
use Rattle.envelope.specs.Rules.{envelope}
use Rattle.tokens.specs.Tokens.{Token, tokens, present, value}
use Rattle.line_groups.specs.Rules.{deflated, payload_good, singles_good, fragment_good, stream_good}
use Rattle.line_groups.specs.Answers.{len_of}
use Rattle.line_places.specs.Headers.{headers_fit}
use Rattle.line_refusals.specs.Order.{refuses_reading}
pub use Rattle.line_frame.specs.Frame.{ihave, verb_word, id_word, rest_of}
unfoldable pub use Rattle.line_frame.specs.Frame.{plain, is_text, framed}
unfoldable pub use Rattle.line_fields.specs.Fields.{fields_of}
use Rattle.line.specs.declared.Line.{Line}
use Rattle.refusals.specs.declared.Refusal.{Refusal}
use Rattle.refusals.specs.Refusals.{number_of}

-- ---- what the line says

unfoldable pub line_of : List ℕ → Line
line_of s = record { len = len_of (tokens (rest_of s)); fields = fields_of (hex_value (id_word s)) (tokens (rest_of s)) }

-- ---- the refusals

-- every rule of the line holds; what it says keeps the rules of every message (a missing or too long `dst` is no destination there,
-- a too long `src` no callsign, a too long `sid` no stream id, a too long header key no key)
unfoldable pub values_good : List Token → Bool
values_good ts = payload_good ts and (singles_good ts and (fragment_good ts and (stream_good ts and headers_fit ts)))

unfoldable pub well_formed : List ℕ → Bool
well_formed s =
    is_text s
    and (framed s
    and (values_good (tokens (rest_of s))
    and envelope (fields_of (hex_value (id_word s)) (tokens (rest_of s)))))

-- `chk`, where it is there, is the check of the bytes before the space that precedes it: all but the last nine, ` chk=` and four digits
unfoldable pub chk_right : List ℕ → List Token → Bool
chk_right s ts = if present key_chk ts then crc16 (take (length s - 9) s) =? hex_value (value key_chk ts) else true

-- the number that refuses the line, the lowest first; 0 where none does
unfoldable pub refusal_of : List ℕ → ℕ
refusal_of s = refuses_reading (no (well_formed s)) (no (chk_right s (tokens (rest_of s)))) (deflated (tokens (rest_of s))) (len_of (tokens (rest_of s)))

-- ---- the answer: its number and values for each case of what the code answers

-- read; refused, with the number of the table
pub data Reading : Type 0 where
  Read : Reading
  Refused : (number : ℕ) → Reading

-- what a reading leaves: that, and the line, which is blank in a refusal
pub record Outcome : Type 0 where
  pub reading : Reading
  pub line : Line

unfoldable pub blank_line : Line
blank_line = record { len = 0; fields = blank_envelope }

abbrev pub says : Result Line Refusal → Outcome
says (Ok m) = record { reading = Read; line = m }
says (Err r) = record { reading = Refused (number_of r); line = blank_line }

-- by the number that refuses the line
abbrev pub read_as : ℕ → Line → Outcome
read_as zero m = record { reading = Read; line = m }
read_as (suc n) m = record { reading = Refused (suc n); line = blank_line }

unfoldable pub read_of : List ℕ → Outcome
read_of s = read_as (refusal_of s) (line_of s)
