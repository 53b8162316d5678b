-- Document 01, "The ihave line": how a message is written, and which messages can be.
use Rattle.std.specs.Prelude.{ℕ, Bool, List, [], ◌∷◌, ◌++◌, map, length, take, Option, Some}
use Rattle.std.specs.Option.{option_map, option_to_list}
use Rattle.text.specs.Decimal.{decimal, signed_decimal}
use Rattle.text.specs.Hex.{hex_digits}
use Rattle.names.specs.Reserved.{key_len, key_fmt, key_s, key_dst, key_chk, key_ttl, key_src, key_mid, key_frag, key_sid, key_sn, key_gt}
use Rattle.headers.specs.Keys.{key_of}
use Rattle.headers.specs.Rule.{value_of}
use Rattle.headers.specs.declared.Header.{Header}
use Rattle.headers.specs.declared.Headers.{Headers}
use Rattle.crc16.specs.Crc.{crc16}
use Rattle.envelope.specs.Rules.{call_bytes, address_bytes, stream_bytes, envelope}
use Rattle.envelope.specs.declared.Fragment.{Fragment}
use Rattle.envelope.specs.declared.Stream.{Stream}
use Rattle.tokens.specs.Tokens.{Token, token, word_of, spaced}
use Rattle.line.specs.declared.Line.{Line}
use Rattle.line_values.specs.Values.{slash}
use Rattle.line_groups.specs.Rules.{'p'}
use Rattle.line_refusals.specs.Order.{refuses_writing, line_good}
use Rattle.line.specs.Reading.{ihave}

-- a key, and the value that is written where there is one
pub record Choice : Type 0 where
  pub key : List ℕ
  pub text : Option (List ℕ)

abbrev pub choice : List ℕ → Option (List ℕ) → Choice
choice k v = record { key = k; text = v }

-- the tokens of those that have a value
unfoldable pub chosen : List Choice → List Token
chosen [] = []
chosen (c ∷ cs) = option_to_list (option_map (token c.key) c.text) ++ chosen cs

-- a fragment's master id and its N/M
abbrev pub mid_text : Fragment → List ℕ
mid_text f = hex_digits 7 f.mid

abbrev pub part_text : Fragment → List ℕ
part_text f = decimal f.index ++ (slash ∷ decimal f.total)

-- a stream's id and numbers
abbrev pub sid_text : Stream → List ℕ
sid_text s = stream_bytes s.sid

abbrev pub sn_text : Stream → List ℕ
sn_text s = decimal s.sn

abbrev pub gt_text : Stream → List ℕ
gt_text s = decimal s.gt

-- the writer's order: len fmt s ttl src mid frag sid sn gt; `fmt=p` always
unfoldable pub choices_of : Line → List Choice
choices_of m =
    choice key_len (Some (decimal m.len))
    ∷ choice key_fmt (Some 'p')
    ∷ choice key_s (option_map signed_decimal m.fields.salt)
    ∷ choice key_ttl (option_map decimal m.fields.ttl)
    ∷ choice key_src (option_map call_bytes m.fields.src)
    ∷ choice key_mid (option_map mid_text m.fields.fragment)
    ∷ choice key_frag (option_map part_text m.fields.fragment)
    ∷ choice key_sid (option_map sid_text m.fields.stream)
    ∷ choice key_sn (option_map sn_text m.fields.stream)
    ∷ choice key_gt (option_map gt_text m.fields.stream)
    ∷ []

-- then the headers, and dst
abbrev pub header_token : Header → Token
header_token h = token (key_of h) (value_of h)

abbrev pub header_tokens : Headers → List Token
header_tokens h = map header_token (take h.count h.items)

abbrev pub dst_token : Line → Token
dst_token m = token key_dst (address_bytes m.fields.dst)

unfoldable pub tokens_of : Line → List Token
tokens_of m = chosen (choices_of m) ++ (header_tokens m.fields.headers ++ (dst_token m ∷ []))

-- the bytes before the space that precedes `chk=`
unfoldable pub body_of : Line → List ℕ
body_of m = ihave ++ spaced (hex_digits 7 m.fields.id ∷ map word_of (tokens_of m))

-- `chk` always: four lowercase hex digits over those bytes
abbrev pub chk_token : List ℕ → Token
chk_token body = token key_chk (hex_digits 4 (crc16 body))

-- the line without its LF
unfoldable pub print_of : Line → List ℕ
print_of m = body_of m ++ spaced (word_of (chk_token (body_of m)) ∷ [])

-- and with it, as it goes into a lent buffer
abbrev pub line_written : Line → List ℕ
line_written m = print_of m ++ (0x0A ∷ [])

-- which messages can be written: by the rules that the reader tests, and in at most 512 bytes
unfoldable pub message_good : Line → Bool
message_good m = line_good (envelope m.fields) m.len (length (print_of m))

-- the number that refuses the writing into a buffer of `room` bytes, the lowest first; 0 where none does
unfoldable pub write_refusal : Line → ℕ → ℕ
write_refusal m room = refuses_writing (message_good m) m.len (length (line_written m)) room
