-- Document 01, "The ihave line": what a line's tokens say, where the rules of every key hold.
use Rattle.std.specs.Prelude.{ℕ, Bool, List, Option, Some, None, if◌then◌else◌}
use Rattle.std.specs.Option.{option_map}
use Rattle.octets.specs.Words.{◌and◌}
use Rattle.text.specs.Decimal.{number, signed}
use Rattle.text.specs.Hex.{hex_value}
use Rattle.names.specs.Reserved.{key_s, key_dst, key_chk, key_ttl, key_src, key_mid, key_frag, key_sid, key_sn, key_gt}
use Rattle.envelope.specs.Texts.{call_text, address_text}
use Rattle.envelope.specs.declared.Envelope.{Envelope}
use Rattle.tokens.specs.Tokens.{Token, tokens, value, given, others}
use Rattle.line_groups.specs.Rules.{deflated, payload_good, singles_good, fragment_good, stream_good}
use Rattle.line_groups.specs.Answers.{len_of, fragment_at, stream_at}
use Rattle.line_places.specs.Headers.{headers_of}
use Rattle.line_places.specs.Places.{places_good}
use Rattle.line_fields.specs.declared.Values.{Values}

-- the fields, by the id and the tokens
unfoldable pub fields_of : ℕ → List Token → Envelope
fields_of id ts = record {
  id = id;
  salt = option_map signed (given key_s ts);
  ttl = option_map number (given key_ttl ts);
  src = option_map call_text (given key_src ts);
  fragment = option_map (λ mid. fragment_at mid (value key_frag ts)) (given key_mid ts);
  stream = option_map (λ sid. stream_at sid (value key_sn ts) (value key_gt ts)) (given key_sid ts);
  headers = headers_of (others ts);
  dst = address_text (value key_dst ts);
}

-- the rules of the groups of keys
unfoldable pub groups_good : List Token → Bool
groups_good ts = payload_good ts and (singles_good ts and (fragment_good ts and stream_good ts))

-- the answer: all values; none where the rules do not hold
unfoldable pub good_values : ℕ → List Token → Values
good_values id ts = record {
  len = len_of ts;
  deflated = deflated ts;
  chk = option_map hex_value (given key_chk ts);
  fields = fields_of id ts;
}

unfoldable pub values_of : ℕ → List ℕ → Option Values
values_of id t = if places_good t and groups_good (tokens t) then Some (good_values id (tokens t)) else None
