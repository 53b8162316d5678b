-- A message by computation: the premises of `message-right` and `message-stands` can be met, by a payload of no bytes.
use Prim.Native.Nat.{ℕ}
use Rattle.std.specs.Prelude.{None}
use lib.ListN.{replicate}
use mathlib.Core.Path.{◌≡◌, refl}
use mathlib.Core.List.{List, [], ◌∷◌}
use Rattle.utf8.specs.Utf8 as utf
use Rattle.text.specs.Digits as digits
use Rattle.callsigns.specs.Runs as runs
use Rattle.callsigns.specs.Callsign.{alnum, suffix, base_length, callsign}
use Rattle.callsigns.specs.Destination.{app_byte, at_callsign, destination}
use Rattle.names.specs.Reserved.{reserved, reserved_keys}
use Rattle.names.specs.Texts.{text_byte, ruled, id_text, stream_id, header_key, header_value}
use Rattle.headers.specs.Keys.{all_differ, key_of, keys_of}
use Rattle.headers.specs.Rule.{value_of, header, headers}
use Rattle.crc16.specs.Crc.{bit_feed}
use Rattle.envelope.specs.Texts.{fitted, padded}
use Rattle.envelope.specs.Rules.{id_in, ttl_in, fragment_in, call_in, stream_in, address_in, envelope}
use Rattle.tokens.specs.Cuts.{has, before, after, split}
use Rattle.tokens.specs.Tokens.{present, value, others, last_only, keyed}
use Rattle.line_values.specs.Values.{is_part}
use Rattle.line_groups.specs.Rules.{payload_good, singles_good, fragment_good, stream_good}
use Rattle.line_places.specs.Headers.{headers_fit, headers_of}
use Rattle.line.specs.Reading.{plain, is_text, framed, fields_of, line_of, values_good, well_formed, chk_right, refusal_of, read_of}
use Rattle.sha1_block.specs.Block.{quarter, scheduled, schedule, round, rounds, plus, compressed}
use Rattle.sha1_digest.specs.Sha1.{padding}
use Rattle.sha1_digest.specs.Machine.{fed}
use Rattle.phrases.specs.Lines.{verb, spells, kind_of, is_data}
use Rattle.talk.specs.Answer as what
use Rattle.talk.specs.Sessions.{keeps_terms}
use Rattle.talk.specs.Talk.{completed, heard, data_heard}
use Rattle.session_rules.specs.Rules.{keeps_line, keeps_payload, keeps_session, step_refusal}
use Rattle.session.specs.Feed.{feed}
use Rattle.session.specs.Calls.{step_of}
use Rattle.exchange.specs.Host.{Lent, call, at_first, after_all}

abbrev lent : List ℕ → Lent
lent piece = record { piece = piece; payload = replicate 4096 0; room = 24 }

-- `ihave da39a3e len=0 fmt=p dst=m@A` LF, and `data da39a3e` LF
abbrev pub empty_offer : Lent
empty_offer = lent (105 ∷ 104 ∷ 97 ∷ 118 ∷ 101 ∷ 32 ∷ 100 ∷ 97 ∷ 51 ∷ 57 ∷ 97 ∷ 51 ∷ 101 ∷ 32 ∷ 108 ∷ 101 ∷ 110 ∷ 61 ∷ 48 ∷ 32 ∷ 102 ∷ 109 ∷ 116 ∷ 61 ∷ 112 ∷ 32 ∷ 100 ∷ 115 ∷ 116 ∷ 61 ∷ 109 ∷ 64 ∷ 65 ∷ 10 ∷ [])

abbrev pub empty_data : Lent
empty_data = lent (100 ∷ 97 ∷ 116 ∷ 97 ∷ 32 ∷ 100 ∷ 97 ∷ 51 ∷ 57 ∷ 97 ∷ 51 ∷ 101 ∷ 10 ∷ [])

pub message-met : (call (after_all at_first (empty_offer ∷ [])).session empty_data).step_record.happening.what
    ≡ what.message (record { id = 0xDA39A3E; salt = None; len = 0 })
unfolding utf.run digits.value runs.run runs.rest alnum suffix base_length callsign app_byte at_callsign destination reserved reserved_keys text_byte ruled id_text stream_id header_key header_value all_differ key_of keys_of value_of header headers bit_feed fitted padded id_in ttl_in fragment_in call_in stream_in address_in envelope has before after split present value others last_only keyed plain is_text framed payload_good singles_good is_part fragment_good stream_good headers_fit headers_of fields_of values_good well_formed chk_right refusal_of read_of line_of quarter scheduled schedule round rounds plus compressed padding fed verb spells kind_of is_data keeps_terms completed heard data_heard keeps_line keeps_payload keeps_session step_refusal feed step_of digits.digits
message-met = refl
