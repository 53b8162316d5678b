-- Whole lines, by computation: the number that refuses each (0: none), and what two of them say.
use Rattle.std.specs.Prelude.{Some}
use Prim.Native.Nat.{ℕ}
use lib.IntN.{pos}
use mathlib.Core.Path.{◌≡◌, refl}
use mathlib.Core.List.{List, [], ◌∷◌}
use Rattle.utf8.specs.Utf8 as utf
use Rattle.text.specs.Digits as digits
use Rattle.callsigns.specs.Runs as runs
use Rattle.callsigns.specs.Callsign.{alnum, suffix, base_length, callsign}
use Rattle.callsigns.specs.Destination.{app_byte, at_callsign, destination}
use Rattle.names.specs.Reserved.{reserved, reserved_keys}
use Rattle.names.specs.Texts.{text_byte, ruled, id_text, stream_id, header_key, header_value}
use Rattle.headers.specs.Keys.{all_differ, key_of, keys_of}
use Rattle.headers.specs.Rule.{value_of, header, headers}
use Rattle.crc16.specs.Crc.{bit_feed}
use Rattle.envelope.specs.Texts.{fitted, padded}
use Rattle.envelope.specs.Rules.{id_in, ttl_in, fragment_in, call_in, stream_in, address_in, envelope}
use Rattle.tokens.specs.Cuts.{has, before, after, split}
use Rattle.tokens.specs.Tokens.{present, value, others, last_only, keyed}
use Rattle.line_values.specs.Values.{is_part}
use Rattle.line_groups.specs.Rules.{payload_good, singles_good, fragment_good, stream_good}
use Rattle.line_places.specs.Headers.{headers_fit, headers_of}
use Rattle.line.specs.Reading.{plain, is_text, framed, fields_of, line_of, values_good, well_formed, chk_right, refusal_of}

-- 000's line, with its true `chk`: ihave 7e1f3a2 len=5 fmt=p s=1714982400000 src=G0ORIG dst=mail@G0RCV chk=97d9
abbrev pub 'with-chk' : List ℕ
'with-chk' = 105 ∷ 104 ∷ 97 ∷ 118 ∷ 101 ∷ 32 ∷ 55 ∷ 101 ∷ 49 ∷ 102 ∷ 51 ∷ 97 ∷ 50 ∷ 32 ∷ 108 ∷ 101 ∷ 110 ∷ 61 ∷ 53 ∷ 32 ∷ 102 ∷ 109 ∷ 116 ∷ 61 ∷ 112 ∷ 32 ∷ 115 ∷ 61 ∷ 49 ∷ 55 ∷ 49 ∷ 52 ∷ 57 ∷ 56 ∷ 50 ∷ 52 ∷ 48 ∷ 48 ∷ 48 ∷ 48 ∷ 48 ∷ 32 ∷ 115 ∷ 114 ∷ 99 ∷ 61 ∷ 71 ∷ 48 ∷ 79 ∷ 82 ∷ 73 ∷ 71 ∷ 32 ∷ 100 ∷ 115 ∷ 116 ∷ 61 ∷ 109 ∷ 97 ∷ 105 ∷ 108 ∷ 64 ∷ 71 ∷ 48 ∷ 82 ∷ 67 ∷ 86 ∷ 32 ∷ 99 ∷ 104 ∷ 107 ∷ 61 ∷ 57 ∷ 55 ∷ 100 ∷ 57 ∷ []

pub with-chk : refusal_of 'with-chk' ≡ 0
unfolding utf.run digits.value runs.run runs.rest alnum suffix base_length callsign app_byte at_callsign destination reserved reserved_keys text_byte ruled id_text stream_id header_key header_value all_differ key_of keys_of value_of header headers bit_feed fitted padded id_in ttl_in fragment_in call_in stream_in address_in envelope has before after split present value others last_only keyed plain is_text framed payload_good singles_good is_part fragment_good stream_good headers_fit headers_of fields_of values_good well_formed chk_right refusal_of
with-chk = refl

-- the same with the `chk` that 000 prints: ihave 7e1f3a2 len=5 fmt=p s=1714982400000 src=G0ORIG dst=mail@G0RCV chk=a31f
abbrev 'other-chk' : List ℕ
'other-chk' = 105 ∷ 104 ∷ 97 ∷ 118 ∷ 101 ∷ 32 ∷ 55 ∷ 101 ∷ 49 ∷ 102 ∷ 51 ∷ 97 ∷ 50 ∷ 32 ∷ 108 ∷ 101 ∷ 110 ∷ 61 ∷ 53 ∷ 32 ∷ 102 ∷ 109 ∷ 116 ∷ 61 ∷ 112 ∷ 32 ∷ 115 ∷ 61 ∷ 49 ∷ 55 ∷ 49 ∷ 52 ∷ 57 ∷ 56 ∷ 50 ∷ 52 ∷ 48 ∷ 48 ∷ 48 ∷ 48 ∷ 48 ∷ 32 ∷ 115 ∷ 114 ∷ 99 ∷ 61 ∷ 71 ∷ 48 ∷ 79 ∷ 82 ∷ 73 ∷ 71 ∷ 32 ∷ 100 ∷ 115 ∷ 116 ∷ 61 ∷ 109 ∷ 97 ∷ 105 ∷ 108 ∷ 64 ∷ 71 ∷ 48 ∷ 82 ∷ 67 ∷ 86 ∷ 32 ∷ 99 ∷ 104 ∷ 107 ∷ 61 ∷ 97 ∷ 51 ∷ 49 ∷ 102 ∷ []

other-chk : refusal_of 'other-chk' ≡ 2
unfolding utf.run digits.value runs.run runs.rest alnum suffix base_length callsign app_byte at_callsign destination reserved reserved_keys text_byte ruled id_text stream_id header_key header_value all_differ key_of keys_of value_of header headers bit_feed fitted padded id_in ttl_in fragment_in call_in stream_in address_in envelope has before after split present value others last_only keyed plain is_text framed payload_good singles_good is_part fragment_good stream_good headers_fit headers_of fields_of values_good well_formed chk_right refusal_of
other-chk = refl

-- keys in another order, two headers, a value with `=` and an empty one: ihave d2e7f0a dst=chat@G0RCV-15 x=1=2 len=42 gt=600 mid=4cf02b1 sn=1 ttl=9 frag=2/3 sid=chat y= fmt=p
abbrev 'many' : List ℕ
'many' = 105 ∷ 104 ∷ 97 ∷ 118 ∷ 101 ∷ 32 ∷ 100 ∷ 50 ∷ 101 ∷ 55 ∷ 102 ∷ 48 ∷ 97 ∷ 32 ∷ 100 ∷ 115 ∷ 116 ∷ 61 ∷ 99 ∷ 104 ∷ 97 ∷ 116 ∷ 64 ∷ 71 ∷ 48 ∷ 82 ∷ 67 ∷ 86 ∷ 45 ∷ 49 ∷ 53 ∷ 32 ∷ 120 ∷ 61 ∷ 49 ∷ 61 ∷ 50 ∷ 32 ∷ 108 ∷ 101 ∷ 110 ∷ 61 ∷ 52 ∷ 50 ∷ 32 ∷ 103 ∷ 116 ∷ 61 ∷ 54 ∷ 48 ∷ 48 ∷ 32 ∷ 109 ∷ 105 ∷ 100 ∷ 61 ∷ 52 ∷ 99 ∷ 102 ∷ 48 ∷ 50 ∷ 98 ∷ 49 ∷ 32 ∷ 115 ∷ 110 ∷ 61 ∷ 49 ∷ 32 ∷ 116 ∷ 116 ∷ 108 ∷ 61 ∷ 57 ∷ 32 ∷ 102 ∷ 114 ∷ 97 ∷ 103 ∷ 61 ∷ 50 ∷ 47 ∷ 51 ∷ 32 ∷ 115 ∷ 105 ∷ 100 ∷ 61 ∷ 99 ∷ 104 ∷ 97 ∷ 116 ∷ 32 ∷ 121 ∷ 61 ∷ 32 ∷ 102 ∷ 109 ∷ 116 ∷ 61 ∷ 112 ∷ []

many : refusal_of 'many' ≡ 0
unfolding utf.run digits.value runs.run runs.rest alnum suffix base_length callsign app_byte at_callsign destination reserved reserved_keys text_byte ruled id_text stream_id header_key header_value all_differ key_of keys_of value_of header headers bit_feed fitted padded id_in ttl_in fragment_in call_in stream_in address_in envelope has before after split present value others last_only keyed plain is_text framed payload_good singles_good is_part fragment_good stream_good headers_fit headers_of fields_of values_good well_formed chk_right refusal_of
many = refl

-- 000's malformed offer: ihave x len=oops fmt=p dst=mail@G0X
abbrev 'bad-len' : List ℕ
'bad-len' = 105 ∷ 104 ∷ 97 ∷ 118 ∷ 101 ∷ 32 ∷ 120 ∷ 32 ∷ 108 ∷ 101 ∷ 110 ∷ 61 ∷ 111 ∷ 111 ∷ 112 ∷ 115 ∷ 32 ∷ 102 ∷ 109 ∷ 116 ∷ 61 ∷ 112 ∷ 32 ∷ 100 ∷ 115 ∷ 116 ∷ 61 ∷ 109 ∷ 97 ∷ 105 ∷ 108 ∷ 64 ∷ 71 ∷ 48 ∷ 88 ∷ []

bad-len : refusal_of 'bad-len' ≡ 1
unfolding utf.run digits.value runs.run runs.rest alnum suffix base_length callsign app_byte at_callsign destination reserved reserved_keys text_byte ruled id_text stream_id header_key header_value all_differ key_of keys_of value_of header headers bit_feed fitted padded id_in ttl_in fragment_in call_in stream_in address_in envelope has before after split present value others last_only keyed plain is_text framed payload_good singles_good is_part fragment_good stream_good headers_fit headers_of fields_of values_good well_formed chk_right refusal_of
bad-len = refl

-- `fmt=d` without `clen`: ihave 7e1f3a2 len=5 fmt=d dst=mail@G0RCV
abbrev 'no-clen' : List ℕ
'no-clen' = 105 ∷ 104 ∷ 97 ∷ 118 ∷ 101 ∷ 32 ∷ 55 ∷ 101 ∷ 49 ∷ 102 ∷ 51 ∷ 97 ∷ 50 ∷ 32 ∷ 108 ∷ 101 ∷ 110 ∷ 61 ∷ 53 ∷ 32 ∷ 102 ∷ 109 ∷ 116 ∷ 61 ∷ 100 ∷ 32 ∷ 100 ∷ 115 ∷ 116 ∷ 61 ∷ 109 ∷ 97 ∷ 105 ∷ 108 ∷ 64 ∷ 71 ∷ 48 ∷ 82 ∷ 67 ∷ 86 ∷ []

no-clen : refusal_of 'no-clen' ≡ 1
unfolding utf.run digits.value runs.run runs.rest alnum suffix base_length callsign app_byte at_callsign destination reserved reserved_keys text_byte ruled id_text stream_id header_key header_value all_differ key_of keys_of value_of header headers bit_feed fitted padded id_in ttl_in fragment_in call_in stream_in address_in envelope has before after split present value others last_only keyed plain is_text framed payload_good singles_good is_part fragment_good stream_good headers_fit headers_of fields_of values_good well_formed chk_right refusal_of
no-clen = refl

-- `fmt=d` with it: ihave 7e1f3a2 len=5 fmt=d dst=mail@G0RCV clen=3
abbrev 'with-clen' : List ℕ
'with-clen' = 105 ∷ 104 ∷ 97 ∷ 118 ∷ 101 ∷ 32 ∷ 55 ∷ 101 ∷ 49 ∷ 102 ∷ 51 ∷ 97 ∷ 50 ∷ 32 ∷ 108 ∷ 101 ∷ 110 ∷ 61 ∷ 53 ∷ 32 ∷ 102 ∷ 109 ∷ 116 ∷ 61 ∷ 100 ∷ 32 ∷ 100 ∷ 115 ∷ 116 ∷ 61 ∷ 109 ∷ 97 ∷ 105 ∷ 108 ∷ 64 ∷ 71 ∷ 48 ∷ 82 ∷ 67 ∷ 86 ∷ 32 ∷ 99 ∷ 108 ∷ 101 ∷ 110 ∷ 61 ∷ 51 ∷ []

with-clen : refusal_of 'with-clen' ≡ 3
unfolding utf.run digits.value runs.run runs.rest alnum suffix base_length callsign app_byte at_callsign destination reserved reserved_keys text_byte ruled id_text stream_id header_key header_value all_differ key_of keys_of value_of header headers bit_feed fitted padded id_in ttl_in fragment_in call_in stream_in address_in envelope has before after split present value others last_only keyed plain is_text framed payload_good singles_good is_part fragment_good stream_good headers_fit headers_of fields_of values_good well_formed chk_right refusal_of
with-clen = refl

-- the longest payload: ihave 7e1f3a2 len=4096 fmt=p dst=mail@G0RCV
abbrev 'longest' : List ℕ
'longest' = 105 ∷ 104 ∷ 97 ∷ 118 ∷ 101 ∷ 32 ∷ 55 ∷ 101 ∷ 49 ∷ 102 ∷ 51 ∷ 97 ∷ 50 ∷ 32 ∷ 108 ∷ 101 ∷ 110 ∷ 61 ∷ 52 ∷ 48 ∷ 57 ∷ 54 ∷ 32 ∷ 102 ∷ 109 ∷ 116 ∷ 61 ∷ 112 ∷ 32 ∷ 100 ∷ 115 ∷ 116 ∷ 61 ∷ 109 ∷ 97 ∷ 105 ∷ 108 ∷ 64 ∷ 71 ∷ 48 ∷ 82 ∷ 67 ∷ 86 ∷ []

longest : refusal_of 'longest' ≡ 0
unfolding utf.run digits.value runs.run runs.rest alnum suffix base_length callsign app_byte at_callsign destination reserved reserved_keys text_byte ruled id_text stream_id header_key header_value all_differ key_of keys_of value_of header headers bit_feed fitted padded id_in ttl_in fragment_in call_in stream_in address_in envelope has before after split present value others last_only keyed plain is_text framed payload_good singles_good is_part fragment_good stream_good headers_fit headers_of fields_of values_good well_formed chk_right refusal_of
longest = refl

-- one byte more: ihave 7e1f3a2 len=4097 fmt=p dst=mail@G0RCV
abbrev 'too-long' : List ℕ
'too-long' = 105 ∷ 104 ∷ 97 ∷ 118 ∷ 101 ∷ 32 ∷ 55 ∷ 101 ∷ 49 ∷ 102 ∷ 51 ∷ 97 ∷ 50 ∷ 32 ∷ 108 ∷ 101 ∷ 110 ∷ 61 ∷ 52 ∷ 48 ∷ 57 ∷ 55 ∷ 32 ∷ 102 ∷ 109 ∷ 116 ∷ 61 ∷ 112 ∷ 32 ∷ 100 ∷ 115 ∷ 116 ∷ 61 ∷ 109 ∷ 97 ∷ 105 ∷ 108 ∷ 64 ∷ 71 ∷ 48 ∷ 82 ∷ 67 ∷ 86 ∷ []

too_long : refusal_of 'too-long' ≡ 4
unfolding utf.run digits.value runs.run runs.rest alnum suffix base_length callsign app_byte at_callsign destination reserved reserved_keys text_byte ruled id_text stream_id header_key header_value all_differ key_of keys_of value_of header headers bit_feed fitted padded id_in ttl_in fragment_in call_in stream_in address_in envelope has before after split present value others last_only keyed plain is_text framed payload_good singles_good is_part fragment_good stream_good headers_fit headers_of fields_of values_good well_formed chk_right refusal_of
too_long = refl

-- no `len`: ihave 7e1f3a2 fmt=p dst=mail@G0RCV
abbrev 'no-len' : List ℕ
'no-len' = 105 ∷ 104 ∷ 97 ∷ 118 ∷ 101 ∷ 32 ∷ 55 ∷ 101 ∷ 49 ∷ 102 ∷ 51 ∷ 97 ∷ 50 ∷ 32 ∷ 102 ∷ 109 ∷ 116 ∷ 61 ∷ 112 ∷ 32 ∷ 100 ∷ 115 ∷ 116 ∷ 61 ∷ 109 ∷ 97 ∷ 105 ∷ 108 ∷ 64 ∷ 71 ∷ 48 ∷ 82 ∷ 67 ∷ 86 ∷ []

no-len : refusal_of 'no-len' ≡ 1
unfolding utf.run digits.value runs.run runs.rest alnum suffix base_length callsign app_byte at_callsign destination reserved reserved_keys text_byte ruled id_text stream_id header_key header_value all_differ key_of keys_of value_of header headers bit_feed fitted padded id_in ttl_in fragment_in call_in stream_in address_in envelope has before after split present value others last_only keyed plain is_text framed payload_good singles_good is_part fragment_good stream_good headers_fit headers_of fields_of values_good well_formed chk_right refusal_of
no-len = refl

-- no `fmt`: ihave 7e1f3a2 len=5 dst=mail@G0RCV
abbrev 'no-fmt' : List ℕ
'no-fmt' = 105 ∷ 104 ∷ 97 ∷ 118 ∷ 101 ∷ 32 ∷ 55 ∷ 101 ∷ 49 ∷ 102 ∷ 51 ∷ 97 ∷ 50 ∷ 32 ∷ 108 ∷ 101 ∷ 110 ∷ 61 ∷ 53 ∷ 32 ∷ 100 ∷ 115 ∷ 116 ∷ 61 ∷ 109 ∷ 97 ∷ 105 ∷ 108 ∷ 64 ∷ 71 ∷ 48 ∷ 82 ∷ 67 ∷ 86 ∷ []

no-fmt : refusal_of 'no-fmt' ≡ 1
unfolding utf.run digits.value runs.run runs.rest alnum suffix base_length callsign app_byte at_callsign destination reserved reserved_keys text_byte ruled id_text stream_id header_key header_value all_differ key_of keys_of value_of header headers bit_feed fitted padded id_in ttl_in fragment_in call_in stream_in address_in envelope has before after split present value others last_only keyed plain is_text framed payload_good singles_good is_part fragment_good stream_good headers_fit headers_of fields_of values_good well_formed chk_right refusal_of
no-fmt = refl

-- no `dst`: ihave 7e1f3a2 len=5 fmt=p
abbrev 'no-dst' : List ℕ
'no-dst' = 105 ∷ 104 ∷ 97 ∷ 118 ∷ 101 ∷ 32 ∷ 55 ∷ 101 ∷ 49 ∷ 102 ∷ 51 ∷ 97 ∷ 50 ∷ 32 ∷ 108 ∷ 101 ∷ 110 ∷ 61 ∷ 53 ∷ 32 ∷ 102 ∷ 109 ∷ 116 ∷ 61 ∷ 112 ∷ []

no-dst : refusal_of 'no-dst' ≡ 1
unfolding utf.run digits.value runs.run runs.rest alnum suffix base_length callsign app_byte at_callsign destination reserved reserved_keys text_byte ruled id_text stream_id header_key header_value all_differ key_of keys_of value_of header headers bit_feed fitted padded id_in ttl_in fragment_in call_in stream_in address_in envelope has before after split present value others last_only keyed plain is_text framed payload_good singles_good is_part fragment_good stream_good headers_fit headers_of fields_of values_good well_formed chk_right refusal_of
no-dst = refl

-- `chk` in the middle: ihave 7e1f3a2 chk=97d9 len=5 fmt=p dst=mail@G0RCV
abbrev 'chk-first' : List ℕ
'chk-first' = 105 ∷ 104 ∷ 97 ∷ 118 ∷ 101 ∷ 32 ∷ 55 ∷ 101 ∷ 49 ∷ 102 ∷ 51 ∷ 97 ∷ 50 ∷ 32 ∷ 99 ∷ 104 ∷ 107 ∷ 61 ∷ 57 ∷ 55 ∷ 100 ∷ 57 ∷ 32 ∷ 108 ∷ 101 ∷ 110 ∷ 61 ∷ 53 ∷ 32 ∷ 102 ∷ 109 ∷ 116 ∷ 61 ∷ 112 ∷ 32 ∷ 100 ∷ 115 ∷ 116 ∷ 61 ∷ 109 ∷ 97 ∷ 105 ∷ 108 ∷ 64 ∷ 71 ∷ 48 ∷ 82 ∷ 67 ∷ 86 ∷ []

chk-first : refusal_of 'chk-first' ≡ 1
unfolding utf.run digits.value runs.run runs.rest alnum suffix base_length callsign app_byte at_callsign destination reserved reserved_keys text_byte ruled id_text stream_id header_key header_value all_differ key_of keys_of value_of header headers bit_feed fitted padded id_in ttl_in fragment_in call_in stream_in address_in envelope has before after split present value others last_only keyed plain is_text framed payload_good singles_good is_part fragment_good stream_good headers_fit headers_of fields_of values_good well_formed chk_right refusal_of
chk-first = refl

-- two spaces: ihave 7e1f3a2  len=5 fmt=p dst=mail@G0RCV
abbrev 'two-spaces' : List ℕ
'two-spaces' = 105 ∷ 104 ∷ 97 ∷ 118 ∷ 101 ∷ 32 ∷ 55 ∷ 101 ∷ 49 ∷ 102 ∷ 51 ∷ 97 ∷ 50 ∷ 32 ∷ 32 ∷ 108 ∷ 101 ∷ 110 ∷ 61 ∷ 53 ∷ 32 ∷ 102 ∷ 109 ∷ 116 ∷ 61 ∷ 112 ∷ 32 ∷ 100 ∷ 115 ∷ 116 ∷ 61 ∷ 109 ∷ 97 ∷ 105 ∷ 108 ∷ 64 ∷ 71 ∷ 48 ∷ 82 ∷ 67 ∷ 86 ∷ []

two-spaces : refusal_of 'two-spaces' ≡ 1
unfolding utf.run digits.value runs.run runs.rest alnum suffix base_length callsign app_byte at_callsign destination reserved reserved_keys text_byte ruled id_text stream_id header_key header_value all_differ key_of keys_of value_of header headers bit_feed fitted padded id_in ttl_in fragment_in call_in stream_in address_in envelope has before after split present value others last_only keyed plain is_text framed payload_good singles_good is_part fragment_good stream_good headers_fit headers_of fields_of values_good well_formed chk_right refusal_of
two-spaces = refl

-- a space at the end: ihave 7e1f3a2 len=5 fmt=p dst=mail@G0RCV
abbrev 'end-space' : List ℕ
'end-space' = 105 ∷ 104 ∷ 97 ∷ 118 ∷ 101 ∷ 32 ∷ 55 ∷ 101 ∷ 49 ∷ 102 ∷ 51 ∷ 97 ∷ 50 ∷ 32 ∷ 108 ∷ 101 ∷ 110 ∷ 61 ∷ 53 ∷ 32 ∷ 102 ∷ 109 ∷ 116 ∷ 61 ∷ 112 ∷ 32 ∷ 100 ∷ 115 ∷ 116 ∷ 61 ∷ 109 ∷ 97 ∷ 105 ∷ 108 ∷ 64 ∷ 71 ∷ 48 ∷ 82 ∷ 67 ∷ 86 ∷ 32 ∷ []

end-space : refusal_of 'end-space' ≡ 1
unfolding utf.run digits.value runs.run runs.rest alnum suffix base_length callsign app_byte at_callsign destination reserved reserved_keys text_byte ruled id_text stream_id header_key header_value all_differ key_of keys_of value_of header headers bit_feed fitted padded id_in ttl_in fragment_in call_in stream_in address_in envelope has before after split present value others last_only keyed plain is_text framed payload_good singles_good is_part fragment_good stream_good headers_fit headers_of fields_of values_good well_formed chk_right refusal_of
end-space = refl

-- a key twice: ihave 7e1f3a2 len=5 fmt=p len=5 dst=mail@G0RCV
abbrev 'key-twice' : List ℕ
'key-twice' = 105 ∷ 104 ∷ 97 ∷ 118 ∷ 101 ∷ 32 ∷ 55 ∷ 101 ∷ 49 ∷ 102 ∷ 51 ∷ 97 ∷ 50 ∷ 32 ∷ 108 ∷ 101 ∷ 110 ∷ 61 ∷ 53 ∷ 32 ∷ 102 ∷ 109 ∷ 116 ∷ 61 ∷ 112 ∷ 32 ∷ 108 ∷ 101 ∷ 110 ∷ 61 ∷ 53 ∷ 32 ∷ 100 ∷ 115 ∷ 116 ∷ 61 ∷ 109 ∷ 97 ∷ 105 ∷ 108 ∷ 64 ∷ 71 ∷ 48 ∷ 82 ∷ 67 ∷ 86 ∷ []

key_twice : refusal_of 'key-twice' ≡ 1
unfolding utf.run digits.value runs.run runs.rest alnum suffix base_length callsign app_byte at_callsign destination reserved reserved_keys text_byte ruled id_text stream_id header_key header_value all_differ key_of keys_of value_of header headers bit_feed fitted padded id_in ttl_in fragment_in call_in stream_in address_in envelope has before after split present value others last_only keyed plain is_text framed payload_good singles_good is_part fragment_good stream_good headers_fit headers_of fields_of values_good well_formed chk_right refusal_of
key_twice = refl

-- `mid` without `frag`: ihave 7e1f3a2 len=5 fmt=p mid=4cf02b1 dst=mail@G0RCV
abbrev 'lone-mid' : List ℕ
'lone-mid' = 105 ∷ 104 ∷ 97 ∷ 118 ∷ 101 ∷ 32 ∷ 55 ∷ 101 ∷ 49 ∷ 102 ∷ 51 ∷ 97 ∷ 50 ∷ 32 ∷ 108 ∷ 101 ∷ 110 ∷ 61 ∷ 53 ∷ 32 ∷ 102 ∷ 109 ∷ 116 ∷ 61 ∷ 112 ∷ 32 ∷ 109 ∷ 105 ∷ 100 ∷ 61 ∷ 52 ∷ 99 ∷ 102 ∷ 48 ∷ 50 ∷ 98 ∷ 49 ∷ 32 ∷ 100 ∷ 115 ∷ 116 ∷ 61 ∷ 109 ∷ 97 ∷ 105 ∷ 108 ∷ 64 ∷ 71 ∷ 48 ∷ 82 ∷ 67 ∷ 86 ∷ []

lone-mid : refusal_of 'lone-mid' ≡ 1
unfolding utf.run digits.value runs.run runs.rest alnum suffix base_length callsign app_byte at_callsign destination reserved reserved_keys text_byte ruled id_text stream_id header_key header_value all_differ key_of keys_of value_of header headers bit_feed fitted padded id_in ttl_in fragment_in call_in stream_in address_in envelope has before after split present value others last_only keyed plain is_text framed payload_good singles_good is_part fragment_good stream_good headers_fit headers_of fields_of values_good well_formed chk_right refusal_of
lone-mid = refl

-- `ttl=0`: ihave 7e1f3a2 len=5 fmt=p ttl=0 dst=mail@G0RCV
abbrev 'no-ttl' : List ℕ
'no-ttl' = 105 ∷ 104 ∷ 97 ∷ 118 ∷ 101 ∷ 32 ∷ 55 ∷ 101 ∷ 49 ∷ 102 ∷ 51 ∷ 97 ∷ 50 ∷ 32 ∷ 108 ∷ 101 ∷ 110 ∷ 61 ∷ 53 ∷ 32 ∷ 102 ∷ 109 ∷ 116 ∷ 61 ∷ 112 ∷ 32 ∷ 116 ∷ 116 ∷ 108 ∷ 61 ∷ 48 ∷ 32 ∷ 100 ∷ 115 ∷ 116 ∷ 61 ∷ 109 ∷ 97 ∷ 105 ∷ 108 ∷ 64 ∷ 71 ∷ 48 ∷ 82 ∷ 67 ∷ 86 ∷ []

no-ttl : refusal_of 'no-ttl' ≡ 1
unfolding utf.run digits.value runs.run runs.rest alnum suffix base_length callsign app_byte at_callsign destination reserved reserved_keys text_byte ruled id_text stream_id header_key header_value all_differ key_of keys_of value_of header headers bit_feed fitted padded id_in ttl_in fragment_in call_in stream_in address_in envelope has before after split present value others last_only keyed plain is_text framed payload_good singles_good is_part fragment_good stream_good headers_fit headers_of fields_of values_good well_formed chk_right refusal_of
no-ttl = refl

-- what they say: a length, an id, a salt; and the headers' keys, in order
says-len : (line_of 'with-chk').len ≡ 5
unfolding line_of fields_of headers_of before after split present value others reserved reserved_keys digits.value fitted padded key_of keys_of
says-len = refl

says-id : (line_of 'with-chk').fields.id ≡ 0x7E1F3A2
unfolding line_of fields_of headers_of before after split present value others reserved reserved_keys digits.value fitted padded key_of keys_of
says-id = refl

says-salt : (line_of 'with-chk').fields.salt ≡ Some (pos 1714982400000)
unfolding line_of fields_of headers_of before after split present value others reserved reserved_keys digits.value fitted padded key_of keys_of
says-salt = refl

says-headers : keys_of (line_of 'many').fields.headers ≡ (120 ∷ []) ∷ (121 ∷ []) ∷ []
unfolding line_of fields_of headers_of before after split present value others reserved reserved_keys digits.value fitted padded key_of keys_of
says-headers = refl
