-- Document 01, "The datagram": a valid message whose datagram has 6,205 bytes.
use mathlib.Core.Path.{◌≡◌, refl}
use mathlib.Core.Bool.{true}
use lib.ListN.{length, replicate}
use Rattle.octets.specs.Numbers.{little_bytes}
use Rattle.utf8.specs.Utf8 as u
use Rattle.text.specs.Digits.{digits}
use Rattle.callsigns.specs.Runs.{run, rest}
use Rattle.callsigns.specs.Callsign.{alnum, suffix, base_length, callsign}
use Rattle.callsigns.specs.Destination.{app_byte, at_callsign, destination}
use Rattle.names.specs.Reserved.{reserved, reserved_keys}
use Rattle.names.specs.Texts.{text_byte, ruled, id_text, stream_id, header_key, header_value}
use Rattle.headers.specs.Keys.{all_differ, key_of, keys_of}
use Rattle.headers.specs.Rule as rule
use Rattle.headers.specs.Rule.{value_of}
use Rattle.envelope.specs.Texts.{fitted, padded}
use Rattle.envelope.specs.Rules.{address_in, call_in, stream_in, id_in, ttl_in, fragment_in, envelope}
use Rattle.layout.specs.Rules.{hops_in, valid}
use Rattle.layout.specs.Layout.{text, call, address, stream_name, hops, header, headers, hex_id, flags_number, flags, opening, ends, way, options, layout}
use Rattle.datagram_bytes.specs.Bytes.{bytes_of}
use Rattle.datagram_bytes.specs.Examples.{longest_message}

pub longest-valid : valid longest_message ≡ true
unfolding valid envelope id_in ttl_in call_in address_in stream_in fragment_in hops_in callsign base_length suffix alnum destination at_callsign app_byte run rest stream_id id_text ruled text_byte header_key header_value reserved reserved_keys rule.headers rule.header key_of value_of keys_of all_differ fitted padded u.run
longest-valid = refl

pub longest-reached : length (bytes_of longest_message (replicate 4096 0)) ≡ 6205
unfolding bytes_of layout opening ends way options flags flags_number hex_id address call stream_name hops header headers text little_bytes digits key_of value_of fitted padded
longest-reached = refl
