-- Document 01, "The datagram": the smallest datagram is read as the message that it spells, with an empty payload at its end.
use mathlib.Core.Path.{◌≡◌, refl}
use Rattle.octets.specs.Numbers.{little}
use Rattle.text.specs.Digits.{value}
use Rattle.callsigns.specs.Runs.{run, rest}
use Rattle.callsigns.specs.Callsign.{alnum, suffix, base_length, callsign}
use Rattle.callsigns.specs.Destination.{app_byte, at_callsign, destination}
use Rattle.headers.specs.Keys.{all_differ, keys_of}
use Rattle.headers.specs.Rule as rule
use Rattle.envelope.specs.Texts.{fitted, padded}
use Rattle.envelope.specs.Rules.{address_in, id_in, envelope}
use Rattle.layout.specs.Rules.{valid}
use Rattle.layout.specs.Layout.{text, address, hex_id, bit, flags_of, flags, opening, ends, way, options, layout, message}
use Rattle.datagram.specs.Answer.{accepted, read_of}
use Rattle.datagram_bytes.specs.Examples.{smallest, smallest_message}

pub smallest-read : read_of smallest ≡ accepted smallest_message 19 0
unfolding read_of message layout opening ends way options flags flags_of bit hex_id address text little value fitted padded valid envelope id_in address_in destination at_callsign callsign base_length suffix alnum app_byte run rest rule.headers keys_of all_differ
smallest-read = refl
