-- The number of the flags in two bytes.
use mathlib.Core.Path.{sym, ap}
use Rattle.octets.specs.Numbers.{little_bytes}
use Rattle.layout.specs.Layout.{flags}
use Rattle.datagram_head.proofs.Puts.{room_as, put_as}
use Rattle.datagram_head.proofs.numbers.put_flags.Goals as goal

pub put_number-requires : goal.put_number-requires
unfolding flags
put_number-requires c = room_as (ap (little_bytes 2) (sym c.number_of.ensures)) c.requires

pub returns : goal.returns
unfolding flags
returns c = put_as (ap (little_bytes 2) c.number_of.ensures) c.put_number.ensures
