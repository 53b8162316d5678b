-- The version, the fields, then how long the payload is.
use mathlib.Core.List.{[], ◌∷◌}
use Rattle.octets.specs.Numbers.{little_bytes}
use Rattle.datagram_head.specs.Head.{head_bytes}
use Rattle.datagram_head.proofs.Puts.{first-room, next-room, both}
use Rattle.datagram_head.proofs.put_head.Goals as goal

pub put_number-a-requires : goal.put_number-a-requires
unfolding head_bytes little_bytes
put_number-a-requires c = first-room (7 ∷ []) _ c.requires.1

pub put_fields-b-requires : goal.put_fields-b-requires
unfolding head_bytes little_bytes
put_fields-b-requires c = (c.requires.0, first-room _ _ (next-room _ c.put_number-a.ensures c.requires.1))

pub put_number-requires : goal.put_number-requires
unfolding head_bytes little_bytes
put_number-requires c = next-room _ c.put_fields-b.ensures (next-room _ c.put_number-a.ensures c.requires.1)

pub returns : goal.returns
unfolding head_bytes little_bytes
returns c = both c.requires.1 c.put_number-a.ensures (both (next-room _ c.put_number-a.ensures c.requires.1) c.put_fields-b.ensures c.put_number.ensures)
