-- Destination, originator and link source, each behind the last.
use Rattle.layout.specs.Layout.{ends}
use Rattle.datagram_head.proofs.Puts.{first-room, next-room, both}
use Rattle.datagram_head.proofs.groups.put_ends.Goals as goal

pub put_address-a-requires : goal.put_address-a-requires
unfolding ends
put_address-a-requires c = first-room _ _ c.requires

pub put_call_if-b-requires : goal.put_call_if-b-requires
unfolding ends
put_call_if-b-requires c = first-room _ _ (next-room _ c.put_address-a.ensures c.requires)

pub put_call_if-requires : goal.put_call_if-requires
unfolding ends
put_call_if-requires c = next-room _ c.put_call_if-b.ensures (next-room _ c.put_address-a.ensures c.requires)

pub returns : goal.returns
unfolding ends
returns c = both c.requires c.put_address-a.ensures (both (next-room _ c.put_address-a.ensures c.requires) c.put_call_if-b.ensures c.put_call_if.ensures)
