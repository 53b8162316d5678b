-- The four groups, each behind the last.
use Rattle.layout.specs.Layout.{layout}
use Rattle.datagram_head.proofs.Puts.{first-room, next-room, both}
use Rattle.datagram_head.proofs.groups.put_fields.Goals as goal

pub put_opening-a-requires : goal.put_opening-a-requires
unfolding layout
put_opening-a-requires c = (c.requires.0, first-room _ _ c.requires.1)

pub put_ends-b-requires : goal.put_ends-b-requires
unfolding layout
put_ends-b-requires c = first-room _ _ (next-room _ c.put_opening-a.ensures c.requires.1)

pub put_way-c-requires : goal.put_way-c-requires
unfolding layout
put_way-c-requires c = first-room _ _ (next-room _ c.put_ends-b.ensures (next-room _ c.put_opening-a.ensures c.requires.1))

pub put_options-requires : goal.put_options-requires
unfolding layout
put_options-requires c = next-room _ c.put_way-c.ensures (next-room _ c.put_ends-b.ensures (next-room _ c.put_opening-a.ensures c.requires.1))

pub returns : goal.returns
unfolding layout
returns c =
    let k = next-room _ c.put_opening-a.ensures c.requires.1 in
    both c.requires.1 c.put_opening-a.ensures (both k c.put_ends-b.ensures (both (next-room _ c.put_ends-b.ensures k) c.put_way-c.ensures c.put_options.ensures))
