-- The message's way, each of its fields behind the last.
use mathlib.Core.Path.{sym}
use Rattle.datagram_head.proofs.Puts.{first-room, next-room, both, room_as, put_as, widened}
use Rattle.datagram_head.proofs.Whole.{in-way}
use Rattle.datagram_head.proofs.groups.put_way.Goals as goal

pub put_if-a-requires : goal.put_if-a-requires
put_if-a-requires c =
    let h = room_as (in-way c.args.m.now c.map.result (widened c.args.m.now.flood c.map.result c.map.ensures.cases)) c.requires in
    first-room _ _ h

pub put_route-b-requires : goal.put_route-b-requires
put_route-b-requires c =
    let h = room_as (in-way c.args.m.now c.map.result (widened c.args.m.now.flood c.map.result c.map.ensures.cases)) c.requires in
    first-room _ _ (next-room _ c.put_if-a.ensures h)

pub put_route-requires : goal.put_route-requires
put_route-requires c =
    let h = room_as (in-way c.args.m.now c.map.result (widened c.args.m.now.flood c.map.result c.map.ensures.cases)) c.requires in
    next-room _ c.put_route-b.ensures (next-room _ c.put_if-a.ensures h)

pub returns : goal.returns
returns c =
    let e = in-way c.args.m.now c.map.result (widened c.args.m.now.flood c.map.result c.map.ensures.cases) in
    let h = room_as e c.requires in
    put_as (sym e) (both h c.put_if-a.ensures (both (next-room _ c.put_if-a.ensures h) c.put_route-b.ensures c.put_route.ensures))
