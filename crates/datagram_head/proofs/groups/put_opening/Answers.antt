-- Flags, id, salt and ttl, each behind the last.
use Rattle.std.proofs.Common.{refl, sym}
use Rattle.datagram_head.proofs.Puts.{first-room, next-room, both, room_as, put_as, widened}
use Rattle.datagram_head.proofs.Whole.{in-opening}
use Rattle.datagram_head.proofs.groups.put_opening.Goals as goal

pub put_flags-a-requires : goal.put_flags-a-requires
put_flags-a-requires c =
    let h = room_as (in-opening c.args.m.now c.flags_of.result c.args.m.now.fields.ttl c.flags_of.ensures refl) c.requires.1 in
    first-room _ _ h

pub put_id-b-requires : goal.put_id-b-requires
put_id-b-requires c =
    let h = room_as (in-opening c.args.m.now c.flags_of.result c.args.m.now.fields.ttl c.flags_of.ensures refl) c.requires.1 in
    first-room _ _ (next-room _ c.put_flags-a.ensures h)

pub put_salt-c-requires : goal.put_salt-c-requires
put_salt-c-requires c =
    let h = room_as (in-opening c.args.m.now c.flags_of.result c.args.m.now.fields.ttl c.flags_of.ensures refl) c.requires.1 in
    first-room _ _ (next-room _ c.put_id-b.ensures (next-room _ c.put_flags-a.ensures h))

pub put_if-requires : goal.put_if-requires
put_if-requires c =
    let h = room_as (in-opening c.args.m.now c.flags_of.result c.map.result c.flags_of.ensures (widened c.args.m.now.fields.ttl c.map.result c.map.ensures.cases)) c.requires.1 in
    next-room _ c.put_salt-c.ensures (next-room _ c.put_id-b.ensures (next-room _ c.put_flags-a.ensures h))

pub returns : goal.returns
returns c =
    let e = in-opening c.args.m.now c.flags_of.result c.map.result c.flags_of.ensures (widened c.args.m.now.fields.ttl c.map.result c.map.ensures.cases) in
    let h = room_as e c.requires.1 in
    let k = next-room _ c.put_flags-a.ensures h in
    put_as (sym e) (both h c.put_flags-a.ensures (both k c.put_id-b.ensures (both (next-room _ c.put_id-b.ensures k) c.put_salt-c.ensures c.put_if.ensures)))
