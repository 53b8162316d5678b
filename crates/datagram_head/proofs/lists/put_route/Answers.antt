-- Where they are there, the count and as many hops.
use mathlib.Core.Path.{◌≡◌, sym}
use lib.ListN.{length}
use Rattle.octets.proofs.Lists.{unmapped}
use Rattle.layout.specs.Layout.{call, hops}
use Rattle.datagram_head.proofs.Puts.{first-room, next-room, both, room_as, put_as, some-room, some-put, none-put}
use Rattle.datagram_head.proofs.Left.{counted}
use Rattle.datagram_head.proofs.lists.put_route.Goals as goal

pub returns-in_default : goal.returns-in_default
returns-in_default c = none-put hops c.args.route c.in_default.is c.requires

pub put_number-next-requires : goal.put_number-next-requires
unfolding hops
put_number-next-requires c = let long : length c.in-Some.h.items ≡ 16 = search unmapped in
    let h = some-room hops c.args.route c.in-Some.is c.requires in
    first-room _ _ (room_as (sym (counted (call 1) 1 c.in-Some.h.count 16 c.at_most-n.result c.in-Some.h.items c.at_most-n.ensures.0 long)) h)

pub put_hops-requires : goal.put_hops-requires
unfolding hops
put_hops-requires c = let long : length c.in-Some.h.items ≡ 16 = search unmapped in
    let h = some-room hops c.args.route c.in-Some.is c.requires in
    next-room _ c.put_number-next.ensures (room_as (sym (counted (call 1) 1 c.in-Some.h.count 16 c.at_most-n.result c.in-Some.h.items c.at_most-n.ensures.0 long)) h)

pub returns : goal.returns
unfolding hops
returns c = let long : length c.in-Some.h.items ≡ 16 = search unmapped in
    let h = some-room hops c.args.route c.in-Some.is c.requires in
    let e = counted (call 1) 1 c.in-Some.h.count 16 c.at_most-n.result c.in-Some.h.items c.at_most-n.ensures.0 long in
    some-put hops c.args.route c.in-Some.is (put_as e (both (room_as (sym e) h) c.put_number-next.ensures c.put_hops.ensures))
