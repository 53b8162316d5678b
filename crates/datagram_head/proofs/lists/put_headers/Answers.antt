-- Where the flag is set, the count and as many headers.
use mathlib.Core.Path.{◌≡◌, sym}
use lib.ListN.{length}
use borrow.Author.Tests.{le-leb, lt-leb}
use Rattle.octets.specs.Words.{◌≤?◌}
use Rattle.octets.proofs.Lists.{unmapped}
use Rattle.envelope.specs.Texts.{no_headers}
use Rattle.layout.specs.Layout.{header, headers}
use Rattle.datagram_head.proofs.Puts.{first-room, next-room, both, room_as, put_as, present, there, absent}
use Rattle.datagram_head.proofs.Left.{counted}
use Rattle.datagram_head.proofs.lists.put_headers.Goals as goal

pub returns-then-h-lt1 : goal.returns-then-h-lt1
returns-then-h-lt1 c = absent (1 ≤? c.args.h.count) no_headers headers c.args.h (lt-leb 1 c.args.h.count c.if-h-lt1.true) c.requires

pub put_number-next-requires : goal.put_number-next-requires
unfolding headers
put_number-next-requires c = let long : length c.args.h.items ≡ 8 = search unmapped in
    let h = present (1 ≤? c.args.h.count) no_headers headers c.args.h (le-leb 1 c.args.h.count c.if-h-lt1.false) c.requires in
    first-room _ _ (room_as (sym (counted header 2 c.args.h.count 8 c.at_most-n.result c.args.h.items c.at_most-n.ensures.0 long)) h)

pub put_items-requires : goal.put_items-requires
unfolding headers
put_items-requires c = let long : length c.args.h.items ≡ 8 = search unmapped in
    let h = present (1 ≤? c.args.h.count) no_headers headers c.args.h (le-leb 1 c.args.h.count c.if-h-lt1.false) c.requires in
    next-room _ c.put_number-next.ensures (room_as (sym (counted header 2 c.args.h.count 8 c.at_most-n.result c.args.h.items c.at_most-n.ensures.0 long)) h)

pub returns : goal.returns
unfolding headers
returns c = let long : length c.args.h.items ≡ 8 = search unmapped in
    let h = present (1 ≤? c.args.h.count) no_headers headers c.args.h (le-leb 1 c.args.h.count c.if-h-lt1.false) c.requires in
    let e = counted header 2 c.args.h.count 8 c.at_most-n.result c.args.h.items c.at_most-n.ensures.0 long in
    there (1 ≤? c.args.h.count) no_headers headers c.args.h (le-leb 1 c.args.h.count c.if-h-lt1.false) (put_as e (both (room_as (sym e) h) c.put_number-next.ensures c.put_items.ensures))
