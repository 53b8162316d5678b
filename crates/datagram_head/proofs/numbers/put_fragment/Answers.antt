-- Where they are there, an id and two numbers, each behind the last.
use Rattle.layout.specs.Layout.{fragment}
use Rattle.datagram_head.proofs.Puts.{next-room, both, some-room, some-put}
use Rattle.datagram_head.proofs.numbers.put_fragment.Goals as goal

pub returns : goal.returns
returns c = let h = some-room fragment c.args.part c.in-Some.is c.requires in
    some-put fragment c.args.part c.in-Some.is (both h c.put_id-a.ensures (both (next-room _ c.put_id-a.ensures h) c.put_number-b.ensures c.put_number.ensures))
