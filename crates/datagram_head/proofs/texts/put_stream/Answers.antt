-- Where they are there, the stream id and two numbers, each behind the last.
use Rattle.layout.specs.Layout.{text, stream_name, stream}
use Rattle.datagram_head.proofs.Puts.{first-room, next-room, both, some-room, some-put, none-put}
use Rattle.datagram_head.proofs.texts.put_stream.Goals as goal

pub returns-in_default : goal.returns-in_default
returns-in_default c = none-put stream c.args.s.now c.in_default.is c.requires

pub put_text-a-requires : goal.put_text-a-requires
unfolding stream_name text
put_text-a-requires c = let h = some-room stream c.args.s.now c.in-Some.is c.requires in
    first-room _ _ h

pub put_number-b-requires : goal.put_number-b-requires
unfolding stream_name text
put_number-b-requires c = let h = some-room stream c.args.s.now c.in-Some.is c.requires in
    first-room _ _ (next-room _ c.put_text-a.ensures h)

pub put_number-requires : goal.put_number-requires
unfolding stream_name text
put_number-requires c = let h = some-room stream c.args.s.now c.in-Some.is c.requires in
    next-room _ c.put_number-b.ensures (next-room _ c.put_text-a.ensures h)

pub returns : goal.returns
unfolding stream_name text
returns c = let h = some-room stream c.args.s.now c.in-Some.is c.requires in
    some-put stream c.args.s.now c.in-Some.is (both h c.put_text-a.ensures (both (next-room _ c.put_text-a.ensures h) c.put_number-b.ensures c.put_number.ensures))
