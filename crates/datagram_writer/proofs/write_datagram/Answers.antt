-- The refusals in their order; then the head, and the payload behind it.
use Rattle.std.proofs.Common.{◌≤◌, arith, length, replicate}
use Rattle.datagram_head.specs.Head as head
use Rattle.datagram_writer.proofs.Whole.{no-head, some-head, head-room, head-part, bad-fields, bad-payload, bad-room, whole_length, all-written}
use Rattle.datagram_writer.proofs.write_datagram.Goals as goal

pub returns-in_default : goal.returns-in_default
returns-in_default c = bad-fields c.args.m c.args.payload.now c.args.out.now (no-head c.args.m (length c.args.payload.now) c.write_head.result c.write_head.ensures.0 c.in_default.is)

pub returns-then-payload-gt-LONGEST_PAYLOAD : goal.returns-then-payload-gt-LONGEST_PAYLOAD
returns-then-payload-gt-LONGEST_PAYLOAD c = bad-payload c.args.m c.args.payload.now c.args.out.now (some-head c.args.m (length c.args.payload.now) c.write_head.result c.in-Some.n c.write_head.ensures.0 c.in-Some.is).0 (omega arith)

pub overflow_add-n : goal.overflow_add-n
overflow_add-n c = let k : c.in-Some.n ≤ 2109 = rw c.in-Some.is at c.write_head.ensures.1 in omega arith

pub returns-then-out-n : goal.returns-then-out-n
returns-then-out-n c =
    let h = some-head c.args.m (length c.args.payload.now) c.write_head.result c.in-Some.n c.write_head.ensures.0 c.in-Some.is in
    bad-room c.args.m c.args.payload.now c.args.out.now h.0 (omega arith) (omega (arith, whole_length c.args.m c.args.payload.now c.in-Some.n h.0 h.1))

pub slice_bounds-copy_at-end : goal.slice_bounds-copy_at-end
slice_bounds-copy_at-end c =
    let h = some-head c.args.m (length c.args.payload.now) c.write_head.result c.in-Some.n c.write_head.ensures.0 c.in-Some.is in
    head-room (head.valid_head c.args.m (length c.args.payload.now)) (replicate 2109 0) _ _ h.1 c.write_head.ensures.2

pub returns : goal.returns
returns c =
    let h = some-head c.args.m (length c.args.payload.now) c.write_head.result c.in-Some.n c.write_head.ensures.0 c.in-Some.is in
    all-written c.args.m c.args.payload.now c.in-Some.n h.0 h.1 c.args.out.now (omega arith) (omega arith) (head-part c.args.m c.args.payload.now c.in-Some.n h.0 h.1 _ _ c.write_head.ensures.2) c.copy_at.ensures.1 c.copy_at-2.ensures.1
