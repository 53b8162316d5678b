-- The sizes of the records, one after the other.
use Rattle.image.proofs.Writing.{slot-keeps, sum-end}
use Rattle.image.proofs.put.records_size.Goals as goal

pub record_size-sum-requires : goal.record_size-sum-requires
record_size-sum-requires c = slot-keeps c.args.t.now c.loop-x.invariant.0 c.loop-x.x-index c.loop-x-test.true

pub returns : goal.returns
returns c = sum-end c.args.t.now c.loop-x.invariant.0 c.loop-x.sum c.loop-x.x-index c.loop-x.invariant.1 c.loop-x-test.false
