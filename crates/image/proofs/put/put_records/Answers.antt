-- The records that are left stand behind those that were written.
use mathlib.Core.Path.{◌∙◌}
use native.Mathlib.Omega.{arith}
use Rattle.image.proofs.Writing.{slot-keeps, sum_more, put-more, put_last}
use Rattle.image.proofs.put.put_records.Goals as goal

pub record_size-at-requires : goal.record_size-at-requires
record_size-at-requires c = slot-keeps c.args.t.now c.loop-i.invariant.0 c.loop-i.i c.loop-i-test.true

pub loop-i-preserved : goal.loop-i-preserved
loop-i-preserved c = (c.loop-i.invariant.0, sum_more c.args.t.now c.loop-i.invariant.0 c.loop-i.at c.loop-i.i c.loop-i.invariant.1 c.loop-i-test.true _ c.record_size-at.ensures.0 c.record_size-at.ensures.1, c.put_record.auto.out ∙ c.loop-i.invariant.2, put-more c.args.t.now c.loop-i.invariant.0 c.loop-i.at c.loop-i.i c.loop-i.invariant.1 c.loop-i-test.true _ c.record_size-at.ensures.0 c.record_size-at.ensures.1 c.loop-i.out _ _ (omega (arith, c.requires.1, c.loop-i.invariant.2)) c.put_record.ensures c.loop-i.invariant.3)

pub returns : goal.returns
returns c = put_last c.args.t.now c.loop-i.invariant.0 c.loop-i.at c.loop-i.i c.loop-i.invariant.1 c.loop-i.out _ c.loop-i-test.false (omega (arith, c.requires.1, c.loop-i.invariant.2)) c.loop-i.invariant.3
