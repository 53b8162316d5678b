-- Nothing for a free row; else the mark, the number and the record.
use mathlib.Core.Path.{ap}
use native.Mathlib.Omega.{arith}
use lib.ListN.{length}
use Rattle.image.proofs.Size.{record-most}
use Rattle.image.proofs.Writing.{open-record}
use Rattle.image.proofs.put.record_size.Goals as goal

pub overflow_add-result : goal.overflow_add-result
overflow_add-result c = omega (arith, record-most 0 c.args.x.now (c.requires), ap length (open-record 0 c.args.x.now c.if-not-x.false), c.size.ensures)

pub returns : goal.returns
returns c = let e = ap length (open-record 0 c.args.x.now c.if-not-x.false) in
    (omega (arith, e, c.size.ensures), omega (arith, e, record-most 0 c.args.x.now (c.requires), c.size.ensures))
