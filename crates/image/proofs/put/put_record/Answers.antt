-- The mark and the number, then the record behind them; nothing where the row is free.
use Rattle.image.proofs.Writing.{record-placed}
use Rattle.image.proofs.put.put_record.Goals as goal

pub returns : goal.returns
returns c = record-placed c.args.i c.args.x.now c.args.at c.args.out.now _ _ c.if-not-x.false (c.requires) c.copy_at.ensures.1 c.write.ensures.1
