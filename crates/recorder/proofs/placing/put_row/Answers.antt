-- The numbers, then the messages behind them.
use mathlib.Core.Path.{ap}
use native.Mathlib.Omega.{arith}
use lib.ListN.{length}
use Rattle.recorder.proofs.Behind.{row-placed, row_fits}
use Rattle.recorder.proofs.placing.put_row.Goals as goal

pub put_messages-requires : goal.put_messages-requires
put_messages-requires c = omega (arith, row_fits c.args.r c.messages_of-held.result.now c.args.at c.args.out.now c.messages_of-held.ensures (c.requires), c.put_number.auto.out, c.put_number-2.auto.out, c.put_number-3.auto.out, c.put_number-4.auto.out)

pub returns : goal.returns
returns c = row-placed c.args.r _ _ _ c.args.at _ c.args.out.now _ _ _ _ _ c.from.ensures c.from-2.ensures (ap length c.messages_of-held.ensures) c.messages_of-held.ensures c.put_number.ensures.1 c.put_number-2.ensures.1 c.put_number-3.ensures.1 c.put_number-4.ensures.1 c.put_messages.ensures (c.requires)
