-- Three numbers, each behind the other.
use Rattle.recorder.proofs.Behind.{message-placed}
use Rattle.recorder.proofs.placing.put_message.Goals as goal

pub returns : goal.returns
returns c = message-placed c.args.m _ _ _ c.args.at c.args.out.now _ _ _ c.from.ensures c.from-2.ensures c.from-3.ensures c.put_number.ensures.1 c.put_number-2.ensures.1 c.put_number-3.ensures.1 (c.requires)
