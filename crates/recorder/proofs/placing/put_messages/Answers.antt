-- The messages that are left stand behind those that were written.
use mathlib.Core.Path.{refl, ◌∙◌}
use native.Mathlib.Omega.{arith}
use Rattle.recorder.proofs.Behind.{left-room, left-turn}
use Rattle.recorder.proofs.placing.put_messages.Goals as goal

pub put_message-requires : goal.put_message-requires
put_message-requires c = omega (arith, c.loop-i-test.true, c.loop-i.invariant.long, left-room c.args.held.now c.args.at c.args.out.now c.requires)

pub loop-i-preserved : goal.loop-i-preserved
loop-i-preserved c = record {
  long = c.put_message.auto.out ∙ c.loop-i.invariant.long;
  left = left-turn c.args.held.now c.args.at c.loop-i.i _ c.loop-i.out _ _ c.loop-i-test.true refl (omega (arith, c.loop-i.invariant.long, left-room c.args.held.now c.args.at c.args.out.now c.requires)) c.put_message.ensures c.loop-i.invariant.left;
}
