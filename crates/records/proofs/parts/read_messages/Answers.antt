-- The messages in their places: those that are still to be read decide.
use native.Mathlib.Omega.{arith}
use lib.ListN.{replicate}
use Rattle.rows.specs.Row.{blank}
use Rattle.records.specs.Record.{message}
use Rattle.records.proofs.Turns.{turn-bad}
use Rattle.records.proofs.Found.{missed_at, found_at, messages-room, messages-more, messages-end}
use Rattle.records.proofs.parts.read_messages.Goals as goal

pub returns-in_err-m : goal.returns-in_err-m
returns-in_err-m c =
    let e = missed_at message.parse c.loop-i.at c.args.d.now (λ m. m) _ c.in_err-m.was c.read_message.ensures in
    rw (c.from_residual.ensures, turn-bad message c.args.k c.args.d.now (replicate 16 blank) c.loop-i.held c.loop-i.at c.loop-i.i c.loop-i.invariant.1 c.loop-i-test.true e)

pub overflow_add-at : goal.overflow_add-at
overflow_add-at c =
    let e = found_at message.parse c.loop-i.at c.args.d.now _ _ _ c.in_ok-m.was c.read_message.ensures in
    omega (arith, messages-room c.args.k c.args.d.now c.loop-i.held c.loop-i.at c.loop-i.i c.loop-i.invariant.1 _ _ e)

pub loop-i-preserved : goal.loop-i-preserved
loop-i-preserved c =
    let e = found_at message.parse c.loop-i.at c.args.d.now _ _ _ c.in_ok-m.was c.read_message.ensures in
    (c.loop-i.invariant.0, messages-more c.args.k c.args.d.now c.loop-i.held c.loop-i.at c.loop-i.i c.loop-i.invariant.1 _ _ e c.loop-i.invariant.0 c.loop-i-test.true)

pub returns : goal.returns
returns c = messages-end c.args.k c.args.d.now c.loop-i.held c.loop-i.at c.loop-i.i c.loop-i.invariant.1 c.loop-i.invariant.0 c.loop-i-test.false
