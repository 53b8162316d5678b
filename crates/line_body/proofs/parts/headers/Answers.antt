-- Header by header: those from each place on are still to be added.
use native.Mathlib.Omega.{arith}
use Rattle.line_body.proofs.Drafts.{headed-next, headed-end}
use Rattle.line_body.proofs.parts.headers.Goals as goal

pub loop-i-preserved : goal.loop-i-preserved
loop-i-preserved c = (c.loop-i.invariant.0, headed-next c.args.h c.args.line.now.bytes c.args.line.now.len c.loop-i.invariant.0 c.loop-i.i (omega (arith, c.loop-i-test.true, c.min-i-end.ensures)) c.loop-i.invariant.1 c.header.ensures)

pub returns : goal.returns
returns c = headed-end c.args.h c.args.line.now.bytes c.args.line.now.len c.loop-i.invariant.0 c.loop-i.i (omega (arith, c.loop-i-test.false, c.loop-i.auto.i-end, c.min-i-end.ensures)) c.loop-i.invariant.1
