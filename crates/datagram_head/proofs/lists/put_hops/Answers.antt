-- What is left of the list stands behind what was put.
use Rattle.std.proofs.Common.{arith}
use Rattle.layout.specs.Layout.{call}
use Rattle.layout.proofs.Past.{no_call}
use Rattle.datagram_head.proofs.Left.{value-put}
use Rattle.datagram_head.proofs.lists.put_hops.Goals as goal

pub loop-hop-preserved : goal.loop-hop-preserved
loop-hop-preserved c = value-put (call 1) c.args.hops.now no_call c.loop-hop.hop-index (omega arith) c.loop-hop.invariant c.put_call-next.ensures
