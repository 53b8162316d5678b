-- What is left of the list stands behind what was put.
use Rattle.std.proofs.Common.{arith}
use Rattle.layout.specs.Layout.{header}
use Rattle.headers.proofs.Pairs.{no_header}
use Rattle.datagram_head.proofs.Left.{value-put}
use Rattle.datagram_head.proofs.lists.put_items.Goals as goal

pub loop-item-preserved : goal.loop-item-preserved
loop-item-preserved c = value-put header c.args.items.now no_header c.loop-item.item-index (omega arith) c.loop-item.invariant c.put_header-next.ensures
