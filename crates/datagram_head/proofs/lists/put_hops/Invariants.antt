-- What is left of the list stands behind what was put.
use Rattle.std.proofs.Common.{drop}
use Rattle.octets.specs.Field.{many_print}
use Rattle.layout.specs.Layout.{call}
use Rattle.datagram_head.proofs.Left.{Left}
use Rattle.datagram_head.proofs.lists.put_hops.Given as goal

abbrev pub invariant-loop-hop : goal.invariant-loop-hop
invariant-loop-hop l = Left (many_print (call 1) (drop l.hop-index l.hops)) l.next l.out (many_print (call 1) l.hops) l.at l.initial.out
