-- What is left of the list stands behind what was put.
use Rattle.std.proofs.Common.{drop}
use Rattle.octets.specs.Field.{many_print}
use Rattle.layout.specs.Layout.{header}
use Rattle.datagram_head.proofs.Left.{Left}
use Rattle.datagram_head.proofs.lists.put_items.Given as goal

abbrev pub invariant-loop-item : goal.invariant-loop-item
invariant-loop-item l = Left (many_print header (drop l.item-index l.items)) l.next l.out (many_print header l.items) l.at l.initial.out
