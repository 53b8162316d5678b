-- What is left of the headers is read from the part that is left.
use Rattle.std.proofs.Common.{◌-◌, ◌≤◌, ◌≡◌, length, drop}
use Rattle.held_texts.specs.Texts.{no_headers, with_header}
use Rattle.layout.specs.Layout.{header}
use Rattle.datagram_lists.specs.Found.{list_from, further}
use Rattle.datagram_lists.proofs.headings.read_items.Given as goal

abbrev pub invariant-loop-i : goal.invariant-loop-i
invariant-loop-i l = (l.at ≤ length l.d) × (length l.headers.items ≡ 8) × (list_from header with_header l.count no_headers l.d ≡ further l.at (list_from header with_header (l.count - l.i) (record { items = l.headers.items; count = l.i }) (drop l.at l.d)))
