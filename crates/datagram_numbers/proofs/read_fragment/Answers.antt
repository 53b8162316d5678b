-- What the three fields come to, each from the part behind the last.
use Rattle.layout.specs.Layout.{hex_id}
use Rattle.layout.proofs.Laws.{hex_id-laws}
use Rattle.datagram_numbers.proofs.Chains.{room-read}
use Rattle.datagram_numbers.proofs.read_fragment.Goals as goal

pub slice_bounds-d1-count : goal.slice_bounds-d1-count
slice_bounds-d1-count c = room-read hex_id (λ n. n) c.args.d.now c.read_id.result _ _ hex_id-laws c.read_id.ensures c.in_ok-mid.was

pub slice_bounds-d1-start : goal.slice_bounds-d1-start
slice_bounds-d1-start c = room-read hex_id (λ n. n) c.args.d.now c.read_id.result _ _ hex_id-laws c.read_id.ensures c.in_ok-mid.was
