-- The id, then the two numbers from the parts behind it.
use Rattle.layout.specs.Layout.{stream_name}
use Rattle.layout.proofs.Laws.{stream_name-laws}
use Rattle.datagram_numbers.proofs.Chains.{room-read}
use Rattle.datagram_texts.proofs.read_stream.Goals as goal

pub slice_bounds-d1-count : goal.slice_bounds-d1-count
slice_bounds-d1-count c = room-read stream_name (λ t. t) c.args.d.now c.read_name.result _ _ stream_name-laws c.read_name.ensures c.in_ok-sid.was

pub slice_bounds-d1-start : goal.slice_bounds-d1-start
slice_bounds-d1-start c = room-read stream_name (λ t. t) c.args.d.now c.read_name.result _ _ stream_name-laws c.read_name.ensures c.in_ok-sid.was
