-- Fragment, stream and headers, each from the part behind the last.
use Rattle.std.proofs.Common.{arith}
use Rattle.layout.specs.Layout.{fragment_if, stream_if, headers_if}
use Rattle.layout.proofs.Laws.{fragment_if-laws, stream_if-laws, headers_if-laws}
use Rattle.datagram_numbers.proofs.Chains.{tail, room-read, room-two, room-three}
use Rattle.datagram.proofs.fields.read_options.Goals as goal

pub slice_bounds-d2-count : goal.slice_bounds-d2-count
slice_bounds-d2-count c = room-read (stream_if c.args.flags.stream) (λ s. s) (tail c.in_ok-fragment.n1 c.args.d.now) c.read_stream.result _ _ (stream_if-laws c.args.flags.stream) c.read_stream.ensures c.in_ok-stream.was

pub slice_bounds-d2-start : goal.slice_bounds-d2-start
slice_bounds-d2-start c = room-read (stream_if c.args.flags.stream) (λ s. s) (tail c.in_ok-fragment.n1 c.args.d.now) c.read_stream.result _ _ (stream_if-laws c.args.flags.stream) c.read_stream.ensures c.in_ok-stream.was

pub overflow_add-result : goal.overflow_add-result
overflow_add-result c =
    let s = c.args.d.now in
    let a = room-read (fragment_if c.args.flags.fragment) (λ f. f) s c.read_fragment.result _ _ (fragment_if-laws c.args.flags.fragment) c.read_fragment.ensures c.in_ok-fragment.was in
    let b = room-read (stream_if c.args.flags.stream) (λ s. s) (tail c.in_ok-fragment.n1 s) c.read_stream.result _ _ (stream_if-laws c.args.flags.stream) c.read_stream.ensures c.in_ok-stream.was in
    omega (arith, room-two c.in_ok-fragment.n1 c.in_ok-stream.n2 s a b, c.well_formed.0)

pub overflow_add-result-2 : goal.overflow_add-result-2
overflow_add-result-2 c =
    let s = c.args.d.now in
    let t = tail c.in_ok-stream.n2 (tail c.in_ok-fragment.n1 s) in
    let a = room-read (fragment_if c.args.flags.fragment) (λ f. f) s c.read_fragment.result _ _ (fragment_if-laws c.args.flags.fragment) c.read_fragment.ensures c.in_ok-fragment.was in
    let b = room-read (stream_if c.args.flags.stream) (λ s. s) (tail c.in_ok-fragment.n1 s) c.read_stream.result _ _ (stream_if-laws c.args.flags.stream) c.read_stream.ensures c.in_ok-stream.was in
    let e = room-read (headers_if c.args.flags.headers) (λ h. h) t c.read_headers.result _ _ (headers_if-laws c.args.flags.headers) c.read_headers.ensures c.in_ok-headers.was in
    omega (arith, room-three c.in_ok-fragment.n1 c.in_ok-stream.n2 c.in_ok-headers.n3 s a b e, c.well_formed.0)
