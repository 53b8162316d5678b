-- Destination, originator and link source, each from the part behind the last.
use Rattle.std.proofs.Common.{arith}
use Rattle.layout.specs.Layout.{address, call_if}
use Rattle.layout.proofs.Laws.{address-laws, call_if-laws}
use Rattle.datagram_numbers.proofs.Chains.{tail, room-read, room-two, room-three}
use Rattle.datagram_texts.proofs.read_ends.Goals as goal

pub slice_bounds-d1-count : goal.slice_bounds-d1-count
slice_bounds-d1-count c = room-read address (λ t. t) c.args.d.now c.read_address.result _ _ address-laws c.read_address.ensures c.in_ok-dst.was

pub slice_bounds-d1-start : goal.slice_bounds-d1-start
slice_bounds-d1-start c = room-read address (λ t. t) c.args.d.now c.read_address.result _ _ address-laws c.read_address.ensures c.in_ok-dst.was

pub slice_bounds-d2-count : goal.slice_bounds-d2-count
slice_bounds-d2-count c = room-read (call_if c.args.flags.originator) (λ t. t) (tail c.in_ok-dst.n1 c.args.d.now) c.read_call.result _ _ (call_if-laws c.args.flags.originator) c.read_call.ensures c.in_ok-src.was

pub slice_bounds-d2-start : goal.slice_bounds-d2-start
slice_bounds-d2-start c = room-read (call_if c.args.flags.originator) (λ t. t) (tail c.in_ok-dst.n1 c.args.d.now) c.read_call.result _ _ (call_if-laws c.args.flags.originator) c.read_call.ensures c.in_ok-src.was

pub overflow_add-result : goal.overflow_add-result
overflow_add-result c =
    let s = c.args.d.now in
    let a = room-read address (λ t. t) s c.read_address.result _ _ address-laws c.read_address.ensures c.in_ok-dst.was in
    let b = room-read (call_if c.args.flags.originator) (λ t. t) (tail c.in_ok-dst.n1 s) c.read_call.result _ _ (call_if-laws c.args.flags.originator) c.read_call.ensures c.in_ok-src.was in
    omega (arith, room-two c.in_ok-dst.n1 c.in_ok-src.n2 s a b, c.well_formed.0)

pub overflow_add-result-2 : goal.overflow_add-result-2
overflow_add-result-2 c =
    let s = c.args.d.now in
    let t = tail c.in_ok-src.n2 (tail c.in_ok-dst.n1 s) in
    let a = room-read address (λ t. t) s c.read_address.result _ _ address-laws c.read_address.ensures c.in_ok-dst.was in
    let b = room-read (call_if c.args.flags.originator) (λ t. t) (tail c.in_ok-dst.n1 s) c.read_call.result _ _ (call_if-laws c.args.flags.originator) c.read_call.ensures c.in_ok-src.was in
    let e = room-read (call_if c.args.flags.link) (λ t. t) t c.read_call-2.result _ _ (call_if-laws c.args.flags.link) c.read_call-2.ensures c.in_ok-link.was in
    omega (arith, room-three c.in_ok-dst.n1 c.in_ok-src.n2 c.in_ok-link.n3 s a b e, c.well_formed.0)
