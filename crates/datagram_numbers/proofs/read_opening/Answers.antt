-- Flags, id, salt and ttl, each from the part behind the last.
use Rattle.std.proofs.Common.{arith, option_map}
use Rattle.octets.specs.Numbers.{from_twos}
use Rattle.octets.specs.Field.{num, given}
use Rattle.octets.proofs.FieldLaws.{num_laws, given-laws}
use Rattle.layout.specs.Layout.{flags, hex_id, ttl_if}
use Rattle.layout.proofs.Laws.{flags-laws, hex_id-laws, ttl_if-laws}
use Rattle.datagram_numbers.proofs.Chains.{tail, room-read, room-two, room-three, room-four}
use Rattle.datagram_numbers.proofs.read_opening.Goals as goal

pub slice_bounds-d1-count : goal.slice_bounds-d1-count
slice_bounds-d1-count c = room-read flags (λ f. f) c.args.d.now c.read_flags.result _ _ flags-laws c.read_flags.ensures c.in_ok-flags.was

pub slice_bounds-d1-start : goal.slice_bounds-d1-start
slice_bounds-d1-start c = room-read flags (λ f. f) c.args.d.now c.read_flags.result _ _ flags-laws c.read_flags.ensures c.in_ok-flags.was

pub slice_bounds-d2-count : goal.slice_bounds-d2-count
slice_bounds-d2-count c = room-read hex_id (λ n. n) (tail c.in_ok-flags.n1 c.args.d.now) c.read_id.result _ _ hex_id-laws c.read_id.ensures c.in_ok-id.was

pub slice_bounds-d2-start : goal.slice_bounds-d2-start
slice_bounds-d2-start c = room-read hex_id (λ n. n) (tail c.in_ok-flags.n1 c.args.d.now) c.read_id.result _ _ hex_id-laws c.read_id.ensures c.in_ok-id.was

pub overflow_add-result : goal.overflow_add-result
overflow_add-result c =
    let s = c.args.d.now in
    let a = room-read flags (λ f. f) s c.read_flags.result _ _ flags-laws c.read_flags.ensures c.in_ok-flags.was in
    let b = room-read hex_id (λ n. n) (tail c.in_ok-flags.n1 s) c.read_id.result _ _ hex_id-laws c.read_id.ensures c.in_ok-id.was in
    omega (arith, room-two c.in_ok-flags.n1 c.in_ok-id.n2 s a b, c.well_formed.0)

pub overflow_add-result-2 : goal.overflow_add-result-2
overflow_add-result-2 c =
    let s = c.args.d.now in
    let t = tail c.in_ok-id.n2 (tail c.in_ok-flags.n1 s) in
    let a = room-read flags (λ f. f) s c.read_flags.result _ _ flags-laws c.read_flags.ensures c.in_ok-flags.was in
    let b = room-read hex_id (λ n. n) (tail c.in_ok-flags.n1 s) c.read_id.result _ _ hex_id-laws c.read_id.ensures c.in_ok-id.was in
    let d = room-read (given c.in_ok-flags.flags.salt (num 8)) (option_map from_twos) t c.read_if.result _ _ (given-laws c.in_ok-flags.flags.salt (num 8) (num_laws 8)) c.read_if.ensures c.in_ok-salt.was in
    omega (arith, room-three c.in_ok-flags.n1 c.in_ok-id.n2 c.in_ok-salt.n3 s a b d, c.well_formed.0)

pub overflow_add-result-3 : goal.overflow_add-result-3
overflow_add-result-3 c =
    let s = c.args.d.now in
    let t = tail c.in_ok-id.n2 (tail c.in_ok-flags.n1 s) in
    let a = room-read flags (λ f. f) s c.read_flags.result _ _ flags-laws c.read_flags.ensures c.in_ok-flags.was in
    let b = room-read hex_id (λ n. n) (tail c.in_ok-flags.n1 s) c.read_id.result _ _ hex_id-laws c.read_id.ensures c.in_ok-id.was in
    let d = room-read (given c.in_ok-flags.flags.salt (num 8)) (option_map from_twos) t c.read_if.result _ _ (given-laws c.in_ok-flags.flags.salt (num 8) (num_laws 8)) c.read_if.ensures c.in_ok-salt.was in
    let e = room-read (ttl_if c.in_ok-flags.flags.ttl) (option_map (λ n. n)) (tail c.in_ok-salt.n3 t) c.read_if-2.result _ _ (ttl_if-laws _) c.read_if-2.ensures c.in_ok-ttl.was in
    omega (arith, room-four c.in_ok-flags.n1 c.in_ok-id.n2 c.in_ok-salt.n3 c.in_ok-ttl.n4 s a b d e, c.well_formed.0)
