-- Flood hops, source route and traversed hops, each from the part behind the last.
use Rattle.std.proofs.Common.{arith, option_map}
use Rattle.layout.specs.Layout.{flood_if, hops_if}
use Rattle.layout.proofs.Laws.{flood_if-laws, hops_if-laws}
use Rattle.datagram_numbers.proofs.Chains.{tail, room-read, room-two, room-three}
use Rattle.datagram_lists.proofs.read_way.Goals as goal

pub slice_bounds-d2-count : goal.slice_bounds-d2-count
slice_bounds-d2-count c = room-read (hops_if c.args.flags.route) (λ h. h) (tail c.in_ok-flood.n1 c.args.d.now) c.read_route.result _ _ (hops_if-laws c.args.flags.route) c.read_route.ensures c.in_ok-route.was

pub slice_bounds-d2-start : goal.slice_bounds-d2-start
slice_bounds-d2-start c = room-read (hops_if c.args.flags.route) (λ h. h) (tail c.in_ok-flood.n1 c.args.d.now) c.read_route.result _ _ (hops_if-laws c.args.flags.route) c.read_route.ensures c.in_ok-route.was

pub overflow_add-result : goal.overflow_add-result
overflow_add-result c =
    let s = c.args.d.now in
    let a = room-read (flood_if c.args.flags.flood) (option_map (λ n. n)) s c.read_if.result _ _ (flood_if-laws c.args.flags.flood) c.read_if.ensures c.in_ok-flood.was in
    let b = room-read (hops_if c.args.flags.route) (λ h. h) (tail c.in_ok-flood.n1 s) c.read_route.result _ _ (hops_if-laws c.args.flags.route) c.read_route.ensures c.in_ok-route.was in
    omega (arith, room-two c.in_ok-flood.n1 c.in_ok-route.n2 s a b, c.well_formed.0)

pub overflow_add-result-2 : goal.overflow_add-result-2
overflow_add-result-2 c =
    let s = c.args.d.now in
    let t = tail c.in_ok-route.n2 (tail c.in_ok-flood.n1 s) in
    let a = room-read (flood_if c.args.flags.flood) (option_map (λ n. n)) s c.read_if.result _ _ (flood_if-laws c.args.flags.flood) c.read_if.ensures c.in_ok-flood.was in
    let b = room-read (hops_if c.args.flags.route) (λ h. h) (tail c.in_ok-flood.n1 s) c.read_route.result _ _ (hops_if-laws c.args.flags.route) c.read_route.ensures c.in_ok-route.was in
    let e = room-read (hops_if c.args.flags.hops) (λ h. h) t c.read_route-2.result _ _ (hops_if-laws c.args.flags.hops) c.read_route-2.ensures c.in_ok-hops.was in
    omega (arith, room-three c.in_ok-flood.n1 c.in_ok-route.n2 c.in_ok-hops.n3 s a b e, c.well_formed.0)
