-- One hop and a shorter list.
use Rattle.std.proofs.Common.{◌≡◌, ◌+◌, refl, arith}
use Rattle.layout.specs.Texts.{no_hops}
use Rattle.layout.specs.Layout.{call}
use Rattle.layout.proofs.Laws.{call-laws}
use Rattle.datagram_numbers.proofs.Chains.{tail, none-read, some-read, room-read, room-two}
use Rattle.datagram_lists.proofs.Behind.{hops-none, hops-bad, hops-more, hops-room}
use Rattle.datagram_lists.proofs.routes.+read_hops.Goals as goal

pub returns-then-count-eq0 : goal.returns-then-count-eq0
unfolding no_hops
returns-then-count-eq0 t c = rw (c.no_hops-hops.ensures, hops-none c.args.count c.args.at c.args.d.now c.if-count-eq0.true)

pub returns-in_err-hop : goal.returns-in_err-hop
returns-in_err-hop t c = rw (c.from_residual.ensures, hops-bad c.args.count c.args.at c.args.d.now c.if-count-eq0.false (none-read (λ t. t) _ c.read_hop.result c.read_hop.ensures c.in_err-hop.was))

pub slice_bounds-d1-count : goal.slice_bounds-d1-count
slice_bounds-d1-count t c = room-read (call 1) (λ t. t) c.args.d.now c.read_hop.result _ _ (call-laws 1) c.read_hop.ensures c.in_ok-hop.was

pub slice_bounds-d1-start : goal.slice_bounds-d1-start
slice_bounds-d1-start t c = room-read (call 1) (λ t. t) c.args.d.now c.read_hop.result _ _ (call-laws 1) c.read_hop.ensures c.in_ok-hop.was

pub overflow_add-used : goal.overflow_add-used
overflow_add-used t c =
    let s = c.args.d.now in
    let a = room-read (call 1) (λ t. t) s c.read_hop.result _ _ (call-laws 1) c.read_hop.ensures c.in_ok-hop.was in
    let b = hops-room _ _ (tail c.in_ok-hop.n1 s) _ _ (some-read (λ h. h) (λ h. h) _ c.read_hops-found.result c.in-Some.hops c.in-Some.used (λ h. refl) c.read_hops-found.ensures c.in-Some.is) in
    omega (arith, room-two c.in_ok-hop.n1 c.in-Some.used s a b, c.well_formed.0)

pub returns-in-Some : goal.returns-in-Some
returns-in-Some t c =
    let e = some-read (λ t. t) (λ t. t) ((call 1).parse c.args.d.now) c.read_hop.result c.in_ok-hop.hop c.in_ok-hop.n1 (λ t. refl) c.read_hop.ensures c.in_ok-hop.was in
    let z : c.in-Some.used + c.in_ok-hop.n1 ≡ c.in_ok-hop.n1 + c.in-Some.used = omega arith in
    rw (z, hops-more c.args.at c.in_ok-hop.n1 c.in_ok-hop.hop c.args.count c.args.d.now c.if-count-eq0.false e, some-read (λ h. h) (λ h. h) _ c.read_hops-found.result c.in-Some.hops c.in-Some.used (λ h. refl) c.read_hops-found.ensures c.in-Some.is)

pub returns-in_default : goal.returns-in_default
returns-in_default t c =
    let e = some-read (λ t. t) (λ t. t) ((call 1).parse c.args.d.now) c.read_hop.result c.in_ok-hop.hop c.in_ok-hop.n1 (λ t. refl) c.read_hop.ensures c.in_ok-hop.was in
    rw (c.in_default.is, hops-more c.args.at c.in_ok-hop.n1 c.in_ok-hop.hop c.args.count c.args.d.now c.if-count-eq0.false e, none-read (λ h. h) _ c.read_hops-found.result c.read_hops-found.ensures c.in_default.is)
