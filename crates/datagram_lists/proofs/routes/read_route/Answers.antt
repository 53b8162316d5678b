-- Where the flag is set, a count of at most 16 and as many hops.
use Rattle.std.proofs.Common.{refl, arith, ◌≡◌, ◌+◌, ap, ◌∙◌}
use Rattle.octets.specs.Field.{num, got}
use Rattle.layout.proofs.Laws.{hops-laws}
use Rattle.datagram_numbers.proofs.Chains.{none-read, some-read}
use Rattle.datagram_lists.specs.Found.{further}
use Rattle.datagram_lists.proofs.Behind.{hops-counted}
use Rattle.datagram_lists.proofs.routes.read_route.Goals as goal

pub returns-in_err-hops : goal.returns-in_err-hops
returns-in_err-hops c =
    let e : (num 1).parse c.args.d.now ≡ got c.from.result c.in_ok-count.n1 = rw c.from.ensures (some-read (λ n. n) (λ n. n) ((num 1).parse c.args.d.now) c.read.result c.in_ok-count.count c.in_ok-count.n1 (λ n. refl) c.read.ensures c.in_ok-count.was) in
    rw (c.from_residual-in_err-hops.ensures, c.if-not-has.false, hops-counted c.args.d.now c.from.result c.in_ok-count.n1 e (omega (arith, c.from.ensures, c.if-count-gt16.false)), none-read (λ h. h) _ c.read_hops.result c.read_hops.ensures c.in_err-hops.was)

pub overflow_add-result : goal.overflow_add-result
overflow_add-result c =
    let e : (num 1).parse c.args.d.now ≡ got c.from.result c.in_ok-count.n1 = rw c.from.ensures (some-read (λ n. n) (λ n. n) ((num 1).parse c.args.d.now) c.read.result c.in_ok-count.count c.in_ok-count.n1 (λ n. refl) c.read.ensures c.in_ok-count.was) in
    let q = hops-counted c.args.d.now c.from.result c.in_ok-count.n1 e (omega (arith, c.from.ensures, c.if-count-gt16.false)) in
    let p = some-read (λ h. h) (λ h. h) _ c.read_hops.result c.in_ok-hops.hops c.in_ok-hops.n2 (λ h. refl) c.read_hops.ensures c.in_ok-hops.was in
    omega (arith, hops-laws.room c.args.d.now c.in_ok-hops.hops (c.in_ok-count.n1 + c.in_ok-hops.n2) (q ∙ ap (further c.in_ok-count.n1) p), c.well_formed.0)

pub returns : goal.returns
returns c =
    let e : (num 1).parse c.args.d.now ≡ got c.from.result c.in_ok-count.n1 = rw c.from.ensures (some-read (λ n. n) (λ n. n) ((num 1).parse c.args.d.now) c.read.result c.in_ok-count.count c.in_ok-count.n1 (λ n. refl) c.read.ensures c.in_ok-count.was) in
    rw (c.if-not-has.false, hops-counted c.args.d.now c.from.result c.in_ok-count.n1 e (omega (arith, c.from.ensures, c.if-count-gt16.false)), some-read (λ h. h) (λ h. h) _ c.read_hops.result c.in_ok-hops.hops c.in_ok-hops.n2 (λ h. refl) c.read_hops.ensures c.in_ok-hops.was)
