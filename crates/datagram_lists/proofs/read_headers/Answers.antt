-- Where the flag is set, a count of 1 to 8 and as many headers.
use Rattle.std.proofs.Common.{refl, arith, ◌≡◌, ◌+◌, ap, ◌∙◌}
use Rattle.octets.specs.Field.{num, got}
use Rattle.layout.proofs.Laws.{headers-laws}
use Rattle.datagram_numbers.proofs.Chains.{none-read, some-read}
use Rattle.datagram_lists.specs.Found.{further}
use Rattle.datagram_lists.proofs.Behind.{headers-counted}
use Rattle.datagram_lists.proofs.read_headers.Goals as goal

pub returns-in_err-headers : goal.returns-in_err-headers
returns-in_err-headers c =
    let e : (num 2).parse c.args.d.now ≡ got c.from.result c.in_ok-count.n1 = rw c.from.ensures (some-read (λ n. n) (λ n. n) ((num 2).parse c.args.d.now) c.read.result c.in_ok-count.count c.in_ok-count.n1 (λ n. refl) c.read.ensures c.in_ok-count.was) in
    rw (c.from_residual-in_err-headers.ensures, c.if-not-has.false, headers-counted c.args.d.now c.from.result c.in_ok-count.n1 e (omega (arith, c.from.ensures)) (omega (arith, c.from.ensures)), none-read (λ h. h) _ c.read_items.result c.read_items.ensures c.in_err-headers.was)

pub overflow_add-result : goal.overflow_add-result
overflow_add-result c =
    let e : (num 2).parse c.args.d.now ≡ got c.from.result c.in_ok-count.n1 = rw c.from.ensures (some-read (λ n. n) (λ n. n) ((num 2).parse c.args.d.now) c.read.result c.in_ok-count.count c.in_ok-count.n1 (λ n. refl) c.read.ensures c.in_ok-count.was) in
    let q = headers-counted c.args.d.now c.from.result c.in_ok-count.n1 e (omega (arith, c.from.ensures)) (omega (arith, c.from.ensures)) in
    let p = some-read (λ h. h) (λ h. h) _ c.read_items.result c.in_ok-headers.headers c.in_ok-headers.n2 (λ h. refl) c.read_items.ensures c.in_ok-headers.was in
    omega (arith, headers-laws.room c.args.d.now c.in_ok-headers.headers (c.in_ok-count.n1 + c.in_ok-headers.n2) (q ∙ ap (further c.in_ok-count.n1) p), c.well_formed.0)

pub returns : goal.returns
returns c =
    let e : (num 2).parse c.args.d.now ≡ got c.from.result c.in_ok-count.n1 = rw c.from.ensures (some-read (λ n. n) (λ n. n) ((num 2).parse c.args.d.now) c.read.result c.in_ok-count.count c.in_ok-count.n1 (λ n. refl) c.read.ensures c.in_ok-count.was) in
    rw (c.if-not-has.false, headers-counted c.args.d.now c.from.result c.in_ok-count.n1 e (omega (arith, c.from.ensures)) (omega (arith, c.from.ensures)), some-read (λ h. h) (λ h. h) _ c.read_items.result c.in_ok-headers.headers c.in_ok-headers.n2 (λ h. refl) c.read_items.ensures c.in_ok-headers.was)
