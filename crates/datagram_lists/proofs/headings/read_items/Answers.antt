-- What is left of the headers is read from the part that is left.
use Rattle.std.proofs.Common.{◌≡◌, refl, ap, length, length-set, arith}
use Rattle.headers.specs.declared.Headers.{Headers}
use Rattle.held_texts.specs.Texts.{no_headers, with_header}
use Rattle.layout.specs.Layout.{header}
use Rattle.layout.proofs.Laws.{header-laws}
use Rattle.datagram_numbers.proofs.Chains.{tail, tail-length, none-read, some-read, room-read}
use Rattle.datagram_lists.proofs.Behind.{header-added}
use Rattle.datagram_lists.proofs.Loop.{loop-start, loop-next, loop-none, loop-end}
use Rattle.datagram_lists.proofs.headings.read_items.Goals as goal

pub loop-i-init : goal.loop-i-init
loop-i-init c = (omega arith, ap (λ (h : Headers). length h.items) c.no_headers-headers.ensures, loop-start header with_header c.args.count no_headers _ c.args.d.now (ap (λ (h : Headers). record { items = h.items; count = 0 }) c.no_headers-headers.ensures))

pub returns-in_err-header : goal.returns-in_err-header
returns-in_err-header c = rw (c.from_residual.ensures, loop-none header with_header c.args.count c.loop-i.i c.loop-i.at _ c.args.d.now _ c.loop-i-test.true c.loop-i.invariant.2 (none-read (λ h. h) _ c.read_header.result c.read_header.ensures c.in_err-header.was))

pub overflow_add-at : goal.overflow_add-at
overflow_add-at c = omega (arith, room-read header (λ h. h) (tail c.loop-i.at c.args.d.now) c.read_header.result _ _ header-laws c.read_header.ensures c.in_ok-header.was, tail-length c.loop-i.at c.args.d.now, c.loop-i.invariant.0, c.well_formed.0)

pub loop-i-preserved : goal.loop-i-preserved
loop-i-preserved c = (
  omega (arith, room-read header (λ h. h) (tail c.loop-i.at c.args.d.now) c.read_header.result _ _ header-laws c.read_header.ensures c.in_ok-header.was, tail-length c.loop-i.at c.args.d.now, c.loop-i.invariant.0),
  rw length-set c.loop-i.invariant.1,
  loop-next header with_header c.args.count c.loop-i.i c.loop-i.at c.in_ok-header.used _ _ _ c.args.d.now _ c.loop-i-test.true c.loop-i.invariant.2
      (some-read (λ h. h) (λ h. h) _ c.read_header.result _ _ (λ h. refl) c.read_header.ensures c.in_ok-header.was)
      (header-added c.loop-i.headers.items c.loop-i.i c.in_ok-header.header _ (omega (arith, c.requires, c.loop-i-test.true)) refl),
)

pub returns : goal.returns
returns c =
    let z : c.loop-i.i ≡ c.args.count = omega (arith, c.loop-i.auto.i-end, c.loop-i-test.false) in
    rw (loop-end header with_header c.args.count c.loop-i.i c.loop-i.at _ c.args.d.now _ z c.loop-i.invariant.2, z)
