-- What was kept of the words behind, and the words from each place on, decide.
use mathlib.Core.Path.{◌≡◌, refl, sym, ◌∙◌}
use native.Mathlib.Omega.{arith}
use Prim.Native.Nat.{◌+◌}
use lib.ListN.{length}
use borrow.Author.Rules.{rules}
use Rattle.tokens.proofs.Words.{word-short}
use Rattle.line_places.proofs.Turns.{front-part, turns-start, turns-end, turn-bad, turn-cut, turn-again, turn-kept, turn-unfit, turn-room, turn-header}
use Rattle.line_places.proofs.read_places.Goals as goal

pub loop-at-init : goal.loop-at-init
loop-at-init c = (search rules, turns-start c.args.t.now c.no_headers-headers.result c.no_headers-headers.ensures)

pub returns-then-not-may_stand : goal.returns-then-not-may_stand
returns-then-not-may_stand c = turn-bad c.args.t.now c.loop-at.slots c.loop-at.headers c.loop-at.at c.loop-at.invariant.1 c.loop-at-test.true c.before_byte-word.result.now c.before_byte-word.ensures c.bytes_before-n.result c.bytes_before-n.ensures.0 c.is_some.result c.is_some.ensures c.may_stand.result c.may_stand.ensures c.if-not-may_stand.true

pub overflow_add-start : goal.overflow_add-start
overflow_add-start c = omega (arith, word-short c.args.t.now c.loop-at.at c.loop-at-test.true c.before_byte-word.result.now c.before_byte-word.ensures, c.bytes_before-n.ensures.1)

pub overflow_add-start-in-loop-at : goal.overflow_add-start-in-loop-at
overflow_add-start-in-loop-at c = omega (arith, word-short c.args.t.now c.loop-at.at c.loop-at-test.true c.before_byte-word.result.now c.before_byte-word.ensures, c.bytes_before-n.ensures.1)

pub slice_bounds-value-start : goal.slice_bounds-value-start
slice_bounds-value-start c = omega (arith, turn-cut c.args.t.now c.loop-at.slots c.loop-at.headers c.loop-at.at c.loop-at.invariant.1 c.loop-at-test.true c.before_byte-word.result.now c.before_byte-word.ensures c.bytes_before-n.result c.bytes_before-n.ensures.0 c.is_some.result c.is_some.ensures c.may_stand.result c.may_stand.ensures c.if-not-may_stand.false)

pub overflow_add-at : goal.overflow_add-at
overflow_add-at c = omega (arith, word-short c.args.t.now c.loop-at.at c.loop-at-test.true c.before_byte-word.result.now c.before_byte-word.ensures)

pub overflow_add-at-in-loop-at : goal.overflow_add-at-in-loop-at
overflow_add-at-in-loop-at c = omega (arith, word-short c.args.t.now c.loop-at.at c.loop-at-test.true c.before_byte-word.result.now c.before_byte-word.ensures)

pub returns-then-is_some : goal.returns-then-is_some
returns-then-is_some c = turn-again c.args.t.now c.loop-at.slots c.loop-at.headers c.loop-at.at c.loop-at.invariant.1 c.loop-at-test.true c.before_byte-word.result.now c.before_byte-word.ensures c.bytes_before-n.result c.bytes_before-n.ensures.0 c.is_some.result c.is_some.ensures c.may_stand.result c.may_stand.ensures c.if-not-may_stand.false _ (front-part c.before_byte-word.result.now c.bytes_before-n.result _ refl) c.reserved_place-k.result c.reserved_place-k.ensures c.if-k-lt13.true (sym c.is_some-then-k-lt13.ensures ∙ c.if-is_some.true)

pub loop-at-smaller-then-k-lt13 : goal.loop-at-smaller-then-k-lt13
loop-at-smaller-then-k-lt13 c = omega (arith, word-short c.args.t.now c.loop-at.at c.loop-at-test.true c.before_byte-word.result.now c.before_byte-word.ensures)

pub loop-at-preserved-then-k-lt13 : goal.loop-at-preserved-then-k-lt13
loop-at-preserved-then-k-lt13 c = (omega (arith, word-short c.args.t.now c.loop-at.at c.loop-at-test.true c.before_byte-word.result.now c.before_byte-word.ensures), let z : c.loop-at.at + (length c.before_byte-word.result.now + 1) ≡ c.loop-at.at + length c.before_byte-word.result.now + 1 = omega arith in rw z (turn-kept c.args.t.now c.loop-at.slots c.loop-at.headers c.loop-at.at c.loop-at.invariant.1 c.loop-at-test.true c.before_byte-word.result.now c.before_byte-word.ensures c.bytes_before-n.result c.bytes_before-n.ensures.0 c.is_some.result c.is_some.ensures c.may_stand.result c.may_stand.ensures c.if-not-may_stand.false _ (front-part c.before_byte-word.result.now c.bytes_before-n.result _ refl) c.reserved_place-k.result c.reserved_place-k.ensures c.if-k-lt13.true (sym c.is_some-then-k-lt13.ensures ∙ c.if-is_some.false) _ refl _ refl))

pub returns-then-not-header_fits : goal.returns-then-not-header_fits
returns-then-not-header_fits c = turn-unfit c.args.t.now c.loop-at.slots c.loop-at.headers c.loop-at.at c.loop-at.invariant.1 c.loop-at-test.true c.before_byte-word.result.now c.before_byte-word.ensures c.bytes_before-n.result c.bytes_before-n.ensures.0 c.is_some.result c.is_some.ensures c.may_stand.result c.may_stand.ensures c.if-not-may_stand.false _ (front-part c.before_byte-word.result.now c.bytes_before-n.result _ refl) c.reserved_place-k.result c.reserved_place-k.ensures c.if-k-lt13.false _ refl c.header_fits.result c.header_fits.ensures c.if-not-header_fits.true

pub offset_bounds-headers-m : goal.offset_bounds-headers-m
offset_bounds-headers-m c = omega (arith, turn-room c.args.t.now c.loop-at.slots c.loop-at.headers c.loop-at.at c.loop-at.invariant.1 c.loop-at-test.true c.before_byte-word.result.now c.before_byte-word.ensures c.bytes_before-n.result c.bytes_before-n.ensures.0 c.is_some.result c.is_some.ensures c.may_stand.result c.may_stand.ensures c.if-not-may_stand.false _ (front-part c.before_byte-word.result.now c.bytes_before-n.result _ refl) c.reserved_place-k.result c.reserved_place-k.ensures c.if-k-lt13.false _ refl c.header_fits.result c.header_fits.ensures c.if-not-header_fits.false)

pub bounds-headers-m : goal.bounds-headers-m
bounds-headers-m c = omega (arith, turn-room c.args.t.now c.loop-at.slots c.loop-at.headers c.loop-at.at c.loop-at.invariant.1 c.loop-at-test.true c.before_byte-word.result.now c.before_byte-word.ensures c.bytes_before-n.result c.bytes_before-n.ensures.0 c.is_some.result c.is_some.ensures c.may_stand.result c.may_stand.ensures c.if-not-may_stand.false _ (front-part c.before_byte-word.result.now c.bytes_before-n.result _ refl) c.reserved_place-k.result c.reserved_place-k.ensures c.if-k-lt13.false _ refl c.header_fits.result c.header_fits.ensures c.if-not-header_fits.false)

pub overflow_add-headers : goal.overflow_add-headers
overflow_add-headers c = omega (arith, turn-room c.args.t.now c.loop-at.slots c.loop-at.headers c.loop-at.at c.loop-at.invariant.1 c.loop-at-test.true c.before_byte-word.result.now c.before_byte-word.ensures c.bytes_before-n.result c.bytes_before-n.ensures.0 c.is_some.result c.is_some.ensures c.may_stand.result c.may_stand.ensures c.if-not-may_stand.false _ (front-part c.before_byte-word.result.now c.bytes_before-n.result _ refl) c.reserved_place-k.result c.reserved_place-k.ensures c.if-k-lt13.false _ refl c.header_fits.result c.header_fits.ensures c.if-not-header_fits.false)

pub loop-at-smaller : goal.loop-at-smaller
loop-at-smaller c = omega (arith, word-short c.args.t.now c.loop-at.at c.loop-at-test.true c.before_byte-word.result.now c.before_byte-word.ensures)

pub loop-at-preserved : goal.loop-at-preserved
loop-at-preserved c = (omega (arith, word-short c.args.t.now c.loop-at.at c.loop-at-test.true c.before_byte-word.result.now c.before_byte-word.ensures), let z : c.loop-at.at + (length c.before_byte-word.result.now + 1) ≡ c.loop-at.at + length c.before_byte-word.result.now + 1 = omega arith in rw z (turn-header c.args.t.now c.loop-at.slots c.loop-at.headers c.loop-at.at c.loop-at.invariant.1 c.loop-at-test.true c.before_byte-word.result.now c.before_byte-word.ensures c.bytes_before-n.result c.bytes_before-n.ensures.0 c.is_some.result c.is_some.ensures c.may_stand.result c.may_stand.ensures c.if-not-may_stand.false _ (front-part c.before_byte-word.result.now c.bytes_before-n.result _ refl) c.reserved_place-k.result c.reserved_place-k.ensures c.if-k-lt13.false _ refl c.header_fits.result c.header_fits.ensures c.if-not-header_fits.false _ (front-part c.before_byte-word.result.now c.bytes_before-n.result _ refl) c.header_text.result c.header_text.ensures))

pub returns : goal.returns
returns c = turns-end c.args.t.now c.loop-at.slots c.loop-at.headers c.loop-at.at c.loop-at.invariant.1 (search rules)
