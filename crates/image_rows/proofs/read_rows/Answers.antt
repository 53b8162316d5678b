-- The 32 rows in their order: those that are still to be read decide.
use mathlib.Core.Path.{refl, sym, ap, ◌∙◌}
use native.Mathlib.Omega.{arith}
use Rattle.records.proofs.Found.{missed_at, found_at}
use Rattle.image_rows.specs.Steps.{rows_read}
use Rattle.image_rows.specs.Rows.{slot_from}
use Rattle.image_rows.proofs.Reading.{walk_start, walk-bad, walk-room, walk_more, walk_end, rules-broken, rules-kept}
use Rattle.image_rows.proofs.read_rows.Goals as goal

pub loop-i-init : goal.loop-i-init
loop-i-init c = walk_start _ _ refl

pub slice_bounds-read_slot-count : goal.slice_bounds-read_slot-count
slice_bounds-read_slot-count c = c.loop-i.invariant.room

pub slice_bounds-read_slot-start : goal.slice_bounds-read_slot-start
slice_bounds-read_slot-start c = c.loop-i.invariant.room

pub returns-in_err-slot : goal.returns-in_err-slot
returns-in_err-slot c =
    let e = missed_at (slot_from c.loop-i.i) c.loop-i.at c.args.d.now (λ x. x) _ c.in_err-slot.was c.read_slot.ensures in
    rw (c.from_residual.ensures, walk-bad c.args.d.now c.loop-i.slots c.loop-i.at c.loop-i.i c.loop-i.invariant c.loop-i-test.true e)

pub overflow_add-at : goal.overflow_add-at
overflow_add-at c =
    let e = found_at (slot_from c.loop-i.i) c.loop-i.at c.args.d.now _ _ _ c.in_ok-slot.was c.read_slot.ensures in
    omega (arith, walk-room c.args.d.now c.loop-i.slots c.loop-i.at c.loop-i.i c.loop-i.invariant c.loop-i-test.true _ _ e)

pub loop-i-preserved : goal.loop-i-preserved
loop-i-preserved c =
    let e = found_at (slot_from c.loop-i.i) c.loop-i.at c.args.d.now _ _ _ c.in_ok-slot.was c.read_slot.ensures in
    walk_more c.args.d.now c.loop-i.slots c.loop-i.at c.loop-i.i c.loop-i.invariant c.loop-i-test.true _ _ e

pub returns-in_err-ruled : goal.returns-in_err-ruled
returns-in_err-ruled c =
    c.from_residual-in_err-ruled.ensures ∙ rules-broken c.loop-i.slots c.loop-i.at _ _ c.test.ensures c.in_err-ruled.was ∙ sym (ap rows_read (walk_end c.args.d.now c.loop-i.slots c.loop-i.at c.loop-i.i c.loop-i.invariant c.loop-i-test.false))

pub returns : goal.returns
returns c = rules-kept c.loop-i.slots c.loop-i.at _ _ c.test.ensures _ c.in_ok-ruled.was ∙ sym (ap rows_read (walk_end c.args.d.now c.loop-i.slots c.loop-i.at c.loop-i.i c.loop-i.invariant c.loop-i-test.false))
