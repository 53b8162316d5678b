-- A record behind its mark, or a free row.
use mathlib.Core.Path.{sym, ◌∙◌}
use native.Mathlib.Omega.{arith}
use Rattle.records.specs.Record.{body}
use Rattle.records.proofs.Found.{missed_at, found_at}
use Rattle.image_rows.proofs.Reading.{slot-free, slot-start, slot-bad, slot-got, slot-room}
use Rattle.image_rows.proofs.walk.read_slot.Goals as goal

pub returns-then-not-is_row : goal.returns-then-not-is_row
returns-then-not-is_row c = rw (c.free.ensures, slot-free c.args.i c.args.d.now (sym c.is_row.ensures ∙ c.if-not-is_row.true))

pub slice_bounds-read-count : goal.slice_bounds-read-count
slice_bounds-read-count c = slot-start c.args.i c.args.d.now (sym c.is_row.ensures ∙ c.if-not-is_row.false)

pub slice_bounds-read-start : goal.slice_bounds-read-start
slice_bounds-read-start c = slot-start c.args.i c.args.d.now (sym c.is_row.ensures ∙ c.if-not-is_row.false)

pub returns-in_err-key : goal.returns-in_err-key
returns-in_err-key c =
    let e = missed_at body.parse 3 c.args.d.now (λ x. x) _ c.in_err-key.was c.read.ensures in
    rw (c.from_residual.ensures, slot-bad c.args.i c.args.d.now (sym c.is_row.ensures ∙ c.if-not-is_row.false) e)

pub overflow_add-result : goal.overflow_add-result
overflow_add-result c =
    let e = found_at body.parse 3 c.args.d.now _ _ _ c.in_ok-key.was c.read.ensures in
    omega (arith, slot-room c.args.i c.args.d.now (sym c.is_row.ensures ∙ c.if-not-is_row.false) _ _ e)

pub returns : goal.returns
returns c =
    let e = found_at body.parse 3 c.args.d.now _ _ _ c.in_ok-key.was c.read.ensures in
    rw (slot-got c.args.i c.args.d.now (sym c.is_row.ensures ∙ c.if-not-is_row.false) _ _ e)
