-- The key, then the row behind it.
use native.Mathlib.Omega.{arith}
use Rattle.records.specs.Record.{key, row}
use Rattle.records.proofs.Found.{missed, found, missed_at, found_at, body-1, body-start, body-2, body-3, body-room}
use Rattle.records.proofs.read.Goals as goal

pub returns-in_err-key : goal.returns-in_err-key
returns-in_err-key c =
    rw (c.from_residual.ensures, body-1 c.args.d.now (missed (λ k. k) (key.parse c.args.d.now) _ c.in_err-key.was c.read_key.ensures))

pub slice_bounds-read_row-count : goal.slice_bounds-read_row-count
slice_bounds-read_row-count c =
    let k = found (key.parse c.args.d.now) _ _ _ c.in_ok-key.was c.read_key.ensures in
    body-start c.args.d.now _ _ k

pub slice_bounds-read_row-start : goal.slice_bounds-read_row-start
slice_bounds-read_row-start c =
    let k = found (key.parse c.args.d.now) _ _ _ c.in_ok-key.was c.read_key.ensures in
    body-start c.args.d.now _ _ k

pub returns-in_err-row : goal.returns-in_err-row
returns-in_err-row c =
    let k = found (key.parse c.args.d.now) _ _ _ c.in_ok-key.was c.read_key.ensures in
    let e = missed_at row.parse c.in_ok-key.n c.args.d.now (λ r. r) _ c.in_err-row.was c.read_row.ensures in
    rw (c.from_residual-in_err-row.ensures, body-2 c.args.d.now _ _ k e)

pub overflow_add-result : goal.overflow_add-result
overflow_add-result c =
    let k = found (key.parse c.args.d.now) _ _ _ c.in_ok-key.was c.read_key.ensures in
    let r = found_at row.parse c.in_ok-key.n c.args.d.now _ _ _ c.in_ok-row.was c.read_row.ensures in
    omega (arith, body-room c.args.d.now _ _ k _ _ r)

pub returns : goal.returns
returns c =
    let k = found (key.parse c.args.d.now) _ _ _ c.in_ok-key.was c.read_key.ensures in
    let r = found_at row.parse c.in_ok-key.n c.args.d.now _ _ _ c.in_ok-row.was c.read_row.ensures in
    rw (body-3 c.args.d.now _ _ k _ _ r)
