-- The numbers, then the messages; the row must keep its rules.
use Prim.Native.Nat.{◌+◌}
use mathlib.Core.Path.{sym, ◌∙◌}
use native.Mathlib.Omega.{arith}
use Rattle.octets.specs.Field.{num, many}
use Rattle.rows.specs.Row.{places}
use Rattle.records.specs.Record.{message}
use Rattle.records.proofs.Found.{missed, found, missed_at, found_at, widened, row-1, row-2, row-3, row-4, row-5, row-6, row-not, row-yes, row-room}
use Rattle.records.proofs.parts.read_row.Goals as goal

pub returns-in_err-expected : goal.returns-in_err-expected
returns-in_err-expected c =
    rw (c.from_residual.ensures, row-1 c.args.d.now (missed (λ n. n) ((num 8).parse c.args.d.now) _ c.in_err-expected.was c.read.ensures))

pub returns-in_err-clock : goal.returns-in_err-clock
returns-in_err-clock c =
    let a = found ((num 8).parse c.args.d.now) _ _ _ c.in_ok-expected.was c.read.ensures in
    let e = missed_at ((num 4).parse) c.in_ok-expected.a c.args.d.now (λ n. n) _ c.in_err-clock.was c.read-2.ensures in
    rw (c.from_residual-in_err-clock.ensures, row-2 c.args.d.now _ _ a e)

pub returns-in_err-gap_start : goal.returns-in_err-gap_start
returns-in_err-gap_start c =
    let a = found ((num 8).parse c.args.d.now) _ _ _ c.in_ok-expected.was c.read.ensures in
    let b = found_at ((num 4).parse) c.in_ok-expected.a c.args.d.now _ _ _ c.in_ok-clock.was c.read-2.ensures in
    let e = missed_at ((num 4).parse) (c.in_ok-expected.a + c.in_ok-clock.b) c.args.d.now (λ n. n) _ c.in_err-gap_start.was c.read-3.ensures in
    rw (c.from_residual-in_err-gap_start.ensures, row-3 c.args.d.now _ _ a _ _ b e)

pub returns-in_err-n : goal.returns-in_err-n
returns-in_err-n c =
    let a = found ((num 8).parse c.args.d.now) _ _ _ c.in_ok-expected.was c.read.ensures in
    let b = found_at ((num 4).parse) c.in_ok-expected.a c.args.d.now _ _ _ c.in_ok-clock.was c.read-2.ensures in
    let g = found_at ((num 4).parse) (c.in_ok-expected.a + c.in_ok-clock.b) c.args.d.now _ _ _ c.in_ok-gap_start.was c.read-3.ensures in
    let e = missed_at ((num 1).parse) (c.in_ok-expected.a + c.in_ok-clock.b + c.in_ok-gap_start.c) c.args.d.now (λ n. n) _ c.in_err-n.was c.read-4.ensures in
    rw (c.from_residual-in_err-n.ensures, row-4 c.args.d.now _ _ a _ _ b _ _ g e)

pub returns-then-count-gt16 : goal.returns-then-count-gt16
returns-then-count-gt16 c =
    let a = found ((num 8).parse c.args.d.now) _ _ _ c.in_ok-expected.was c.read.ensures in
    let b = found_at ((num 4).parse) c.in_ok-expected.a c.args.d.now _ _ _ c.in_ok-clock.was c.read-2.ensures in
    let g = found_at ((num 4).parse) (c.in_ok-expected.a + c.in_ok-clock.b) c.args.d.now _ _ _ c.in_ok-gap_start.was c.read-3.ensures in
    let n = widened _ _ _ c.from-count.result (found_at ((num 1).parse) (c.in_ok-expected.a + c.in_ok-clock.b + c.in_ok-gap_start.c) c.args.d.now _ _ _ c.in_ok-n.was c.read-4.ensures) c.from-count.ensures in
    rw (row-5 c.args.d.now _ _ a _ _ b _ _ g _ _ n c.if-count-gt16.true)

pub returns-in_err-held : goal.returns-in_err-held
returns-in_err-held c =
    let a = found ((num 8).parse c.args.d.now) _ _ _ c.in_ok-expected.was c.read.ensures in
    let b = found_at ((num 4).parse) c.in_ok-expected.a c.args.d.now _ _ _ c.in_ok-clock.was c.read-2.ensures in
    let g = found_at ((num 4).parse) (c.in_ok-expected.a + c.in_ok-clock.b) c.args.d.now _ _ _ c.in_ok-gap_start.was c.read-3.ensures in
    let n = widened _ _ _ c.from-count.result (found_at ((num 1).parse) (c.in_ok-expected.a + c.in_ok-clock.b + c.in_ok-gap_start.c) c.args.d.now _ _ _ c.in_ok-n.was c.read-4.ensures) c.from-count.ensures in
    let e = missed_at ((many message c.from-count.result).parse) (c.in_ok-expected.a + c.in_ok-clock.b + c.in_ok-gap_start.c + c.in_ok-n.e) c.args.d.now places _ c.in_err-held.was c.read_messages.ensures in
    rw (c.from_residual-in_err-held.ensures, row-6 c.args.d.now _ _ a _ _ b _ _ g _ _ n c.if-count-gt16.false e)

pub returns-then-not-keeps_rules : goal.returns-then-not-keeps_rules
returns-then-not-keeps_rules c =
    let a = found ((num 8).parse c.args.d.now) _ _ _ c.in_ok-expected.was c.read.ensures in
    let b = found_at ((num 4).parse) c.in_ok-expected.a c.args.d.now _ _ _ c.in_ok-clock.was c.read-2.ensures in
    let g = found_at ((num 4).parse) (c.in_ok-expected.a + c.in_ok-clock.b) c.args.d.now _ _ _ c.in_ok-gap_start.was c.read-3.ensures in
    let n = widened _ _ _ c.from-count.result (found_at ((num 1).parse) (c.in_ok-expected.a + c.in_ok-clock.b + c.in_ok-gap_start.c) c.args.d.now _ _ _ c.in_ok-n.was c.read-4.ensures) c.from-count.ensures in
    rw (row-not c.args.d.now _ _ a _ _ b _ _ g _ _ n c.if-count-gt16.false _ _ _ c.in_ok-held.was c.read_messages.ensures (sym c.keeps_rules.ensures ∙ c.if-not-keeps_rules.true))

pub overflow_add-result : goal.overflow_add-result
overflow_add-result c =
    let a = found ((num 8).parse c.args.d.now) _ _ _ c.in_ok-expected.was c.read.ensures in
    let b = found_at ((num 4).parse) c.in_ok-expected.a c.args.d.now _ _ _ c.in_ok-clock.was c.read-2.ensures in
    let g = found_at ((num 4).parse) (c.in_ok-expected.a + c.in_ok-clock.b) c.args.d.now _ _ _ c.in_ok-gap_start.was c.read-3.ensures in
    let n = widened _ _ _ c.from-count.result (found_at ((num 1).parse) (c.in_ok-expected.a + c.in_ok-clock.b + c.in_ok-gap_start.c) c.args.d.now _ _ _ c.in_ok-n.was c.read-4.ensures) c.from-count.ensures in
    omega (arith, row-room c.args.d.now _ _ a _ _ b _ _ g _ _ n c.if-count-gt16.false _ _ _ c.in_ok-held.was c.read_messages.ensures)

pub returns : goal.returns
returns c =
    let a = found ((num 8).parse c.args.d.now) _ _ _ c.in_ok-expected.was c.read.ensures in
    let b = found_at ((num 4).parse) c.in_ok-expected.a c.args.d.now _ _ _ c.in_ok-clock.was c.read-2.ensures in
    let g = found_at ((num 4).parse) (c.in_ok-expected.a + c.in_ok-clock.b) c.args.d.now _ _ _ c.in_ok-gap_start.was c.read-3.ensures in
    let n = widened _ _ _ c.from-count.result (found_at ((num 1).parse) (c.in_ok-expected.a + c.in_ok-clock.b + c.in_ok-gap_start.c) c.args.d.now _ _ _ c.in_ok-n.was c.read-4.ensures) c.from-count.ensures in
    rw (row-yes c.args.d.now _ _ a _ _ b _ _ g _ _ n c.if-count-gt16.false _ _ _ c.in_ok-held.was c.read_messages.ensures (sym c.keeps_rules.ensures ∙ c.if-not-keeps_rules.false))
