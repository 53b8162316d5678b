-- 40, then 5, then the records and the end behind them.
use Prim.Native.Nat.{◌+◌}
use mathlib.Core.Path.{◌≡◌, sym, ap, ◌∙◌}
use borrow.Author.Rules.{rules}
use Rattle.std.specs.Prelude.{ℕ, Result, Err}
use Rattle.refusals.specs.declared.Refusal.{Refusal}
use Rattle.image.specs.Answer.{saved_says}
use native.Mathlib.Omega.{arith}
use borrow.Author.Tests.{leb-true, leb-false}
use lib.ListN.{length}
use Rattle.image.proofs.Reading.{rules_kept, no-rules}
use Rattle.image.proofs.Writing.{save-broken, save-short, save-done}
use Rattle.image.proofs.save.Goals as goal

pub returns-in_err-rows : goal.returns-in_err-rows
returns-in_err-rows c =
    let r : c.from_residual.result ≡ Err c.in_err-rows.field-0.0 = search rules in
    let n = no-rules c.args.t _ c.open_rows.ensures _ c.in_err-rows.was in
    ap (λ (x : Result ℕ Refusal). saved_says x c.args.out.now) r ∙ save-broken c.args.t c.args.out.now _ n.0 n.1

pub records_size-size-requires : goal.records_size-size-requires
records_size-size-requires c = (rules_kept c.args.t _ c.open_rows.ensures _ c.in_ok-rows.was).keeps

pub returns-then-not-has_room : goal.returns-then-not-has_room
returns-then-not-has_room c = save-short c.args.t c.args.out.now (rules_kept c.args.t _ c.open_rows.ensures _ c.in_ok-rows.was).keeps _ c.records_size-size.ensures.0 (leb-false _ _ (sym c.has_room.ensures ∙ c.if-not-has_room.true))

pub put_records-requires : goal.put_records-requires
put_records-requires c = ((rules_kept c.args.t _ c.open_rows.ensures _ c.in_ok-rows.was).keeps, omega (arith, c.records_size-size.ensures.0, leb-true (c.records_size-size.result + 3) (length c.args.out.now) (sym c.has_room.ensures ∙ c.if-not-has_room.false)))

pub overflow_cast-rows : goal.overflow_cast-rows
overflow_cast-rows c = omega (arith, (rules_kept c.args.t _ c.open_rows.ensures _ c.in_ok-rows.was).few)

pub returns : goal.returns
returns c = save-done c.args.t c.args.out.now (rules_kept c.args.t _ c.open_rows.ensures _ c.in_ok-rows.was).keeps _ c.records_size-size.ensures.0 _ _ _ (rules_kept c.args.t _ c.open_rows.ensures _ c.in_ok-rows.was).rows (leb-true _ _ (sym c.has_room.ensures ∙ c.if-not-has_room.false)) c.put_records.ensures c.put_end.ensures.1
