-- 40, then 14, then the row.
use mathlib.Core.Path.{◌≡◌, sym, ap, ◌∙◌}
use mathlib.Core.Bool.{false}
use Prim.Native.Nat.{ℕ, ◌<◌}
use native.Mathlib.Omega.{arith}
use lib.ListN.{length}
use borrow.Author.Tests.{lt-ltb}
use Rattle.std.specs.Option.{is_some}
use Rattle.octets.specs.Words.{◌<?◌}
use Rattle.octets.proofs.Tests.{if_yes, and-next, and-not-left, no_false}
use Rattle.slots.specs.declared.Slot.{Slot}
use Rattle.streams.specs.Table.{past_slot}
use Rattle.streams.specs.Calls.{row_at}
use Rattle.streams.proofs.Lookups.{kept, test_broken, test_good, shown-open, shown-none}
use Rattle.streams.proofs.Table.row_at.Goals as goal

pub returns-in_default : goal.returns-in_default
unfolding row_at
returns-in_default c = sym (if_yes _ _ _ (no_false _ (test_broken c.args.self _ c.in_default.ensures)))

pub returns-in-Some-get : goal.returns-in-Some-get
returns-in-Some-get c = let k = test_good c.args.self _ _ c.in-Some.ensures in
    let h = c.in-Some-get.ensures.lookup in
    shown-open c.args.self c.args.number c.in-Some-get.x.now k (omega (arith, h.3.0, (kept c.args.self k).long)) (h.3.1 past_slot) c.if-x.true

pub returns-in_default-get : goal.returns-in_default-get
returns-in_default-get c = let k = test_good c.args.self _ _ c.in-Some.ensures in
    let h = c.in-Some-get.ensures.lookup in
    let b : c.args.number < 32 = omega (arith, h.3.0, (kept c.args.self k).long) in
    shown-none c.args.self c.args.number k (and-next _ _ (lt-ltb _ _ b) ∙ sym (ap (λ (x : Slot). x.is_open) (h.3.1 past_slot)) ∙ c.if-x.false)

pub returns-in_default-get-2 : goal.returns-in_default-get-2
returns-in_default-get-2 c = let k = test_good c.args.self _ _ c.in-Some.ensures in
    let e : (c.args.number <? length c.args.self.slots) ≡ false = sym c.get.ensures.lookup.0 ∙ ap is_some c.in_default-get.is in
    shown-none c.args.self c.args.number k (and-not-left _ _ (ap (λ (n : ℕ). c.args.number <? n) (sym (kept c.args.self k).long) ∙ e))
