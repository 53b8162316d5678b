-- THEOREM: every call returns a table that keeps the rules, if it is handed one. (The numbers are of 32 bits, as the code's types have them.)
use mathlib.Core.Path.{◌≡◌, refl, sym, ◌∙◌}
use Prim.Native.Nat.{ℕ}
use mathlib.Core.Bool.{true, false}
use mathlib.Core.List.{List}
use lib.ListN.{set, length-set}
use borrow.Author.Tests.{eq-eqb}
use Rattle.octets.proofs.Tests.{if_yes, if_no, and_left, and_right, and_both, true-not-false}
use Rattle.octets.proofs.Lists.{every-at}
use Rattle.keys.specs.declared.Key.{Key}
use Rattle.keys.specs.Key.{keeps_key, is_no_key}
use Rattle.keys.proofs.Names.{no-key}
use Rattle.rows.proofs.Rules.{no-row}
use Rattle.places.specs.declared.Held.{Held}
use Rattle.rows.specs.declared.Row.{Row}
use Rattle.rows.specs.Answer.{Outcome}
use Rattle.rows.specs.Stream.{word, words}
use Rattle.rows.specs.Row.{keeps_row, is_no_row}
use Rattle.slots.specs.declared.Slot.{Slot}
use Rattle.streams.specs.declared.Table.{Table}
use Rattle.streams.specs.Table.{free_slot, keeps_slot, distinct, keeps_table, keeps_slots, slot_at, with_slot, past_slot, empty}
use Rattle.streams.specs.Calls.{offer, take, force, close}
use Rattle.streams.proofs.Lookups.{Kept}
use Rattle.streams.proofs.Places.{place_at, open-key, every_set, distinct-less, distinct-new}
use Rattle.streams.proofs.Moves.{Move, refusing, moving, opening, freeing, offer-moves, take-moves, force-moves, close-moves}

set_keeps : (t : Table) (i : ℕ) (y : Slot) → Kept t → keeps_slot y ≡ true → distinct (set t.slots i y) ≡ true → keeps_table (with_slot t i y) ≡ true
unfolding keeps_slots
set_keeps t i y g e d = and_both _ _ (eq-eqb _ _ (length-set t.slots i y ∙ g.long)) (and_both _ _ (every_set keeps_slot t.slots i y g.each e) d)

open-slot : (k : Key) (r : Row) → keeps_key k ≡ true → keeps_row r ≡ true → keeps_slot (record { is_open = true; key = k; row = r }) ≡ true
unfolding keeps_slot
open-slot k r e f = and_both _ _ e f

free-slot : keeps_slot free_slot ≡ true
unfolding keeps_slot is_no_key is_no_row
free-slot = refl

key-kept : (x : Slot) → x.is_open ≡ true → keeps_slot x ≡ true → keeps_key x.key ≡ true
unfolding keeps_slot
key-kept x u e = and_left (keeps_key x.key) _ (sym (if_yes _ _ _ u) ∙ e)

next-slot : (x : Slot) (r : Row) → x.is_open ≡ true → keeps_slot x ≡ true → keeps_row r ≡ true → keeps_slot (record { is_open = x.is_open; key = x.key; row = r }) ≡ true
unfolding keeps_slot
next-slot x r u e f = if_yes _ _ _ u ∙ and_both _ _ (key-kept x u e) f

pub move-keeps : {t : Table} {k : Key} {o : Outcome Table} → Move t k o → keeps_table t ≡ true → keeps_table o.after ≡ true
move-keeps (refusing n) e = e
move-keeps {t} {k} (moving {i} o g p u w) e =
    let h = place_at p in
    let x = slot_at t i in
    let s = every-at keeps_slot t.slots i past_slot g.each h.1 in
    set_keeps t i (record { is_open = x.is_open; key = x.key; row = o.after }) g (next-slot x o.after (open-key k x h.0) s w) (distinct-less t.slots i _ g.apart (λ q. (q, refl)))
move-keeps {t} {k} (opening {i} r g p n a w) e = set_keeps t i (record { is_open = true; key = k; row = r }) g (open-slot k r a w) (distinct-new t.slots i k r g.apart n)
move-keeps {t} (freeing {i} g p) e = set_keeps t i free_slot g free-slot (distinct-less t.slots i free_slot g.apart (λ q. true-not-false false q refl))

-- a free row is all zero
pub free-is : (x : Slot) → x.is_open ≡ false → keeps_slot x ≡ true → x ≡ free_slot
unfolding keeps_slot
free-is x u e =
    let f = sym (if_no _ _ _ u) ∙ e in
    let k = no-key x.key (and_left (is_no_key x.key) _ f) in
    let r = no-row x.row (and_right (is_no_key x.key) _ f) in
    λ i. record { is_open = u i; key = k i; row = r i }

-- ---- the theorem, call by call

pub empty-keeps : keeps_table empty ≡ true
unfolding keeps_slots keeps_slot is_no_key is_no_row
empty-keeps = refl

module _ (t : Table) (o s : List ℕ) (e : keeps_table t ≡ true) where
  pub offer-keeps : (m : Held) (time : ℕ) → words m ≡ true → word time ≡ true → keeps_table (offer t o s m time).after ≡ true
  offer-keeps m time v w = move-keeps (offer-moves t o s time w m v) e

  pub take-keeps : (time : ℕ) → word time ≡ true → keeps_table (take t o s time).after ≡ true
  take-keeps time w = move-keeps (take-moves t o s time w) e

  pub force-keeps : (time : ℕ) → word time ≡ true → keeps_table (force t o s time).after ≡ true
  force-keeps time w = move-keeps (force-moves t o s time w) e

  pub close-keeps : keeps_table (close t o s).after ≡ true
  close-keeps = move-keeps (close-moves t o s) e
