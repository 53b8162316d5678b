-- THEOREM: a refusal hands the table back as it came, every row and every clock included.
use mathlib.Core.Path.{◌≡◌, refl, ap, ◌∙◌}
use Prim.Native.Nat.{ℕ}
use mathlib.Core.List.{List}
use lib.Seq.{set-get_or}
use mathlib.Core.Bool.{true}
use Rattle.keys.specs.declared.Key.{Key}
use Rattle.places.specs.declared.Held.{Held}
use Rattle.rows.specs.declared.Row.{Row}
use Rattle.rows.specs.Answer.{Outcome}
use Rattle.rows.specs.Stream.{word, words}
use Rattle.rows.proofs.Refusals.{Unmoved}
use Rattle.slots.specs.declared.Slot.{Slot}
use Rattle.streams.specs.declared.Table.{Table}
use Rattle.streams.specs.Table.{slot_at, with_slot, past_slot}
use Rattle.streams.specs.Calls.{offer, take, force, close}
use Rattle.streams.proofs.Moves.{Move, refusing, moving, opening, freeing, offer-moves, take-moves, force-moves, close-moves}

same_row : (t : Table) (i : ℕ) (r : Row) → r ≡ (slot_at t i).row → with_slot t i (record { is_open = (slot_at t i).is_open; key = (slot_at t i).key; row = r }) ≡ t
same_row t i r e =
    ap {B = Table} (λ (q : Row). with_slot t i (record { is_open = (slot_at t i).is_open; key = (slot_at t i).key; row = q })) e
    ∙ ap {B = Table} (λ (l : List Slot). record { slots = l }) (set-get_or t.slots i past_slot)

pub move-unmoved : {t : Table} {k : Key} {o : Outcome Table} → Move t k o → Unmoved t o
move-unmoved (refusing n) m e = refl
move-unmoved {t} (moving {i} o g p u w) m e = same_row t i o.after (u m e)
move-unmoved (opening r g p n a w) m e = cc
move-unmoved (freeing g p) m e = cc

module _ (t : Table) (o s : List ℕ) where
  pub offer-unmoved : (m : Held) (time : ℕ) → words m ≡ true → word time ≡ true → Unmoved t (offer t o s m time)
  offer-unmoved m time v w = move-unmoved (offer-moves t o s time w m v)

  pub take-unmoved : (time : ℕ) → word time ≡ true → Unmoved t (take t o s time)
  take-unmoved time w = move-unmoved (take-moves t o s time w)

  pub force-unmoved : (time : ℕ) → word time ≡ true → Unmoved t (force t o s time)
  force-unmoved time w = move-unmoved (force-moves t o s time w)

  pub close-unmoved : Unmoved t (close t o s)
  close-unmoved = move-unmoved (close-moves t o s)
