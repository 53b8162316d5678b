-- THEOREM: a call on one key leaves the row of every other key as it was, and at its row number.
use mathlib.Core.Path.{◌≡◌, refl, ap, ◌∙◌}
use Prim.Native.Nat.{ℕ}
use mathlib.Core.Bool.{true, false}
use mathlib.Core.List.{List}
use lib.ListN.{get_or, set}
use lib.Seq.{get_or-set_other}
use Rattle.octets.proofs.Tests.{true-not-false}
use Rattle.keys.specs.declared.Key.{Key}
use Rattle.keys.specs.Key.{same_key, named_of}
use Rattle.places.specs.declared.Held.{Held}
use Rattle.rows.specs.Answer.{Outcome}
use Rattle.rows.specs.Stream.{word, words}
use Rattle.slots.specs.declared.Slot.{Slot}
use Rattle.streams.specs.declared.Table.{Table}
use Rattle.streams.specs.Table.{free_slot, has_key, slot_at, past_slot}
use Rattle.streams.specs.Calls.{offer, take, force, close}
use Rattle.streams.specs.Meaning.{row_for}
use Rattle.streams.proofs.Places.{place_at, one_key, free-key, own_key, same-key, row_other, not_free}
use Rattle.streams.proofs.Moves.{Move, refusing, moving, opening, freeing, offer-moves, take-moves, force-moves, close-moves}

pub move-others : {t : Table} {k : Key} {o : Outcome Table} → Move t k o → (j : Key) → same_key j k ≡ false → row_for j o.after ≡ row_for j t
move-others (refusing n) j d = refl
move-others {t} {k} (moving {i} o g p u w) j d =
    let x = slot_at t i in
    let h = one_key j k x d (place_at p).0 in
    row_other j t.slots i _ h (same-key j x o.after ∙ h)
move-others {t} {k} (opening {i} r g p n a w) j d = row_other j t.slots i _ (free-key j (slot_at t i) (not_free _ (place_at p).0)) (one_key j k _ d (own_key k r))
move-others {t} {k} (freeing {i} g p) j d = row_other j t.slots i free_slot (one_key j k (slot_at t i) d (place_at p).0) (free-key j free_slot refl)

-- a slot that has another key is not the one that the call sets
not_there : (j : Key) (l : List Slot) (i n : ℕ) (y : Slot) → has_key j (get_or l i past_slot) ≡ false → has_key j (get_or l n past_slot) ≡ true → get_or (set l i y) n past_slot ≡ get_or l n past_slot
not_there j l i n y d h = get_or-set_other l i n y past_slot (λ e. true-not-false (has_key j (get_or l n past_slot)) h (ap (λ (m : ℕ). has_key j (get_or l m past_slot)) e ∙ d))

pub move-places : {t : Table} {k : Key} {o : Outcome Table} → Move t k o → (j : Key) → same_key j k ≡ false → (n : ℕ) → has_key j (slot_at t n) ≡ true → slot_at o.after n ≡ slot_at t n
move-places (refusing m) j d n h = refl
move-places {t} {k} (moving {i} o g p u w) j d n h = not_there j t.slots i n _ (one_key j k (slot_at t i) d (place_at p).0) h
move-places {t} {k} (opening {i} r g p m a w) j d n h = not_there j t.slots i n _ (free-key j (slot_at t i) (not_free _ (place_at p).0)) h
move-places {t} {k} (freeing {i} g p) j d n h = not_there j t.slots i n free_slot (one_key j k (slot_at t i) d (place_at p).0) h

module _ (t : Table) (o s : List ℕ) (j : Key) (d : same_key j (named_of o s).key ≡ false) where
  pub offer-others : (m : Held) (time : ℕ) → words m ≡ true → word time ≡ true → row_for j (offer t o s m time).after ≡ row_for j t
  offer-others m time v w = move-others (offer-moves t o s time w m v) j d

  pub take-others : (time : ℕ) → word time ≡ true → row_for j (take t o s time).after ≡ row_for j t
  take-others time w = move-others (take-moves t o s time w) j d

  pub force-others : (time : ℕ) → word time ≡ true → row_for j (force t o s time).after ≡ row_for j t
  force-others time w = move-others (force-moves t o s time w) j d

  pub close-others : row_for j (close t o s).after ≡ row_for j t
  close-others = move-others (close-moves t o s) j d
