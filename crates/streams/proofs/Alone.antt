-- THEOREM: once a stream is open, a call on it does what the row by itself does: its answer, and the row after it, depend on that row alone.
use Rattle.std.specs.Prelude.{if◌then◌else◌}
use mathlib.Core.Path.{◌≡◌, refl, sym, ap, ◌∙◌}
use Prim.Native.Nat.{ℕ}
use native.Mathlib.Omega.{arith}
use mathlib.Core.Bool.{Bool, true, false}
use mathlib.Core.List.{List}
use mathlib.Core.Option.{none, some as just}
use mathlib.Core.Logic.{◌⊎◌, inl, inr}
use borrow.Author.Tests.{eqb-true, eqb-false}
use Rattle.octets.specs.Words.{◌=?◌}
use Rattle.keys.specs.declared.Key.{Key}
use Rattle.keys.specs.Key.{key_of, named_of}
use Rattle.callsigns.specs.Callsign.{callsign}
use Rattle.names.specs.Texts.{stream_id}
use Rattle.places.specs.declared.Held.{Held}
use Rattle.rows.specs.declared.Row.{Row}
use Rattle.rows.specs.Answer.{accepted, Outcome, refuse}
use Rattle.rows.specs.Stream.{holds}
use Rattle.rows.specs.Row.{held_in, keeps_row, offer_of, take_of, force_of}
use Rattle.rows.proofs.Expected.{expected-accepted-row}
use Rattle.refusals.specs.Numbers.{still_holding}
use Rattle.streams.specs.declared.Table.{Table}
use Rattle.slot_rules.specs.Slots.{Found}
use Rattle.lookups.specs.Lookup.{Lookup}
use Rattle.streams.specs.Table.{free_slot, has_key, keeps_table, first, slot_at, with_slot}
use Rattle.streams.specs.Calls.{place, look_up, on_row, offer, take, force, close}
use Rattle.streams.specs.Meaning.{row_for}
use Rattle.streams.proofs.Lookups.{kept}
use Rattle.streams.proofs.Places.{Place, place_at, first-place, first-none, row-place, row-none, row-set, row-gone, same-key, free-key}
use Rattle.streams.proofs.Moves.{row_keeps}

-- the outcome o of a call on k is the row's outcome x
pub record Does (k : Key) (x : Outcome Row) (o : Outcome Table) : Type 0 where
  pub answer : o.answer ≡ x.answer
  pub row : row_for k o.after ≡ just x.after

-- the key of two valid names
pub named-is : (o s : List ℕ) → callsign o ≡ true → stream_id s ≡ true → named_of o s ≡ record { refusal = 0; key = key_of o s }
unfolding named_of
named-is o s c d = rw (c, d)

module _ (t : Table) (o s : List ℕ) (e : keeps_table t ≡ true) (c : callsign o ≡ true) (d : stream_id s ≡ true) (r : Row) (h : row_for (key_of o s) t ≡ just r) where
  -- its row is found, and is r
  pub known : (i : ℕ) × (look_up t (named_of o s) ≡ Lookup.Open i) × Place (has_key (key_of o s)) t.slots i × ((slot_at t i).row ≡ r)
  unfolding look_up
  known = rw (named-is o s c d, e) (go (first (has_key (key_of o s)) 0 t.slots) refl)
    where
      go : (f : Found) → f ≡ first (has_key (key_of o s)) 0 t.slots → (i : ℕ) × (place f ≡ Lookup.Open i) × Place (has_key (key_of o s)) t.slots i × ((slot_at t i).row ≡ r)
      go (Found.At i) q = let p = first-place (has_key (key_of o s)) i t.slots q in (i, refl, p, let z = row-place (key_of o s) p in cc)
      go Found.Nothing q =
          let n : row_for (key_of o s) t ≡ none = row-none (key_of o s) t.slots (first-none (has_key (key_of o s)) 0 t.slots q) in
          let z : ◌≡◌ {A = ℕ} 0 1 = cc in
          absurd (omega arith)

  on-known : (f : Row → Outcome Row) (i : ℕ) → Place (has_key (key_of o s)) t.slots i → (slot_at t i).row ≡ r → Does (key_of o s) (f r) (on_row t i (f (slot_at t i).row))
  on-known f i p q =
      let x = slot_at t i in
      record {
        answer = ap (λ (y : Row). (f y).answer) q;
        row = row-set (key_of o s) _ p (same-key (key_of o s) x (f x.row).after ∙ (place_at p).0) ∙ ap (λ (y : Row). just (f y).after) q;
      }

  pub offer-does : (m : Held) (time : ℕ) → Does (key_of o s) (offer_of r m time) (offer t o s m time)
  offer-does m time = let w = known in rw w.1 (on-known (λ y. offer_of y m time) w.0 w.2 w.3)

  pub take-does : (time : ℕ) → Does (key_of o s) (take_of r time) (take t o s time)
  take-does time = let w = known in rw w.1 (on-known (λ y. take_of y time) w.0 w.2 w.3)

  pub force-does : (time : ℕ) → Does (key_of o s) (force_of r time) (force t o s time)
  force-does time = let w = known in rw w.1 (on-known (λ y. force_of y time) w.0 w.2 w.3)

  -- a close frees the row if nothing is held in it, and is refused with 15 otherwise
  pub close-does : ((r.count ≡ 0) × ((close t o s).answer ≡ accepted) × (row_for (key_of o s) (close t o s).after ≡ none)) ⊎ ((close t o s ≡ refuse still_holding t) × (r.count ≡ 0 → ⊥))
  close-does = let w = known in rw w.1 (go w.0 w.2 w.3 ((slot_at t w.0).row.count =? 0) refl)
    where
      go : (i : ℕ) → Place (has_key (key_of o s)) t.slots i → (slot_at t i).row ≡ r → (b : Bool) → ((slot_at t i).row.count =? 0) ≡ b
          → let v = if◌then◌else◌ {A = Outcome Table} b (record { answer = accepted; after = with_slot t i free_slot }) (refuse still_holding t) in
          ((r.count ≡ 0) × (v.answer ≡ accepted) × (row_for (key_of o s) v.after ≡ none)) ⊎ ((v ≡ refuse still_holding t) × (r.count ≡ 0 → ⊥))
      go i p q true n = inl (ap (λ (y : Row). y.count) (sym q) ∙ eqb-true _ _ n, refl, row-gone (key_of o s) free_slot p (kept t e).apart (free-key (key_of o s) free_slot refl))
      go i p q false n = inr (refl, λ z. eqb-false _ _ n (ap (λ (y : Row). y.count) q ∙ z))

  -- the expected number always finds its place
  pub expected-accepted : (m : Held) (time : ℕ) → m.number ≡ r.expected → holds m.number (held_in r) ≡ false → (offer t o s m time).answer ≡ accepted
  expected-accepted m time x n =
      let w = known in
      let g : keeps_row r ≡ true = ap keeps_row (sym w.3) ∙ row_keeps t (key_of o s) w.0 (kept t e) w.2 in
      (offer-does m time).answer ∙ expected-accepted-row r m time g x n
