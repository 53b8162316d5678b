-- What the steps of reading the rows come to: a row by its mark, and the rows one after the other.
use Rattle.std.specs.Prelude.{Option, Some, None, if◌then◌else◌}
use Prim.Native.Nat.{ℕ, suc, ◌+◌, ◌-◌, ◌<◌, ◌≤◌}
use native.Mathlib.Omega.{arith}
use mathlib.Core.Path.{◌≡◌, refl, sym, ap, ◌∙◌}
use mathlib.Core.Bool.{Bool, true, false}
use mathlib.Core.List.{List, ◌∷◌, append-nil}
use lib.ListN.{length, take, drop, set, length-set, length-drop, length-take}
use lib.Seq.{take_all, drop-drop}
use Rattle.octets.specs.Words.{no}
use Rattle.octets.specs.Bytes.{same}
use Rattle.octets.specs.Field.{Res, bad, got, bind}
use Rattle.octets.proofs.Tests.{if_yes, if_no}
use Rattle.octets.proofs.Lists.{same_length}
use Rattle.octets.proofs.FieldLaws.{bound}
use Rattle.keys.specs.declared.Key.{Key}
use Rattle.rows.specs.declared.Row.{Row}
use Rattle.slots.specs.declared.Slot.{Slot}
use Rattle.slot_rules.specs.declared.Ruled.{Ruled}
use Rattle.slot_rules.specs.Slots.{place_of, test_of}
use Rattle.streams.specs.Table.{free_slot, is_free, has_key, keeps_slots, first, open_count}
use Rattle.records.specs.Record.{body}
use Rattle.records.proofs.Laws.{body-laws}
use Rattle.records.proofs.Turns.{after, after_none, after_turn, taken_more}
use Rattle.image_rows.specs.declared.RowsRead.{RowsRead}
use Rattle.image_rows.specs.Rows.{row_mark, open_slot, slot_from, slots_from}
use Rattle.image_rows.specs.Steps.{rows_read}

-- ---- a row by its mark

marked-room : (i : ℕ) (s : List ℕ) → same (take 3 s) (row_mark i) ≡ true → 3 ≤ length s
marked-room i s e = let z : length (take 3 s) ≡ 3 = same_length (take 3 s) (row_mark i) e in omega (arith, length-take 3 s)

module _ (i : ℕ) (s : List ℕ) where
  pub slot-free : same (take 3 s) (row_mark i) ≡ false → slot_from i s ≡ got free_slot 0
  slot-free e = if_no _ _ _ e

  module _ (m : same (take 3 s) (row_mark i) ≡ true) where
    pub slot-start : 3 ≤ length s
    slot-start = marked-room i s m

    pub slot-bad : body.parse (drop 3 s) ≡ bad → slot_from i s ≡ bad
    slot-bad e = if_yes _ _ _ m ∙ rw e

    module _ (x : Key × Row) (n : ℕ) (e : body.parse (drop 3 s) ≡ got x n) where
      pub slot-got : slot_from i s ≡ got (open_slot x) (3 + n)
      slot-got = if_yes _ _ _ m ∙ rw e

      pub slot-room : 3 + n ≤ length s
      slot-room = omega (arith, body-laws.room (drop 3 s) x n e, length-drop 3 s, slot-start)

-- what a row takes is there
pub slot-takes : (i : ℕ) (s : List ℕ) (x : Slot) (n : ℕ) → slot_from i s ≡ got x n → n ≤ length s
slot-takes i s x n = go (same (take 3 s) (row_mark i)) refl
  where
    go : (b : Bool) → same (take 3 s) (row_mark i) ≡ b → (if b then bind (body.parse (drop 3 s)) (λ y k. got (open_slot y) (3 + k)) else got free_slot 0) ≡ got x n → n ≤ length s
    go false m e = let z : n ≡ 0 = cc in omega arith
    go true m e =
        let b = bound (body.parse (drop 3 s)) (λ y k. got (open_slot y) (3 + k)) x n e in
        let z : n ≡ 3 + b.used = cc in
        omega (arith, body-laws.room (drop 3 s) b.val b.used b.first, length-drop 3 s, marked-room i s m)

-- ---- the rows, as far as they are read: what stands behind them decides

module _ (d : List ℕ) where
  pub record Walk (slots : List Slot) (at i : ℕ) : Type 0 where
    pub low : i ≤ 32
    pub room : at ≤ length d
    pub size : length slots ≡ 32
    pub left : slots_from 32 0 d ≡ after (take i slots) at (slots_from (32 - i) i (drop at d))

  pub walk_start : (z : List Slot) → length z ≡ 32 → Walk z 0 0
  walk_start z e = record { low = omega arith; room = omega arith; size = e; left = after_none (slots_from 32 0 d) }

  module _ (slots : List Slot) (at i : ℕ) (g : Walk slots at i) (h : i < 32) where
    step : slots_from (32 - i) i (drop at d) ≡ bind (slot_from i (drop at d)) (λ x n. bind (slots_from (32 - (i + 1)) (i + 1) (drop n (drop at d))) (λ l m. got (x ∷ l) (n + m)))
    step = ap (λ (n : ℕ). slots_from n i (drop at d)) (let e : 32 - i ≡ suc (32 - (i + 1)) = omega arith in e)

    pub walk-bad : slot_from i (drop at d) ≡ bad → slots_from 32 0 d ≡ bad
    walk-bad e = g.left ∙ rw (step, e)

    module _ (x : Slot) (u : ℕ) (e : slot_from i (drop at d) ≡ got x u) where
      pub walk-room : at + u ≤ length d
      walk-room = omega (arith, g.room, slot-takes i (drop at d) x u e, length-drop at d)

      pub walk_more : Walk (set slots i x) (at + u) (i + 1)
      walk_more =
          let y : Res (List Slot) = slots_from (32 - (i + 1)) (i + 1) (drop u (drop at d)) in
          record {
            low = omega arith;
            room = walk-room;
            size = length-set slots i x ∙ g.size;
            left = g.left
                ∙ rw (step, e) (after_turn (take i slots) at x u y)
                ∙ ap (λ (q : List Slot). after q (at + u) y) (sym (taken_more slots i x (omega (arith, g.size))))
                ∙ ap (λ (q : List ℕ). after (take (i + 1) (set slots i x)) (at + u) (slots_from (32 - (i + 1)) (i + 1) q)) (drop-drop u at d);
          }

  pub walk_end : (slots : List Slot) (at i : ℕ) → Walk slots at i → 32 ≤ i → slots_from 32 0 d ≡ got slots at
  walk_end slots at i g h =
      g.left
      ∙ ap (λ (n : ℕ). after (take i slots) at (slots_from n i (drop at d))) (let e : 32 - i ≡ 0 = omega arith in e)
      ∙ ap (λ (q : List Slot). got q (at + 0)) (append-nil (take i slots) ∙ take_all i slots (omega (arith, g.size)))
      ∙ ap (got slots) (let e : at + 0 ≡ at = omega arith in e)

-- ---- the rules of the rows together

module _ (l : List Slot) (n : ℕ) (k : Key) (o : Option Ruled) (e : o ≡ test_of l k) where
  abbrev ruled : Ruled
  ruled = record { found = place_of (first (has_key k) 0 l); free = place_of (first is_free 0 l); rows = open_count l }

  abbrev whole : RowsRead
  whole = record { table = record { slots = l }; rows = open_count l; used = n }

  pub rules-broken : o ≡ None → ◌≡◌ {A = Option RowsRead} None (rows_read (got l n))
  unfolding test_of
  rules-broken p = go (keeps_slots l) (sym p ∙ e)
    where
      go : (b : Bool) → ◌≡◌ {A = Option Ruled} None (if no b then None else Some ruled) → ◌≡◌ {A = Option RowsRead} None (if b then Some whole else None)
      go true q = cc
      go false q = refl

  pub rules-kept : (r : Ruled) → o ≡ Some r → ◌≡◌ {A = Option RowsRead} (Some (record { table = record { slots = l }; rows = r.rows; used = n })) (rows_read (got l n))
  unfolding test_of
  rules-kept r p = go (keeps_slots l) (sym p ∙ e)
    where
      go : (b : Bool) → Some r ≡ (if no b then None else Some ruled)
          → ◌≡◌ {A = Option RowsRead} (Some (record { table = record { slots = l }; rows = r.rows; used = n })) (if b then Some whole else None)
      go true q = let z : r ≡ ruled = cc in ap {B = Option RowsRead} (λ (x : Ruled). Some (record { table = record { slots = l }; rows = x.rows; used = n })) z
      go false q = cc
