-- What the steps of a save come to: the records measured, written one behind the other, and the end behind them.
use Rattle.std.specs.Prelude.{if◌then◌else◌}
use Prim.Native.Nat.{ℕ, ◌+◌, ◌*◌, ◌<◌, ◌≤◌}
use native.Mathlib.Omega.{arith}
use mathlib.Core.Path.{◌≡◌, refl, sym, ap, ◌∙◌}
use mathlib.Core.Bool.{Bool, true, false}
use mathlib.Core.List.{List, [], ◌++◌}
use lib.ListN.{length, drop, get_or, length-append, drop_of_length-le}
use borrow.Author.Tests.{lt-ltb, le-ltb}
use Rattle.octets.specs.Bytes.{front, placed}
use Rattle.octets.proofs.Tests.{if_yes, if_no, no_true, no_false}
use Rattle.octets.proofs.Lists.{drop-next, every-at, placed-none}
use Rattle.refusals.specs.Numbers.{state_broken, buffer_too_short}
use Rattle.keys.proofs.Names.{copied}
use Rattle.slots.specs.declared.Slot.{Slot}
use Rattle.streams.specs.declared.Table.{Table}
use Rattle.streams.specs.Table.{keeps_slot, keeps_table, past_slot}
use Rattle.streams.proofs.Lookups.{kept}
use Rattle.records.specs.Record.{body}
use Rattle.recorder.proofs.Behind.{placed-then, behind}
use Rattle.image.specs.Answer.{written, SaveOutcome, unsaved}
use Rattle.image.specs.Image.{row_mark, end_record, record_of, records_from, open_count, image_of, save_of}
use Rattle.image.proofs.Size.{image-size}

-- ---- one record

module _ (i : ℕ) (x : Slot) where
  pub free-record : x.is_open ≡ false → record_of i x ≡ []
  free-record e = if_no _ _ _ e

  pub open-record : x.is_open ≡ true → record_of i x ≡ row_mark i ++ body.print (x.key, x.row)
  open-record e = if_yes _ _ _ e

  -- the row number has no part in the size
  record-length : length (record_of i x) ≡ length (record_of 0 x)
  record-length = go x.is_open
    where
      go : (b : Bool) → length (if b then row_mark i ++ body.print (x.key, x.row) else []) ≡ length (if b then row_mark 0 ++ body.print (x.key, x.row) else [])
      go true = refl
      go false = refl

  pub record-free : (at : ℕ) (l : List ℕ) → x.is_open ≡ false → at + length (record_of i x) ≤ length l → l ≡ placed (record_of i x) at l
  record-free at l e h = sym (ap (λ (w : List ℕ). placed w at l) (free-record e) ∙ placed-none at l (omega arith))

  pub record-placed : (at : ℕ) (l y z : List ℕ) → x.is_open ≡ true → at + length (record_of i x) ≤ length l → y ≡ placed (row_mark i) at l → z ≡ placed (body.print (x.key, x.row)) (at + 3) y → z ≡ placed (record_of i x) at l
  record-placed at l y z e h p q =
      let s : length (record_of i x) ≡ 3 + length (body.print (x.key, x.row)) = ap length (open-record e) ∙ (omega arith) in
      behind (row_mark i) (body.print (x.key, x.row)) at (at + 3) l y z p q refl (omega arith) ∙ ap (λ (w : List ℕ). placed w at l) (sym (open-record e))

-- ---- the records, as far as they are measured or written

module _ (t : Table) (k : keeps_table t ≡ true) where
  pub slot-keeps : (i : ℕ) → i < 32 → keeps_slot (get_or t.slots i past_slot) ≡ true
  slot-keeps i h = let w = kept t k in every-at keeps_slot t.slots i past_slot w.each (omega (arith, w.long))

  records-next : (i : ℕ) → i < 32 → records_from i (drop i t.slots) ≡ record_of i (get_or t.slots i past_slot) ++ records_from (i + 1) (drop (i + 1) t.slots)
  records-next i h = ap (records_from i) (drop-next t.slots i past_slot (omega (arith, (kept t k).long)))

  -- the records of the rows before i have `sum` bytes
  pub record Sum (sum i : ℕ) : Type 0 where
    pub low : i ≤ 32
    pub most : sum ≤ 481 * i
    pub total : sum + length (records_from i (drop i t.slots)) ≡ length (records_from 0 t.slots)

  pub sum-start : Sum 0 0
  sum-start = record { low = omega arith; most = omega arith; total = omega arith }

  module _ (sum i : ℕ) (g : Sum sum i) where
    pub sum-end : 32 ≤ i → (sum ≡ length (records_from 0 t.slots)) × (sum ≤ 15392)
    sum-end h =
        let z : length (records_from i (drop i t.slots)) ≡ 0 = ap (λ (l : List Slot). length (records_from i l)) (drop_of_length-le t.slots {i = i} (omega (arith, (kept t k).long))) in
        (omega (arith, g.total), omega (arith, g.most, g.low))

    module _ (h : i < 32) where
      abbrev here : Slot
      here = get_or t.slots i past_slot

      splits : length (records_from i (drop i t.slots)) ≡ length (record_of i here) + length (records_from (i + 1) (drop (i + 1) t.slots))
      splits = ap length (records-next i h) ∙ length-append (record_of i here) (records_from (i + 1) (drop (i + 1) t.slots))

      pub sum_room : (out : List ℕ) → length (records_from 0 t.slots) ≤ length out → sum + length (record_of i here) ≤ length out
      sum_room out r = omega (arith, g.total, splits)

      module _ (u : ℕ) (e : u ≡ length (record_of 0 here)) (m : u ≤ 481) where
        pub sum_more : Sum (sum + u) (i + 1)
        sum_more = record { low = omega arith; most = omega (arith, g.most); total = omega (arith, g.total, splits, record-length i here) }

        pub put-more : (out x w : List ℕ) → length (records_from 0 t.slots) ≤ length out → x ≡ placed (record_of i here) sum out → placed (records_from i (drop i t.slots)) sum out ≡ w
            → placed (records_from (i + 1) (drop (i + 1) t.slots)) (sum + u) x ≡ w
        put-more out x w r p q =
            let v = records_from (i + 1) (drop (i + 1) t.slots) in
            let z : sum + u ≡ sum + length (record_of i here) = omega (arith, record-length i here) in
            ap (λ (j : ℕ). placed v j x) z
            ∙ ap (placed v (sum + length (record_of i here))) p
            ∙ placed-then (record_of i here) v sum out (omega (arith, g.total, splits))
            ∙ ap (λ (s : List ℕ). placed s sum out) (sym (records-next i h))
            ∙ q

    pub put_last : (out w : List ℕ) → 32 ≤ i → length (records_from 0 t.slots) ≤ length out → placed (records_from i (drop i t.slots)) sum out ≡ w → out ≡ w
    put_last out w h r q =
        let e : records_from i (drop i t.slots) ≡ [] = ap (records_from i) (drop_of_length-le t.slots {i = i} (omega (arith, (kept t k).long))) in
        sym (placed-none sum out (omega (arith, (sum-end h).0))) ∙ ap (λ (s : List ℕ). placed s sum out) (sym e) ∙ q

-- ---- the save

module _ (t : Table) (out : List ℕ) where
  pub save-broken : (n : ℕ) → keeps_table t ≡ false → n ≡ state_broken → unsaved n out ≡ save_of t out
  unfolding save_of
  save-broken n e z = ap (λ (m : ℕ). unsaved m out) z ∙ sym (if_yes _ _ _ (no_false _ e))

  module _ (k : keeps_table t ≡ true) (size : ℕ) (e : size ≡ length (records_from 0 t.slots)) where
    pub save-short : length out < size + 3 → unsaved buffer_too_short out ≡ save_of t out
    unfolding save_of
    save-short h = sym (if_no _ _ _ (no_true _ k) ∙ if_yes _ _ _ (lt-ltb (length out) (length (image_of t)) (omega (arith, image-size t))))

    pub save-done : (n : ℕ) (x y : List ℕ) → n ≡ open_count t.slots → size + 3 ≤ length out → x ≡ placed (records_from 0 t.slots) 0 out → y ≡ placed (end_record n) size x
        → ◌≡◌ {A = SaveOutcome} (record { answer = written (size + 3); buffer = y }) (save_of t out)
    unfolding save_of image_of
    save-done n x y en h p q =
        let z : size + 3 ≡ length (image_of t) = omega (arith, image-size t) in
        let i = records_from 0 t.slots ++ end_record (open_count t.slots) in
        let b : y ≡ placed i 0 out =
        behind (records_from 0 t.slots) (end_record (open_count t.slots)) 0 size out x y p (q ∙ ap (λ (m : ℕ). placed (end_record m) size x) en) (omega arith) (omega arith) in
        let w : y ≡ front i out = b ∙ copied i out (omega (arith, image-size t)) in
        sym (if_no _ _ _ (no_true _ k) ∙ if_no _ _ _ (le-ltb (length out) (length (image_of t)) (omega arith)) ∙ λ j. record { answer = written (sym z j); buffer = sym w j })
