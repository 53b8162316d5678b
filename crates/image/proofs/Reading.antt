-- What the steps of a load come to: the open rows counted, what was read, and the end.
use Rattle.std.specs.Prelude.{Option, Some, None, Result, Ok, Err, if◌then◌else◌}
use Prim.Native.Nat.{ℕ, zero, suc, ◌+◌, ◌≤◌}
use native.Mathlib.Omega.{arith}
use mathlib.Core.Path.{◌≡◌, refl, sym, ap, ◌∙◌, subst}
use mathlib.Core.Bool.{Bool, true, false}
use mathlib.Core.List.{List, [], ◌∷◌}
use mathlib.Core.Option.{none, some}
use lib.ListN.{length, drop, length-drop}
use Rattle.octets.specs.Words.{◌and◌, no}
use Rattle.octets.specs.Bytes.{same}
use Rattle.octets.specs.Field.{Res, bad, got, bind}
use Rattle.octets.proofs.Tests.{if_yes, if_no, no_true, no_false, and_both, and-not-left, and-not-right}
use Rattle.octets.proofs.FieldLaws.{bound}
use Rattle.refusals.specs.declared.Refusal.{Refusal}
use Rattle.refusals.specs.Refusals.{number_of}
use Rattle.refusals.specs.Numbers.{state_broken, no_saved_image}
use Rattle.rows.specs.Answer.{accepted, Outcome, refuse}
use Rattle.slots.specs.declared.Slot.{Slot}
use Rattle.streams.specs.declared.Table.{Table}
use Rattle.streams.specs.Answer.{Counted, counted, uncounted, count_says}
use Rattle.streams.specs.Calls as calls
use Rattle.streams.specs.Table.{keeps_table, keeps_slots}
use Rattle.streams.proofs.Lookups.{kept}
use Rattle.image_rows.specs.declared.RowsRead.{RowsRead}
use Rattle.image_rows.specs.Steps.{rows_read}
use Rattle.records.proofs.Found.{from, rest}
use Rattle.image_rows.proofs.Reading.{slot-takes}
use Rattle.image.specs.Image.{end_record, open_count, slot_from, slots_from, ended, table_of, replaced, load_of}

-- ---- what counting the open rows says of a table

count_most : (l : List Slot) → open_count l ≤ length l
count_most [] = omega arith
count_most (x ∷ l) = go x.is_open (count_most l)
  where
    go : (b : Bool) → open_count l ≤ length l → (if b then 1 else 0) + open_count l ≤ suc (length l)
    go true h = omega arith
    go false h = omega arith

pub record Rules (t : Table) (n : ℕ) : Type 0 where
  pub keeps : keeps_table t ≡ true
  pub rows : n ≡ open_count t.slots
  pub few : n ≤ 32

module _ (t : Table) where
  by_count : (P : Counted → Type 0) → (keeps_table t ≡ false → P (uncounted state_broken)) → (keeps_table t ≡ true → P (counted (open_count t.slots))) → P (calls.open_rows t)
  unfolding calls.open_rows
  by_count P a b = go (keeps_table t) refl
    where
      go : (k : Bool) → keeps_table t ≡ k → P (if no k then uncounted state_broken else counted (open_count t.slots))
      go false e = a e
      go true e = b e

  module _ (c : Result ℕ Refusal) (e : count_says c ≡ calls.open_rows t) where
    pub rules_kept : (n : ℕ) → c ≡ Ok n → Rules t n
    rules_kept n p = by_count (λ (w : Counted). counted n ≡ w → Rules t n) (λ k q. not-counted q) (λ k q. kept-rows k q) (ap count_says (sym p) ∙ e)
      where
        not-counted : {A : Type 0} {m : ℕ} → counted n ≡ uncounted m → A
        not-counted q = let z : ◌≡◌ {A = ℕ} 0 1 = cc in absurd (omega arith)

        kept-rows : keeps_table t ≡ true → counted n ≡ counted (open_count t.slots) → Rules t n
        kept-rows k q =
            let z : n ≡ open_count t.slots = cc in
            record { keeps = k; rows = z; few = omega (arith, count_most t.slots, (kept t k).long) }

    pub no-rules : (why : Refusal) → c ≡ Err why → (keeps_table t ≡ false) × (number_of why ≡ state_broken)
    no-rules why p =
        by_count (λ (w : Counted). uncounted (number_of why) ≡ w → (keeps_table t ≡ false) × (number_of why ≡ state_broken)) (λ k q. (k, same-number q)) (λ k q. not-uncounted q)
        (ap count_says (sym p) ∙ e)
      where
        same-number : {n m : ℕ} → uncounted n ≡ uncounted m → n ≡ m
        same-number q = cc

        not-uncounted : {A : Type 0} {n m : ℕ} → uncounted n ≡ counted m → A
        not-uncounted q = let z : ◌≡◌ {A = ℕ} 0 1 = cc in absurd (omega arith)

-- ---- the load

rows-missed : (s : List ℕ) (x : Res (List Slot)) (r : Option RowsRead) → r ≡ None → r ≡ rows_read x → ended s x ≡ none
rows-missed s bad r p e = refl
rows-missed s (got l n) r p e = go (keeps_slots l) refl (sym p ∙ e)
  where
    go : (b : Bool) → keeps_slots l ≡ b → ◌≡◌ {A = Option RowsRead} None (if b then Some (record { table = record { slots = l }; rows = open_count l; used = n }) else None) → ended s (got l n) ≡ none
    go true k q = cc
    go false k q = if_no _ _ _ (and-not-right (same (drop n s) (end_record (open_count l))) _ k)

rows-found : (x : Res (List Slot)) (y : RowsRead) (r : Option RowsRead) → r ≡ Some y → r ≡ rows_read x → (x ≡ got y.table.slots y.used) × Rules y.table y.rows
rows-found bad y r p e = let z : ◌≡◌ {A = ℕ} 0 1 = cc in absurd (omega arith)
rows-found (got l n) y r p e = go (keeps_slots l) refl (sym p ∙ e)
  where
    read : RowsRead
    read = record { table = record { slots = l }; rows = open_count l; used = n }

    is : keeps_table (record { slots = l }) ≡ true → (got l n ≡ got read.table.slots read.used) × Rules read.table read.rows
    is k = (refl, record { keeps = k; rows = refl; few = omega (arith, count_most l, (kept (record { slots = l }) k).long) })

    go : (b : Bool) → keeps_slots l ≡ b → Some y ≡ (if b then Some read else None) → (got l n ≡ got y.table.slots y.used) × Rules y.table y.rows
    go true k q =
        let z : y ≡ read = cc in
        subst (λ (w : RowsRead). (got l n ≡ got w.table.slots w.used) × Rules w.table w.rows) (sym z) (is k)
    go false k q = let z : ◌≡◌ {A = ℕ} 0 1 = cc in absurd (omega arith)

rows_take : (k i : ℕ) (s : List ℕ) (l : List Slot) (n : ℕ) → slots_from k i s ≡ got l n → n ≤ length s
rows_take zero i s l n e = let en : n ≡ 0 = cc in omega arith
rows_take (suc k) i s l n e =
    let b1 = bound (slot_from i s) (λ x a. bind (slots_from k (i + 1) (drop a s)) (λ r m. got (x ∷ r) (a + m))) l n e in
    let b2 = bound (slots_from k (i + 1) (drop b1.used s)) (λ r m. got (b1.val ∷ r) (b1.used + m)) l n b1.next in
    let em : n ≡ b1.used + b2.used = cc in
    omega (arith, slot-takes i s b1.val b1.used b1.first, rows_take k (i + 1) (drop b1.used s) b2.val b2.used b2.first, length-drop b1.used s)

module _ (t : Table) (s : List ℕ) where
  pub load-broken : (n : ℕ) → keeps_table t ≡ false → n ≡ state_broken → refuse n t ≡ load_of t s
  unfolding load_of
  load-broken n e z = ap {B = Outcome Table} (λ (m : ℕ). refuse m t) z ∙ sym (if_yes _ _ _ (no_false _ e))

  module _ (k : keeps_table t ≡ true) (o : Option RowsRead) (eo : o ≡ rows_read (slots_from 32 0 s)) where
    pub load-bad : o ≡ None → refuse no_saved_image t ≡ load_of t s
    unfolding load_of table_of
    load-bad q = sym (if_no _ _ _ (no_true _ k) ∙ ap (replaced t) (rows-missed s (slots_from 32 0 s) o q eo))

    module _ (r : RowsRead) (q : o ≡ Some r) where
      read : slots_from 32 0 s ≡ got r.table.slots r.used
      read = (rows-found (slots_from 32 0 s) r o q eo).0

      pub load-rules : Rules r.table r.rows
      load-rules = (rows-found (slots_from 32 0 s) r o q eo).1

      pub load-room : r.used ≤ length s
      load-room = rows_take 32 0 s r.table.slots r.used read

      abbrev good : Bool
      good = same (drop r.used s) (end_record (open_count r.table.slots)) and keeps_table r.table

      load-by : load_of t s ≡ replaced t (if good then some r.table else none)
      unfolding load_of table_of
      load-by = if_no _ _ _ (no_true _ k) ∙ ap (λ (x : Res (List Slot)). replaced t (ended s x)) read

      module _ (b : Bool) (eb : b ≡ same (from r.used s) (end_record r.rows)) where
        end_is : same (drop r.used s) (end_record (open_count r.table.slots)) ≡ b
        end_is = ap (λ (l : List ℕ). same l (end_record (open_count r.table.slots))) (sym (rest r.used s)) ∙ ap (λ (m : ℕ). same (from r.used s) (end_record m)) (sym load-rules.rows) ∙ sym eb

        pub load-end : b ≡ false → refuse no_saved_image t ≡ load_of t s
        load-end e = sym (load-by ∙ ap (replaced t) (if_no _ _ _ (and-not-left _ (keeps_table r.table) (end_is ∙ e))))

        pub load-yes : b ≡ true → ◌≡◌ {A = Outcome Table} (record { answer = accepted; after = r.table }) (load_of t s)
        load-yes e = sym (load-by ∙ ap (replaced t) (if_yes _ _ _ (and_both _ _ (end_is ∙ e) load-rules.keeps)))
