-- THEOREM: a load accepts exactly the images of tables that keep the rules. The image of such a table is read as that table (`saved_read`);
-- what is read keeps the rules, and its image is the same bytes (`read-saved`).
use Rattle.std.specs.Prelude.{if◌then◌else◌}
use Prim.Native.Nat.{ℕ}
use native.Mathlib.Omega.{arith}
use mathlib.Core.Path.{◌≡◌, refl, sym, ap, ◌∙◌, subst}
use mathlib.Core.Bool.{Bool, true, false}
use mathlib.Core.List.{List, ◌++◌}
use mathlib.Core.Option.{none, some}
use lib.ListN.{length, drop}
use lib.Seq.{drop-append_seam}
use Rattle.octets.specs.Words.{◌and◌}
use Rattle.octets.specs.Bytes.{Bytes, same}
use Rattle.octets.specs.Field.{Res, bad, got}
use Rattle.octets.proofs.Tests.{and_left, and_right}
use Rattle.octets.proofs.Lists.{same_refl, same-eq}
use Rattle.slots.specs.declared.Slot.{Slot}
use Rattle.streams.specs.declared.Table.{Table}
use Rattle.streams.specs.Table.{keeps_table}
use Rattle.streams.proofs.Lookups.{kept}
use Rattle.image.specs.Image.{end_record, records_from, open_count, image_of, slots_from, ended, table_of}
use Rattle.image.proofs.Rows.{rows_back, rows-forth}

pub saved_read : (t : Table) → keeps_table t ≡ true → table_of (image_of t) ≡ some t
unfolding image_of table_of
saved_read t e =
    let k = kept t e in
    let l = t.slots in
    let s = records_from 0 l ++ end_record (open_count l) in
    let b : slots_from 32 0 s ≡ got l (length (records_from 0 l)) = ap (λ (n : ℕ). slots_from n 0 s) (sym k.long) ∙ rows_back l 0 (open_count l) k.each in
    ap (ended s) b ∙ rw (drop-append_seam (records_from 0 l) (end_record (open_count l)), same_refl (end_record (open_count l)), e)

pub record Read (s : List ℕ) (t : Table) : Type 0 where
  pub keeps : keeps_table t ≡ true
  pub is : image_of t ≡ s

chosen : (b : Bool) (t u : Table) → (if b then some t else none) ≡ some u → (b ≡ true) × (t ≡ u)
chosen true t u e = (refl, cc)
chosen false t u e = let z : ◌≡◌ {A = ℕ} 0 1 = cc in absurd (omega arith)

read_by : (s : List ℕ) (t : Table) (y : Res (List Slot)) → slots_from 32 0 s ≡ y → Bytes s → ended s y ≡ some t → Read s t
unfolding image_of
read_by s t bad p hs e = let z : ◌≡◌ {A = ℕ} 0 1 = cc in absurd (omega arith)
read_by s t (got l n) p hs e =
    let u : Table = record { slots = l } in
    let c = chosen (same (drop n s) (end_record (open_count l)) and keeps_table u) u t e in
    let m = same-eq (drop n s) (end_record (open_count l)) (and_left _ _ c.0) in
    subst (Read s) c.1
    (record {
      keeps = and_right (same (drop n s) (end_record (open_count l))) _ c.0;
      is = sym (rows-forth 32 0 s l n hs p ∙ ap (λ (w : List ℕ). records_from 0 l ++ w) m);
    })

pub read-saved : (s : List ℕ) (t : Table) → Bytes s → table_of s ≡ some t → Read s t
unfolding table_of
read-saved s t hs e = read_by s t (slots_from 32 0 s) refl hs e
