-- THEOREM: the image of a table that keeps the rules has at most 15,395 bytes.
use Prim.Native.Nat.{ℕ, ◌+◌, ◌*◌, ◌≤◌}
use native.Mathlib.Omega.{arith}
use mathlib.Core.Path.{◌≡◌, ap, ◌∙◌}
use mathlib.Core.Bool.{true}
use mathlib.Core.List.{List, [], ◌∷◌, ◌++◌}
use mathlib.Core.Logic.{◌⊎◌, inl, inr}
use lib.ListN.{length, length-append}
use Rattle.octets.specs.Words.{every}
use Rattle.octets.proofs.Tests.{if_yes, and_left, and_right}
use Rattle.slots.specs.declared.Slot.{Slot}
use Rattle.streams.specs.declared.Table.{Table}
use Rattle.streams.specs.Table.{free_slot, keeps_slot, keeps_table}
use Rattle.streams.proofs.Lookups.{kept}
use Rattle.records.specs.Record.{body}
use Rattle.records.proofs.Laws.{body-most}
use Rattle.image.specs.Image.{row_mark, end_record, record_of, records_from, open_count, image_of}
use Rattle.image.proofs.Rows.{Open, open-or-free}

-- a row's record has at most 481
pub record-most : (i : ℕ) (x : Slot) → keeps_slot x ≡ true → length (record_of i x) ≤ 481
record-most i x e = go (open-or-free x e)
  where
    go : Open x ⊎ (x ≡ free_slot) → length (record_of i x) ≤ 481
    go (inl o) =
        let p = ap length (if_yes _ (row_mark i ++ body.print (x.key, x.row)) [] o.used) in
        omega (arith, p, body-most x.key x.row o.key o.row)
    go (inr f) = let p : length (record_of i x) ≡ 0 = ap (λ (y : Slot). length (record_of i y)) f in omega arith

pub records-most : (i : ℕ) (l : List Slot) → every keeps_slot l ≡ true → length (records_from i l) ≤ 481 * length l
records-most i [] e = omega arith
records-most i (x ∷ l) e =
    omega (arith, length-append (record_of i x) (records_from (i + 1) l), record-most i x (and_left (keeps_slot x) _ e), records-most (i + 1) l (and_right (keeps_slot x) _ e))

pub image-size : (t : Table) → length (image_of t) ≡ 3 + length (records_from 0 t.slots)
unfolding image_of
image-size t = length-append (records_from 0 t.slots) (end_record (open_count t.slots)) ∙ (omega arith)

pub image-most : (t : Table) → keeps_table t ≡ true → length (image_of t) ≤ 15395
image-most t e = let k = kept t e in omega (arith, image-size t, records-most 0 t.slots k.each, k.long)
