-- The rows of an image: what is written of them is read back, and what was read is what would be written.
use Rattle.std.specs.Prelude.{if◌then◌else◌}
use Prim.Native.Nat.{ℕ, zero, suc, ◌+◌, ◌<◌}
use native.Mathlib.Omega.{arith}
use mathlib.Core.Path.{◌≡◌, refl, sym, ap, ◌∙◌}
use mathlib.Core.Bool.{Bool, true, false}
use mathlib.Core.List.{List, [], ◌∷◌, ◌++◌, append_assoc}
use mathlib.Core.Logic.{◌⊎◌, inl, inr}
use lib.ListN.{length, take, drop, length-append, take-append-drop}
use lib.Seq.{drop-append_seam, drop-drop}
use borrow.Author.Tests.{eq-eqb, ne_eqb}
use Rattle.octets.specs.Words.{every}
use Rattle.octets.specs.Bytes.{Bytes, same}
use Rattle.octets.specs.Field.{got, bind}
use Rattle.octets.proofs.Tests.{if_yes, if_no, and_left, and_right}
use Rattle.octets.proofs.Lists.{same-eq}
use Rattle.octets.proofs.NumberLaws.{bytes_drop}
use Rattle.octets.proofs.FieldLaws.{bound}
use Rattle.keys.specs.Key.{keeps_key, is_no_key}
use Rattle.keys.proofs.Names.{no-key}
use Rattle.rows.specs.Row.{keeps_row}
use Rattle.rows.proofs.Rules.{no-row}
use Rattle.slots.specs.declared.Slot.{Slot}
use Rattle.streams.specs.Table.{free_slot, keeps_slot}
use Rattle.records.specs.Record.{body}
use Rattle.records.proofs.Laws.{body-laws, body-good, body-tidy}
use Rattle.image.specs.Image.{row_mark, end_record, record_of, records_from, open_slot, slot_from, slots_from}

-- ---- a slot that keeps its rules

-- an open row with a key and a row that keep theirs, or a free row
pub record Open (x : Slot) : Type 0 where
  pub used : x.is_open ≡ true
  pub key : keeps_key x.key ≡ true
  pub row : keeps_row x.row ≡ true

pub open-or-free : (x : Slot) → keeps_slot x ≡ true → Open x ⊎ (x ≡ free_slot)
unfolding keeps_slot
open-or-free x e = go x.is_open refl
  where
    go : (b : Bool) → x.is_open ≡ b → Open x ⊎ (x ≡ free_slot)
    go true u =
        let f = sym (if_yes _ _ _ u) ∙ e in
        inl (record { used = u; key = and_left (keeps_key x.key) _ f; row = and_right (keeps_key x.key) _ f })
    go false u =
        let f = sym (if_no _ _ _ u) ∙ e in
        let k = no-key x.key (and_left (is_no_key x.key) _ f) in
        let r = no-row x.row (and_right (is_no_key x.key) _ f) in
        inr (λ i. record { is_open = u i; key = k i; row = r i })

-- ---- marks

marked-own : (i : ℕ) (s : List ℕ) → same (take 3 (row_mark i ++ s)) (row_mark i) ≡ true
marked-own i s = rw (eq-eqb i i refl)

-- behind the rows from i on and the end record no mark of an earlier row stands
unmarked : (l : List Slot) (i j n : ℕ) → j < i → same (take 3 (records_from i l ++ end_record n)) (row_mark j) ≡ false
unmarked [] i j n h = refl
unmarked (x ∷ l) i j n h = go x.is_open (unmarked l (i + 1) j n (omega arith))
  where
    go : (b : Bool) → same (take 3 (records_from (i + 1) l ++ end_record n)) (row_mark j) ≡ false
        → same (take 3 (((if b then row_mark i ++ body.print (x.key, x.row) else []) ++ records_from (i + 1) l) ++ end_record n)) (row_mark j) ≡ false
    go true r = rw (ne_eqb i j (λ e. omega arith))
    go false r = r

-- ---- what is written is read back

printed : (x : Slot) (i : ℕ) → x.is_open ≡ true → record_of i x ≡ row_mark i ++ body.print (x.key, x.row)
printed x i e = if_yes _ _ _ e

reopened : (x : Slot) → x.is_open ≡ true → open_slot (x.key, x.row) ≡ x
reopened x e = λ i. record { is_open = sym e i; key = x.key; row = x.row }

slot-back : (x : Slot) (i : ℕ) (s : List ℕ) → keeps_slot x ≡ true → same (take 3 s) (row_mark i) ≡ false → slot_from i (record_of i x ++ s) ≡ got x (length (record_of i x))
slot-back x i s e q = go (open-or-free x e)
  where
    go : Open x ⊎ (x ≡ free_slot) → slot_from i (record_of i x ++ s) ≡ got x (length (record_of i x))
    go (inl o) =
        let b = body-laws.back (x.key, x.row) s (body-good x.key x.row o.key o.row) in
        rw (printed x i o.used, marked-own i (body.print (x.key, x.row) ++ s), b, body-tidy x.key x.row o.key o.row, reopened x o.used)
        (ap (got x) (omega arith))
    go (inr f) = rw (f, q)

pub rows_back : (l : List Slot) (i n : ℕ) → every keeps_slot l ≡ true → slots_from (length l) i (records_from i l ++ end_record n) ≡ got l (length (records_from i l))
rows_back [] i n e = refl
rows_back (x ∷ l) i n e =
    let b = slot-back x i (records_from (i + 1) l ++ end_record n) (and_left (keeps_slot x) _ e) (unmarked l (i + 1) i n (omega arith)) in
    rw (append_assoc, b, drop-append_seam, rows_back l (i + 1) n (and_right (keeps_slot x) _ e), length-append)

-- ---- what was read is what would be written

mark-stands : (i : ℕ) (s : List ℕ) → same (take 3 s) (row_mark i) ≡ true → s ≡ row_mark i ++ drop 3 s
mark-stands i s e = sym (take-append-drop 3 s) ∙ ap (λ (l : List ℕ). l ++ drop 3 s) (same-eq (take 3 s) (row_mark i) e)

moved : (i : ℕ) (s : List ℕ) (x y : Slot) (n m : ℕ) → x ≡ y → n ≡ m → s ≡ record_of i y ++ drop m s → s ≡ record_of i x ++ drop n s
moved i s x y n m e f r = rw (e, f) r

slot-forth : (i : ℕ) (s : List ℕ) (x : Slot) (n : ℕ) → Bytes s → slot_from i s ≡ got x n → s ≡ record_of i x ++ drop n s
slot-forth i s x n hs = go (same (take 3 s) (row_mark i)) refl
  where
    go : (b : Bool) → same (take 3 s) (row_mark i) ≡ b → (if b then bind (body.parse (drop 3 s)) (λ y k. got (open_slot y) (3 + k)) else got free_slot 0) ≡ got x n
        → s ≡ record_of i x ++ drop n s
    go false m e =
        let ex : x ≡ free_slot = cc in
        let en : n ≡ 0 = cc in
        moved i s x free_slot n 0 ex en refl
    go true m e =
        let b = bound (body.parse (drop 3 s)) (λ y k. got (open_slot y) (3 + k)) x n e in
        let r = body-laws.forth (drop 3 s) b.val b.used (bytes_drop 3 s hs) b.first in
        let ex : x ≡ open_slot b.val = cc in
        let en : n ≡ 3 + b.used = cc in
        moved i s x (open_slot b.val) n (3 + b.used) ex en
        (mark-stands i s m ∙ ap (λ (l : List ℕ). row_mark i ++ l) (r.same ∙ ap (λ (l : List ℕ). body.print b.val ++ l) (drop-drop b.used 3 s)))

all_moved : (i : ℕ) (s : List ℕ) (l r : List Slot) (n m : ℕ) → l ≡ r → n ≡ m → s ≡ records_from i r ++ drop m s → s ≡ records_from i l ++ drop n s
all_moved i s l r n m e f q = rw (e, f) q

pub rows-forth : (k i : ℕ) (s : List ℕ) (l : List Slot) (n : ℕ) → Bytes s → slots_from k i s ≡ got l n → s ≡ records_from i l ++ drop n s
rows-forth zero i s l n hs e =
    let el : l ≡ [] = cc in
    let en : n ≡ 0 = cc in
    all_moved i s l [] n 0 el en refl
rows-forth (suc k) i s l n hs e =
    let b1 = bound (slot_from i s) (λ x a. bind (slots_from k (i + 1) (drop a s)) (λ r m. got (x ∷ r) (a + m))) l n e in
    let b2 = bound (slots_from k (i + 1) (drop b1.used s)) (λ r m. got (b1.val ∷ r) (b1.used + m)) l n b1.next in
    let r = slot-forth i s b1.val b1.used hs b1.first in
    let q = rows-forth k (i + 1) (drop b1.used s) b2.val b2.used (bytes_drop b1.used s hs) b2.first in
    let el : l ≡ b1.val ∷ b2.val = cc in
    let en : n ≡ b1.used + b2.used = cc in
    all_moved i s l (b1.val ∷ b2.val) n (b1.used + b2.used) el en
    (r ∙ ap (λ (w : List ℕ). record_of i b1.val ++ w) (q ∙ ap (λ (w : List ℕ). records_from (i + 1) b2.val ++ w) (drop-drop b2.used b1.used s)) ∙ sym (append_assoc (record_of i b1.val) (records_from (i + 1) b2.val) _))
