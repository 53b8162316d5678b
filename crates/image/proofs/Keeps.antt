-- THEOREMS: a load returns a table that keeps the rules, if it was handed one; a load that is refused leaves the table, and a save that is
-- refused the buffer.
use Rattle.std.specs.Prelude.{if◌then◌else◌}
use Prim.Native.Nat.{ℕ}
use native.Mathlib.Omega.{arith}
use mathlib.Core.Path.{◌≡◌, refl, sym, ap, ◌∙◌}
use mathlib.Core.Bool.{Bool, true, false}
use mathlib.Core.List.{List}
use mathlib.Core.Option.{none, some}
use lib.ListN.{drop}
use Rattle.octets.specs.Words.{◌and◌}
use Rattle.octets.specs.Bytes.{same}
use Rattle.octets.specs.Field.{Res, bad, got}
use Rattle.octets.proofs.Tests.{and_right}
use Rattle.rows.specs.Answer.{accepted, refused, Outcome}
use Rattle.slots.specs.declared.Slot.{Slot}
use Rattle.streams.specs.declared.Table.{Table}
use Rattle.streams.specs.Table.{keeps_table}
use Rattle.image.specs.Answer.{written, unwritten, SaveOutcome}
use Rattle.image.specs.Image.{end_record, open_count, slots_from, ended, table_of, save_of, load_of}
use Rattle.image.proofs.Cases.{by-save, by-load}

kept_by : (s : List ℕ) (t : Table) (y : Res (List Slot)) → ended s y ≡ some t → keeps_table t ≡ true
kept_by s t bad e = let z : ◌≡◌ {A = ℕ} 0 1 = cc in absurd (omega arith)
kept_by s t (got l n) e = go (same (drop n s) (end_record (open_count l)) and keeps_table (record { slots = l })) refl e
  where
    go : (b : Bool) → same (drop n s) (end_record (open_count l)) and keeps_table (record { slots = l }) ≡ b → (if b then some (record { slots = l }) else none) ≡ some t → keeps_table t ≡ true
    go true p e =
        let f : ◌≡◌ {A = Table} (record { slots = l }) t = cc in
        ap keeps_table (sym f) ∙ and_right (same (drop n s) (end_record (open_count l))) _ p
    go false p e = let z : ◌≡◌ {A = ℕ} 0 1 = cc in absurd (omega arith)

-- a table that was read keeps the rules
pub table-keeps : (s : List ℕ) (t : Table) → table_of s ≡ some t → keeps_table t ≡ true
unfolding table_of
table-keeps s t e = kept_by s t (slots_from 32 0 s) e

pub load-keeps : (present : Table) (s : List ℕ) → keeps_table present ≡ true → keeps_table (load_of present s).after ≡ true
load-keeps present s e = by-load present s (λ (o : Outcome Table). keeps_table o.after ≡ true) (λ p. e) (λ p q. e) (λ u p q. table-keeps s u q)

pub load-refused : (present : Table) (s : List ℕ) (n : ℕ) → (load_of present s).answer ≡ refused n → (load_of present s).after ≡ present
load-refused present s n =
    by-load present s (λ (o : Outcome Table). o.answer ≡ refused n → o.after ≡ present) (λ p e. refl) (λ p q e. refl) (λ u p q e. absurd-answer e)
  where
    absurd-answer : {A : Type 0} → accepted ≡ refused n → A
    absurd-answer e = let z : ◌≡◌ {A = ℕ} 0 1 = cc in absurd (omega arith)

pub save-refused : (t : Table) (buffer : List ℕ) (n : ℕ) → (save_of t buffer).answer ≡ unwritten n → (save_of t buffer).buffer ≡ buffer
save-refused t buffer n = by-save t buffer (λ (o : SaveOutcome). o.answer ≡ unwritten n → o.buffer ≡ buffer) (λ p e. refl) (λ p q e. refl) (λ p q e. absurd-answer e)
  where
    absurd-answer : {A : Type 0} {m : ℕ} → written m ≡ unwritten n → A
    absurd-answer e = let z : ◌≡◌ {A = ℕ} 0 1 = cc in absurd (omega arith)
