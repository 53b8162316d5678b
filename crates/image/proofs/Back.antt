-- THEOREMS: save, then load, gives the same table, whatever good table is present; an accepted image, saved again, is the same bytes, so two
-- different images never load to the same table.
use Prim.Native.Nat.{ℕ}
use native.Mathlib.Omega.{arith}
use mathlib.Core.Path.{◌≡◌, refl, sym, ap, ◌∙◌}
use mathlib.Core.Bool.{true}
use mathlib.Core.List.{List}
use mathlib.Core.Option.{some}
use lib.ListN.{length, take}
use lib.Seq.{take-append_seam}
use Rattle.octets.specs.Bytes.{Bytes, front}
use Rattle.rows.specs.Answer.{accepted, refused, Outcome}
use Rattle.streams.specs.declared.Table.{Table}
use Rattle.streams.specs.Table.{keeps_table}
use Rattle.image.specs.Answer.{written, unwritten, SaveOutcome}
use Rattle.image.specs.Image.{image_of, table_of, save_of, replaced, load_of}
use Rattle.image.proofs.Cases.{by-save, by-load}
use Rattle.image.proofs.Exact.{saved_read, Read, read-saved}

abbrev pub loaded_as : Table → Outcome Table
loaded_as t = record { answer = accepted; after = t }

-- the image of a table that keeps the rules is loaded as that table
pub load-image : (present t : Table) → keeps_table present ≡ true → keeps_table t ≡ true → load_of present (image_of t) ≡ loaded_as t
unfolding load_of
load-image present t p e = rw p (ap (replaced present) (saved_read t e))

-- what a save that was not refused wrote
pub record Wrote (t : Table) (buffer : List ℕ) (n : ℕ) (o : SaveOutcome) : Type 0 where
  pub keeps : keeps_table t ≡ true
  pub size : n ≡ length (image_of t)
  pub after : o.buffer ≡ front (image_of t) buffer

pub save-wrote : (t : Table) (buffer : List ℕ) (n : ℕ) → (save_of t buffer).answer ≡ written n → Wrote t buffer n (save_of t buffer)
save-wrote t buffer n =
    by-save t buffer (λ (o : SaveOutcome). o.answer ≡ written n → Wrote t buffer n o) (λ p e. not_written e) (λ p q e. not_written e)
    (λ p q e. record { keeps = p; size = let z : n ≡ length (image_of t) = cc in z; after = refl })
  where
    not_written : {A : Type 0} {m : ℕ} → unwritten m ≡ written n → A
    not_written e = let z : ◌≡◌ {A = ℕ} 0 1 = cc in absurd (omega arith)

-- save, then load, gives the same table
pub save-then-load : (t present : Table) (buffer : List ℕ) (n : ℕ) → keeps_table present ≡ true → (save_of t buffer).answer ≡ written n → load_of present (take n (save_of t buffer).buffer) ≡ loaded_as t
save-then-load t present buffer n p e =
    let w = save-wrote t buffer n e in
    ap (λ (k : ℕ). load_of present (take k (save_of t buffer).buffer)) w.size
    ∙ ap (λ (s : List ℕ). load_of present (take (length (image_of t)) s)) w.after
    ∙ ap (load_of present) (take-append_seam (image_of t) _)
    ∙ load-image present t p w.keeps

-- a load that was not refused read the image as the table after it
pub load_read : (present : Table) (s : List ℕ) → (load_of present s).answer ≡ accepted → table_of s ≡ some (load_of present s).after
load_read present s =
    by-load present s (λ (o : Outcome Table). o.answer ≡ accepted → table_of s ≡ some o.after) (λ p e. not-accepted e) (λ p q e. not-accepted e) (λ u p q e. q)
  where
    not-accepted : {A : Type 0} {n : ℕ} → refused n ≡ accepted → A
    not-accepted e = let z : ◌≡◌ {A = ℕ} 0 1 = cc in absurd (omega arith)

-- an accepted image is the image of the table that it was loaded as: saved again, it is the same bytes
pub load-then-save : (present : Table) (s : List ℕ) → Bytes s → (load_of present s).answer ≡ accepted → Read s (load_of present s).after
load-then-save present s hs e = read-saved s _ hs (load_read present s e)

-- two different images never load to the same table
pub one-image : (p q : Table) (s r : List ℕ) → Bytes s → Bytes r → (load_of p s).answer ≡ accepted → (load_of q r).answer ≡ accepted → (load_of p s).after ≡ (load_of q r).after → s ≡ r
one-image p q s r hs hr e f same =
    sym (load-then-save p s hs e).is ∙ ap image_of same ∙ (load-then-save q r hr f).is
