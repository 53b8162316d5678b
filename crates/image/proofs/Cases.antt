-- The two calls by their cases: what holds of each outcome that document 01 names holds of the call.
use Rattle.std.specs.Prelude.{if◌then◌else◌}
use Prim.Native.Nat.{ℕ, ◌<◌, ◌≤◌}
use mathlib.Core.Path.{◌≡◌, refl}
use mathlib.Core.Bool.{Bool, true, false}
use mathlib.Core.List.{List}
use mathlib.Core.Option.{Option, none, some}
use lib.ListN.{length}
use borrow.Author.Tests.{ltb-true, ltb-false}
use Rattle.octets.specs.Words.{no, ◌<?◌}
use Rattle.octets.specs.Bytes.{front}
use Rattle.refusals.specs.Numbers.{state_broken, buffer_too_short, no_saved_image}
use Rattle.rows.specs.Answer.{accepted, Outcome, refuse}
use Rattle.streams.specs.declared.Table.{Table}
use Rattle.streams.specs.Table.{keeps_table}
use Rattle.image.specs.Answer.{written, SaveOutcome, unsaved}
use Rattle.image.specs.Image.{image_of, table_of, save_of, replaced, load_of}

module _ (t : Table) (buffer : List ℕ) (P : SaveOutcome → Type 0) where
  pub by-save : (keeps_table t ≡ false → P (unsaved state_broken buffer))
      → (keeps_table t ≡ true → length buffer < length (image_of t) → P (unsaved buffer_too_short buffer))
      → (keeps_table t ≡ true → length (image_of t) ≤ length buffer → P (record { answer = written (length (image_of t)); buffer = front (image_of t) buffer })) → P (save_of t buffer)
  unfolding save_of
  by-save a b c = go (keeps_table t) (length buffer <? length (image_of t)) refl refl
    where
      go : (k r : Bool) → keeps_table t ≡ k → (length buffer <? length (image_of t)) ≡ r
          → P (if no k then unsaved state_broken buffer else if r then unsaved buffer_too_short buffer else record { answer = written (length (image_of t)); buffer = front (image_of t) buffer })
      go false r p q = a p
      go true true p q = b p (ltb-true _ _ q)
      go true false p q = c p (ltb-false _ _ q)

module _ (present : Table) (s : List ℕ) (P : Outcome Table → Type 0) where
  pub by-load : (keeps_table present ≡ false → P (refuse state_broken present))
      → (keeps_table present ≡ true → table_of s ≡ none → P (refuse no_saved_image present))
      → ((u : Table) → keeps_table present ≡ true → table_of s ≡ some u → P (record { answer = accepted; after = u })) → P (load_of present s)
  unfolding load_of
  by-load a b c = go (keeps_table present) (table_of s) refl refl
    where
      go : (k : Bool) (o : Option Table) → keeps_table present ≡ k → table_of s ≡ o → P (if no k then refuse state_broken present else replaced present o)
      go false o p q = a p
      go true none p q = b p q
      go true (some u) p q = c u p q
