-- What a save and a load answer, in document 01's words: the paper's number and values for each case of the code's answers.
use Rattle.std.specs.Prelude.{ℕ, List, Result, Ok, Err}
use Rattle.refusals.specs.declared.Refusal.{Refusal}
use Rattle.refusals.specs.Refusals.{number_of}
use Rattle.rows.specs.Answer.{Outcome, accepting}
use Rattle.streams.specs.declared.Table.{Table}
use Rattle.image.specs.declared.Loaded.{Loaded}

-- how many bytes were written, or the number of a refusal
pub data Saving : Type 0 where
  written : (bytes : ℕ) → Saving
  unwritten : (number : ℕ) → Saving

-- what a save leaves: its answer, and the lent buffer after it
pub record SaveOutcome : Type 0 where
  pub answer : Saving
  pub buffer : List ℕ

abbrev pub saving : Result ℕ Refusal → Saving
saving (Ok n) = written n
saving (Err why) = unwritten (number_of why)

abbrev pub saved_says : Result ℕ Refusal → List ℕ → SaveOutcome
saved_says r buffer = record { answer = saving r; buffer = buffer }

-- a refusal: its number, and the buffer as it was
abbrev pub unsaved : ℕ → List ℕ → SaveOutcome
unsaved n buffer = record { answer = unwritten n; buffer = buffer }

-- what a load says
abbrev pub loaded_says : Loaded → Outcome Table
loaded_says r = record { answer = accepting r.answer; after = r.table }
