-- What a call on a stream answers, in document 01's words: this file gives the paper's number and values for each case of the code's answers.
use Rattle.std.specs.Prelude.{ℕ, Option, Some, None, Result, Ok, Err}
use Rattle.refusals.specs.declared.Refusal.{Refusal}
use Rattle.refusals.specs.Refusals.{number_of}
use Rattle.rows.specs.declared.Given.{Given}
use Rattle.rows.specs.declared.Offered.{Offered}
use Rattle.rows.specs.declared.Taken.{Taken}
use Rattle.rows.specs.declared.Row.{Row}

-- accepted; a message given, by its number and its slip; nothing given; refused, with the number of document 01's table
pub data Answer : Type 0 where
  accepted : Answer
  given : (number slip : ℕ) → Answer
  nothing : Answer
  refused : (number : ℕ) → Answer

-- what a call leaves: its answer, and the state after it
pub record Outcome (State : Type 0) : Type 0 where
  pub answer : Answer
  pub after : State

-- the answer of an offer or a close
abbrev pub accepting : Result Unit Refusal → Answer
accepting (Ok x) = accepted
accepting (Err why) = refused (number_of why)

-- the answer of a take or a force
abbrev pub giving : Result (Option Given) Refusal → Answer
giving (Ok (Some m)) = given m.number m.slip
giving (Ok None) = nothing
giving (Err why) = refused (number_of why)

-- what a row's offer says, and what its take or force says
abbrev pub offered_says : Offered → Outcome Row
offered_says r = record { answer = accepting r.answer; after = r.row }

abbrev pub taken_says : Taken → Outcome Row
taken_says r = record { answer = giving r.answer; after = r.row }

-- a refusal: its number, and the state as it came
abbrev pub refuse : {State : Type 0} → ℕ → State → Outcome State
refuse n s = record { answer = refused n; after = s }
