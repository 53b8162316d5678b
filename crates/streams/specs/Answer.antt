-- What the table's calls answer, in document 01's words: the paper's number and values for each case.
use Rattle.std.specs.Prelude.{ℕ, Result, Ok, Err}
use Rattle.refusals.specs.declared.Refusal.{Refusal}
use Rattle.refusals.specs.Refusals.{number_of}
use Rattle.keys.specs.Key.{no_key}
use Rattle.rows.specs.Row.{no_row}
use Rattle.keys.specs.declared.Key.{Key}
use Rattle.rows.specs.declared.Row.{Row}
use Rattle.rows.specs.Answer.{Answer, accepted, refused, Outcome, accepting, giving}
use Rattle.streams.specs.declared.Table.{Table}
use Rattle.streams.specs.declared.Served.{Served}
use Rattle.streams.specs.declared.Taken.{Taken}
use Rattle.streams.specs.declared.Shown.{Shown}

-- what an offer or a close says, and what a take or a force says
abbrev pub served_says : Served → Outcome Table
served_says r = record { answer = accepting r.answer; after = r.table }

abbrev pub taken_says : Taken → Outcome Table
taken_says r = record { answer = giving r.answer; after = r.table }

-- how many rows are open, or the number of a refusal
pub data Counted : Type 0 where
  counted : (rows : ℕ) → Counted
  uncounted : (number : ℕ) → Counted

abbrev pub count_says : Result ℕ Refusal → Counted
count_says (Ok n) = counted n
count_says (Err why) = uncounted (number_of why)

-- a row by number: the answer, and the key and the row, which are all zero in a refusal
pub record Sight : Type 0 where
  pub answer : Answer
  pub key : Key
  pub row : Row

abbrev pub shown_says : Result Shown Refusal → Sight
shown_says (Ok s) = record { answer = accepted; key = s.key; row = s.row }
shown_says (Err why) = record { answer = refused (number_of why); key = no_key; row = no_row }
