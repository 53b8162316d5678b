-- What the private steps of the code come to. No public promise cites this file.
use Rattle.std.specs.Prelude.{ℕ, ◌≡◌, ◌<◌, Result, Ok, Err}
use Rattle.refusals.specs.declared.Refusal.{Refusal}
use Rattle.refusals.specs.Numbers.{no_such_stream}
use Rattle.rows.specs.declared.Row.{Row}
use Rattle.rows.specs.declared.Taken.{Taken}
use Rattle.rows.specs.Answer.{Outcome, refuse, accepting, taken_says}
use Rattle.lookups.specs.Lookup.{Lookup}
use Rattle.streams.specs.declared.Table.{Table}
use Rattle.streams.specs.Table.{slot_at}
use Rattle.streams.specs.Calls.{on_row}

-- a place is one of the 32
abbrev pub Within : Result ℕ Refusal → Type 0
Within (Ok i) = i < 32
Within (Err why) = Unit

-- a call of a row, made on the row that stands for a key
abbrev pub Called : Table → (Row → Taken → Type 0) → Lookup → Outcome Table → Type 0
Called t call (Lookup.Refused n) o = o ≡ refuse n t
Called t call (Lookup.Open i) o = (r : Taken) × call (slot_at t i).row r × (o ≡ on_row t i (taken_says r))
Called t call Lookup.Unknown o = o ≡ refuse no_such_stream t

-- what a step on a lent table answers, with the table after it
abbrev pub served : Table → Result Unit Refusal → Outcome Table
served t answer = record { answer = accepting answer; after = t }
