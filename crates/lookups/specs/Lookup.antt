-- Document 01, "Streams": what stands for a key, and the refusals that go before a row's own.
use Rattle.std.specs.Prelude.{ℕ, Bool, Option, Some, None, Result, Ok, Err, if◌then◌else◌}
use Rattle.octets.specs.Words.{no, ◌<?◌}
use Rattle.refusals.specs.declared.Refusal.{Refusal}
use Rattle.refusals.specs.Refusals.{number_of}
use Rattle.refusals.specs.Numbers.{state_broken, stale, no_free_row, no_such_stream}
use Rattle.slot_rules.specs.declared.Ruled.{Ruled}

-- what stands for a key: a refusal, the place of its row, or no row
pub data Lookup : Type 0 where
  Refused : (number : ℕ) → Lookup
  Open : (place : ℕ) → Lookup
  Unknown : Lookup

-- the place of the row that a call is about, or a refusal
pub data Target : Type 0 where
  Refused : (number : ℕ) → Target
  At : (place : ℕ) → Target

-- what the code's answer says
abbrev pub target_says : Result ℕ Refusal → Target
target_says (Ok i) = Target.At i
target_says (Err why) = Target.Refused (number_of why)

-- the place of the row that has the key, if there is one: a place of 32 or more is none
abbrev pub open_at : Option ℕ → Lookup
open_at (Some i) = if i <? 32 then Lookup.Open i else Lookup.Unknown
open_at None = Lookup.Unknown

-- the tests that every call makes first, on what a pass over the slots found and what refuses the names: 40, then 8 and 9
abbrev pub standing_of : Option Ruled → Option Refusal → Lookup
standing_of None refused = Lookup.Refused state_broken
standing_of (Some r) (Some why) = Lookup.Refused (number_of why)
standing_of (Some r) None = open_at r.found

-- the same by numbers: whether the slots keep their rules, the number that refuses the names, 0 for none, and a place
abbrev pub standing_by : Bool → ℕ → ℕ → Lookup
standing_by good refusal found =
    if no good then Lookup.Refused state_broken
    else if 0 <? refusal then Lookup.Refused refusal
    else open_at (Some found)

-- what a pass would have found
abbrev pub ruled_by : Bool → ℕ → ℕ → Option Ruled
ruled_by good found free = if good then Some (record { found = Some found; free = Some free; rows = 0 }) else None

-- what an answer by numbers says
abbrev pub number_says : Result ℕ ℕ → Target
number_says (Ok i) = Target.At i
number_says (Err n) = Target.Refused n

-- the same, as a step of the code has it
abbrev pub passed : Option Ruled → Option Refusal → Result Ruled Refusal
passed None refused = Err Refusal.StateBroken
passed (Some r) (Some why) = Err why
passed (Some r) None = Ok r

-- the row that a take, a force or a close is about: an unknown key is no such stream
abbrev pub known_target : Lookup → Target
known_target (Lookup.Refused n) = Target.Refused n
known_target (Lookup.Open i) = Target.At i
known_target Lookup.Unknown = Target.Refused no_such_stream

-- the lowest free row, if there is one
abbrev pub free_in : Option Ruled → Option ℕ
free_in None = None
free_in (Some r) = r.free

-- a place of 32 or more is none
abbrev pub free_target : Option ℕ → Target
free_target (Some i) = if i <? 32 then Target.At i else Target.Refused no_free_row
free_target None = Target.Refused no_free_row

-- the row that an offer is about: an unknown key expects 1 and takes the lowest free row
abbrev pub offer_target : ℕ → Option ℕ → Lookup → Target
offer_target number free (Lookup.Refused n) = Target.Refused n
offer_target number free (Lookup.Open i) = Target.At i
offer_target number free Lookup.Unknown = if number <? 1 then Target.Refused stale else free_target free
