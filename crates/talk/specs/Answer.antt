-- What a step says, in document 01's words: what happened, and the values that it carries, for each case of the enum `Event`.
use Rattle.std.specs.Prelude.{ℕ, Option, Some, None}
use Rattle.refusals.specs.declared.Refusal.{Refusal}
use Rattle.refusals.specs.Refusals.{number_of}
use Rattle.line.specs.declared.Line.{Line}
use Rattle.talk.specs.declared.Terms.{Terms}
use Rattle.talk.specs.declared.Event.{Event}
use Rattle.talk.specs.declared.Session.{Session}
use Rattle.talk.specs.declared.Said.{Said}

-- nothing; an offer or a message, with its id, its salt where it has one, and its length; an end, with its reason
pub data Happened : Type 0 where
  nothing : Happened
  offer : Terms → Happened
  message : Terms → Happened
  ended : (reason : ℕ) → Happened

-- the number of a reason; 0 where there is none
abbrev pub reason_in : Option Refusal → ℕ
reason_in None = 0
reason_in (Some r) = number_of r

abbrev pub happened : Event → Happened
happened Event.Nothing = nothing
happened (Event.Offer t) = offer t
happened (Event.Message t) = message t
happened (Event.End e) = ended (reason_in e.reason)

-- what happened, beside it the fields of the line where it is an offer
pub record Happening : Type 0 where
  pub what : Happened
  pub line : Line

-- what a whole line or a whole payload leads to: how many bytes were written, what happened, and the session after it
pub record Telling : Type 0 where
  pub written : ℕ
  pub happening : Happening
  pub next : Session

abbrev pub says : Said → Telling
says r = record { written = r.written; happening = record { what = happened r.event; line = r.line }; next = r.session }
