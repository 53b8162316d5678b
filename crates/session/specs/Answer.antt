-- What a call answers, in document 01's words: the paper's number and values for each case of the answer.
use Rattle.std.specs.Prelude.{ℕ, Result, Ok, Err}
use Rattle.refusals.specs.declared.Refusal.{Refusal}
use Rattle.refusals.specs.Refusals.{number_of}
use Rattle.talk.specs.declared.Session.{Session}
use Rattle.talk.specs.Answer.{Happening, happened}
use Rattle.session.specs.declared.Step.{Step}
use Rattle.session.specs.declared.Opened.{Opened}

-- the call was made, or refused with the number of document 01's table
pub data Answer : Type 0 where
  made : Answer
  refused : (number : ℕ) → Answer

abbrev pub answering : Result (Unit {0}) Refusal → Answer
answering (Ok x) = made
answering (Err r) = refused (number_of r)

-- a step's record: the answer, the bytes used, what happened, the bytes of the reply, and the session after it
pub record Record : Type 0 where
  pub answer : Answer
  pub used : ℕ
  pub happening : Happening
  pub written : ℕ
  pub next : Session

abbrev pub says : Step → Record
says r = record {
  answer = answering r.stepping;
  used = r.used;
  happening = record { what = happened r.event; line = r.line };
  written = r.written;
  next = r.session;
}

-- and of an opening
pub record Opening : Type 0 where
  pub answer : Answer
  pub written : ℕ
  pub next : Session

abbrev pub opened_says : Opened → Opening
opened_says r = record { answer = answering r.stepping; written = r.written; next = r.session }
