-- A host of a session. At each call it lends a piece of the peer's bytes, any payload buffer, whatever it did to it, and any room for a reply.
use Rattle.std.specs.Prelude.{ℕ, Bool, true, List, [], ◌∷◌, ◌++◌, length, take, get_or, if◌then◌else◌}
use Rattle.octets.specs.Words.{◌and◌, ◌<?◌, ◌=?◌}
use Rattle.machine.specs.Machine.{Out, Seen}
use Rattle.machine.specs.Hosts.{bytes_used, seen_by, Through}
use Rattle.talk.specs.declared.Session.{Session}
use Rattle.talk.specs.Answer.{Happened, Happening}
use Rattle.talk.specs.Answer as what
use Rattle.talk.specs.Sessions.{listening}
use Rattle.session.specs.Answer as answer
use Rattle.session.specs.Calls.{Outcome, step_of}

pub record Lent : Type 0 where
  pub piece : List ℕ
  pub payload : List ℕ
  pub room : ℕ

abbrev pub call : Session → Lent → Outcome
call s c = step_of s c.piece c.payload c.room

-- ---- what is seen of the calls

-- what the host notes of a step: all but "nothing"
abbrev pub reports_of : Happening → Happened → List Happening
reports_of h what.nothing = []
reports_of h (what.offer t) = h ∷ []
reports_of h (what.message t) = h ∷ []
reports_of h (what.ended n) = h ∷ []

abbrev pub reports : Happening → List Happening
reports h = reports_of h h.what

abbrev pub is_closed : Session → Bool
is_closed s = s.mode =? 3

abbrev pub step_on : Session → Lent → Out Session Happening
step_on s c = record { used = (call s c).step_record.used; state = (call s c).step_record.next; reply = (call s c).reply; happened = (call s c).step_record.happening }

abbrev pub piece_of : Lent → List ℕ
piece_of c = c.piece

-- the bytes that calls used; the session, replies and happenings that they came to; a host that goes through a stream
abbrev pub used_bytes : Session → List Lent → List ℕ
used_bytes = bytes_used step_on piece_of

abbrev pub sees : Session → List Lent → Seen Session Happening
sees = seen_by step_on piece_of reports

abbrev pub Goes : Session → List ℕ → List Lent → Type 0
Goes = Through step_on piece_of is_closed reports

-- ---- what the host has between two calls: the session; of the payload that comes, or has just come, the bytes received; the payload buffer
-- as the last made call left it; and at which places each made call since the byte came was lent what the made call before it left
pub record Between : Type 0 where
  pub session : Session
  pub received : List ℕ
  pub buffer : List ℕ
  pub alone : ℕ → Bool

abbrev pub at_first : Between
at_first = record { session = listening; received = []; buffer = []; alone = λ i. true }

-- a refused call changes nothing, no lent byte either; one that was made leaves its session, the bytes received and the buffer
abbrev pub after_as : answer.Answer → Between → Lent → Outcome → Between
after_as (answer.refused n) h c o = h
after_as answer.made h c o = record {
  session = o.step_record.next;
  received = if h.session.mode =? 2 then h.received ++ take o.step_record.used c.piece else [];
  buffer = o.payload;
  alone = λ i. if i <? length h.received then h.alone i and get_or c.payload i 0 =? get_or h.buffer i 0 else true;
}

abbrev pub after : Between → Lent → Between
after h c = after_as (call h.session c).step_record.answer h c (call h.session c)

abbrev pub after_all : Between → List Lent → Between
after_all h [] = h
after_all h (c ∷ cs) = after_all (after h c) cs
