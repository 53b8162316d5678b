-- Document 01, "The receiving session": what a whole line and a whole payload lead to: the reply, what happened, and the session after it.
use Rattle.std.specs.Prelude.{◌≡◌, ℕ, List, [], ◌++◌, if◌then◌else◌}
use Rattle.octets.specs.Words.{◌and◌, ◌=?◌}
use Rattle.sha1_digest.specs.declared.Sha1.{Sha1}
use Rattle.sha1_digest.specs.Machine.{finished}
use Rattle.sha1_digest.specs.Id.{id_number}
use Rattle.line.specs.declared.Line.{Line}
use Rattle.line.specs.Reading.{Reading, blank_line, read_of}
use Rattle.phrases.specs.declared.Kind.{Kind}
use Rattle.phrases.specs.Lines.{kind_of, is_data}
use Rattle.replies.specs.declared.Reply.{Reply}
use Rattle.replies.specs.Replies.{LF, 'error', error_token, sends, errs, acks, bads, bye, help, eh, reply_text, wrote}
use Rattle.talk.specs.declared.Terms.{Terms}
use Rattle.talk.specs.declared.Session.{Session}
use Rattle.talk.specs.declared.Event.{Event}
use Rattle.talk.specs.declared.Due.{Due}
use Rattle.talk.specs.Answer.{Happening, Telling}
use Rattle.talk.specs.Answer as what
use Rattle.talk.specs.Sessions.{terms_of, keeps_terms, salted, listening, promised, receiving, closed}

abbrev pub nothing : Happening
nothing = record { what = what.nothing; line = blank_line }

abbrev pub offer : Line → Happening
offer m = record { what = what.offer (terms_of m); line = m }

abbrev pub message : Terms → Happening
message t = record { what = what.message t; line = blank_line }

abbrev pub ended : ℕ → Happening
ended reason = record { what = what.ended reason; line = blank_line }

-- what is said, what happened, and the session after it
pub record Turn : Type 0 where
  pub reply : List ℕ
  pub happening : Happening
  pub next : Session

-- a reply, and the session is closed, or goes on with the next line
abbrev pub closing : List ℕ → ℕ → Turn
closing w reason = record { reply = w; happening = ended reason; next = closed }

abbrev pub going_on : List ℕ → Turn
going_on w = record { reply = w; happening = nothing; next = listening }

-- ---- a payload that is there as a whole: id right or wrong, then the prompt; a message needs `ack`

unfoldable pub completed : Terms → Sha1 → Turn
completed t h =
    if id_number (finished h) =? t.id then record { reply = acks t.id; happening = message t; next = listening }
    else going_on (bads t.id)

-- ---- a line between messages

-- valid: `send ID`; invalid: close after `error T`, with the line's own reason
abbrev pub offered : List ℕ → Reading → Line → Turn
offered s Reading.Read m = record { reply = sends m.fields.id; happening = offer m; next = promised (terms_of m) }
offered s (Reading.Refused n) m = closing (errs (error_token s)) n

abbrev pub heard_as : Kind → List ℕ → Turn
heard_as Kind.Ihave s = offered s (read_of s).reading (read_of s).line
-- `data` with no offer: `error`, close
heard_as Kind.Data s = closing ('error' ++ LF) 1
heard_as Kind.Leave s = closing bye 0
heard_as Kind.Ask s = going_on help
heard_as Kind.Other s = going_on eh

unfoldable pub heard : List ℕ → Turn
heard s = heard_as (kind_of s) s

-- ---- the line after `send`: `data ID`, the same id; else close, nothing written. `len=0` completes at the data line. No line is the data of
-- terms that no offer has

unfoldable pub data_heard : Terms → List ℕ → Turn
data_heard t s =
    if keeps_terms t and is_data t.id s then (if t.len =? 0 then completed t (salted t) else record { reply = []; happening = nothing; next = receiving t })
    else closing [] 1

-- ---- a line that is whole: between messages, or after `send`

abbrev pub line_heard : Session → List ℕ → Turn
line_heard s text = if s.mode =? 0 then heard text else data_heard s.terms text

-- ---- what is due on a line, as a turn; and what is due with no line's fields

abbrev pub turn_in : List ℕ → Due → Turn
turn_in s d = record { reply = reply_text d.reply s; happening = record { what = what.happened d.event; line = d.line }; next = d.session }

abbrev pub reply_due : Reply → Event → Session → Due
reply_due w e s = record { reply = w; event = e; line = blank_line; session = s }

-- what is due on a payload that is whole, whatever line was before it
abbrev pub Completes : Due → Terms → Sha1 → Type 0
Completes d t h = (s : List ℕ) → turn_in s d ≡ completed t h

-- ---- the reply stands at the front of a lent buffer

abbrev pub told_in : Turn → List ℕ → Telling
told_in t buffer = record { written = wrote t.reply buffer; happening = t.happening; next = t.next }
