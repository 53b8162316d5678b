-- Document 01, "Numbers the node says no with", 40, 22 and 5: the rules of a session, and what a call tests before it feeds a piece.
use Rattle.std.specs.Prelude.{ℕ, Bool, List, length, drop, if◌then◌else◌}
use Rattle.octets.specs.Words.{◌and◌, ◌or◌, no, ◌<?◌, ◌≤?◌, ◌=?◌}
use Rattle.octets.specs.Bytes.{all_zero}
use Rattle.refusals.specs.Numbers.{buffer_too_short, session_closed, state_broken, longest_payload}
use Rattle.sha1_digest.specs.Machine.{fresh}
use Rattle.talk.specs.declared.Terms.{Terms}
use Rattle.talk.specs.declared.Session.{Session}
use Rattle.talk.specs.Sessions.{keeps_terms}

-- the line so far has at most 512 bytes, and none while a payload comes or once the session is closed; zeros stand past it
unfoldable pub keeps_line : Session → Bool
keeps_line s = s.line_len ≤? (if s.mode <? 2 then 512 else 0) and all_zero (drop s.line_len s.line)

-- while a payload comes, a byte of it is still to come; else none has come
unfoldable pub keeps_payload : Session → Bool
keeps_payload s = if s.mode =? 2 then s.got <? s.terms.len else s.got =? 0

-- an offer's numbers are those that an offer may have (talk, keeps_terms)
unfoldable pub keeps_session : Session → Bool
keeps_session s = s.mode ≤? 3 and (length s.line =? 512 and (keeps_line s and (keeps_terms s.terms and keeps_payload s)))

-- no reply is longer
abbrev pub longest_reply : ℕ
longest_reply = 24

-- the number of a refusal, 0 where there is none: 40, then 22, then 5
unfoldable pub step_refusal : Session → ℕ → ℕ → ℕ
step_refusal s payload room =
    if no (keeps_session s) then state_broken
    else if s.mode =? 3 then session_closed
    else if payload <? longest_payload or room <? longest_reply then buffer_too_short
    else 0

-- a session by its fields that have rules; its running digest has none
abbrev pub session_by : ℕ → ℕ → List ℕ → Terms → ℕ → Session
session_by mode n line t got = record { mode = mode; line_len = n; line = line; terms = t; got = got; hash = fresh }
