-- Document 01, "The receiving session": the two calls, with their refusals: 40, 22, 5.
use Rattle.std.specs.Prelude.{ℕ, List, [], length, take, if◌then◌else◌}
use Rattle.octets.specs.Words.{◌<?◌, ◌=?◌}
use Rattle.octets.specs.Bytes.{placed}
use Rattle.refusals.specs.Numbers.{buffer_too_short}
use Rattle.replies.specs.Replies.{prompt}
use Rattle.machine.specs.Machine.{Out, run}
use Rattle.talk.specs.declared.Session.{Session}
use Rattle.talk.specs.Answer.{Happening}
use Rattle.talk.specs.Sessions.{listening, closed}
use Rattle.talk.specs.Talk.{nothing}
use Rattle.session_rules.specs.Rules.{longest_reply, step_refusal}
use Rattle.session.specs.Answer as answer
use Rattle.session.specs.Feed.{feed}

-- what a call comes to: its record, the payload buffer after it, and the reply, which stands at the front of the reply buffer
pub record Outcome : Type 0 where
  pub step_record : answer.Record
  pub payload : List ℕ
  pub reply : List ℕ

-- a refusal: its number, and everything as it was
abbrev pub refused : Session → List ℕ → ℕ → Outcome
refused s pl n = record {
  step_record = record { answer = answer.refused n; used = 0; happening = nothing; written = 0; next = s };
  payload = pl;
  reply = [];
}

-- a call that was made, by what feeding its piece comes to
abbrev pub made : Out Session Happening → answer.Record
made o = record { answer = answer.made; used = o.used; happening = o.happened; written = length o.reply; next = o.state }

-- while a payload comes, the bytes used go to their places in the buffer; else it stays
abbrev pub stored : Session → List ℕ → List ℕ → List ℕ
stored s bytes pl = if s.mode =? 2 then placed bytes s.got pl else pl

abbrev pub went : Session → List ℕ → List ℕ → Out Session Happening → Outcome
went s piece pl o = record { step_record = made o; payload = stored s (take o.used piece) pl; reply = o.reply }

-- where nothing refuses the call (session_rules, step_refusal), the piece is fed up to the end of a line or of a payload
unfoldable pub step_of : Session → List ℕ → List ℕ → ℕ → Outcome
step_of s piece pl room =
    if step_refusal s (length pl) room =? 0 then went s piece pl (run feed nothing 0 s piece)
    else refused s pl (step_refusal s (length pl) room)

-- opening writes the prompt
unfoldable pub open_of : ℕ → answer.Opening
open_of room =
    if room <? longest_reply then record { answer = answer.refused buffer_too_short; written = 0; next = closed }
    else record { answer = answer.made; written = length prompt; next = listening }

unfoldable pub open_reply : ℕ → List ℕ
open_reply room = if room <? longest_reply then [] else prompt
