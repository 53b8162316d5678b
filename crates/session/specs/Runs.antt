-- What the private functions promise one another. No function's public promise cites this file.
use Rattle.std.specs.Prelude.{◌≡◌, ℕ, List, [], if◌then◌else◌}
use Rattle.octets.specs.Words.{◌=?◌}
use Rattle.octets.specs.Bytes.{placed}
use Rattle.line.specs.Reading.{blank_line}
use Rattle.replies.specs.Replies.{wrote}
use Rattle.machine.specs.Machine.{Out}
use Rattle.talk.specs.declared.Event.{Event}
use Rattle.talk.specs.declared.Said.{Said}
use Rattle.talk.specs.declared.Terms.{Terms}
use Rattle.talk.specs.declared.Session.{Session}
use Rattle.talk.specs.Answer.{Happening, Telling, happened}
use Rattle.talk.specs.Answer as talk
use Rattle.talk.specs.Talk.{Turn, nothing, heard, data_heard}
use Rattle.session.specs.Answer as answer

-- the record of a step in which nothing was said, and of one in which it was
abbrev pub silence : answer.Answer → ℕ → Event → Session → answer.Record
silence a n e s = record { answer = a; used = n; happening = record { what = happened e; line = blank_line }; written = 0; next = s }

abbrev pub telling_of : ℕ → Telling → answer.Record
telling_of n x = record { answer = answer.made; used = n; happening = x.happening; written = x.written; next = x.next }

abbrev pub telling : ℕ → Said → answer.Record
telling n x = telling_of n (talk.says x)

-- what quiet bytes lead to, and what a turn comes to where so many bytes were used
abbrev pub still : Session → Turn
still s = record { reply = []; happening = nothing; next = s }

abbrev pub out_of : ℕ → Turn → Out Session Happening
out_of n t = record { used = n; state = t.next; reply = t.reply; happened = t.happening }

-- what a line that is whole leads to, between messages or after `send`: talk's `line_heard`, by the two fields that it looks at
unfoldable pub line_turn : ℕ → Terms → List ℕ → Turn
line_turn mode t text = if mode =? 0 then heard text else data_heard t text

-- what feeding a piece comes to was said: the step's record, and the reply buffer after it
abbrev pub Spoken : Out Session Happening → answer.Record → List ℕ → List ℕ → Type 0
Spoken o r reply after = (r ≡ record { answer = answer.made; used = o.used; happening = o.happened; written = wrote o.reply reply; next = o.state }) × (after ≡ placed o.reply 0 reply)
