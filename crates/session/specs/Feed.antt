-- Document 01, "The receiving session": what one byte from the peer does.
use Rattle.std.specs.Prelude.{ℕ, ◌+◌, [], set, if◌then◌else◌}
use Rattle.octets.specs.Words.{◌<?◌, ◌=?◌}
use Rattle.sha1_digest.specs.Machine.{fed}
use Rattle.machine.specs.Machine.{Fed, quiet, stop}
use Rattle.talk.specs.declared.Session.{Session}
use Rattle.talk.specs.Answer.{Happening}
use Rattle.talk.specs.Sessions.{line_so_far}
use Rattle.talk.specs.Talk.{Turn, closing, completed, line_heard}

-- a byte that ends a line or a payload stops the call; what it leads to is its turn
abbrev pub turns : Turn → Fed Session Happening
turns t = stop t.next t.reply t.happening

-- ---- a byte of a line: LF ends it; a 513th byte is used, and closes the session, nothing written

abbrev pub pushed : Session → ℕ → Session
pushed s b = record { mode = s.mode; line_len = s.line_len + 1; line = set s.line s.line_len b; terms = s.terms; got = s.got; hash = s.hash }

-- the line is whole
abbrev pub obeyed : Session → Turn
obeyed s = line_heard s (line_so_far s)

abbrev pub feed_line : Session → ℕ → Fed Session Happening
feed_line s b =
    if b =? 10 then turns (obeyed s)
    else if s.line_len <? 512 then quiet (pushed s b)
    else turns (closing [] 1)

-- ---- a byte of a payload goes into the running digest, whatever the host did to the buffer

abbrev pub taken : Session → ℕ → Session
taken s b = record { mode = s.mode; line_len = s.line_len; line = s.line; terms = s.terms; got = s.got + 1; hash = fed s.hash b }

abbrev pub feed_payload : Session → ℕ → Fed Session Happening
feed_payload s b = if s.got + 1 <? s.terms.len then quiet (taken s b) else turns (completed s.terms (fed s.hash b))

-- ---- a byte, by the session's mode; a closed session takes none
unfoldable pub feed : Session → ℕ → Fed Session Happening
feed s b =
    if s.mode =? 2 then feed_payload s b
    else if s.mode =? 3 then quiet s
    else feed_line s b
