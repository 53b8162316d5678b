-- Document 01, "The receiving session": the states that a session can be in.
use Rattle.std.specs.Prelude.{ℕ, Bool, List, replicate, take, None}
use Rattle.octets.specs.Words.{◌and◌, ◌≤?◌}
use Rattle.refusals.specs.Numbers.{longest_payload}
use Rattle.field_rules.specs.Rules.{id_in}
use Rattle.sha1_digest.specs.declared.Sha1.{Sha1}
use Rattle.sha1_digest.specs.Machine.{fresh, fed_all}
use Rattle.sha1_digest.specs.Id.{salt_bytes}
use Rattle.line.specs.declared.Line.{Line}
use Rattle.talk.specs.declared.Terms.{Terms}
use Rattle.talk.specs.declared.Session.{Session}

-- the numbers of an offer: its id, its salt and the payload's length
abbrev pub terms_of : Line → Terms
terms_of m = record { id = m.fields.id; salt = m.fields.salt; len = m.len }

abbrev pub no_terms : Terms
no_terms = record { id = 0; salt = None; len = 0 }

-- an id is a number of 28 bits; no payload is longer than 4,096 bytes
unfoldable pub keeps_terms : Terms → Bool
keeps_terms t = id_in t.id and t.len ≤? longest_payload

-- the running digest where no byte of the payload was received: the salt, if there is one
abbrev pub salted : Terms → Sha1
salted t = fed_all fresh (salt_bytes t.salt)

-- the bytes of a line so far
abbrev pub line_so_far : Session → List ℕ
line_so_far s = take s.line_len s.line

-- ---- the four modes, each as it is entered: between messages; after `send`, when the next line must be `data ID`; while the payload comes;
-- closed

abbrev pub listening : Session
listening = record { mode = 0; line_len = 0; line = replicate 512 0; terms = no_terms; got = 0; hash = fresh }

abbrev pub promised : Terms → Session
promised t = record { mode = 1; line_len = 0; line = replicate 512 0; terms = t; got = 0; hash = fresh }

abbrev pub receiving : Terms → Session
receiving t = record { mode = 2; line_len = 0; line = replicate 512 0; terms = t; got = 0; hash = salted t }

abbrev pub closed : Session
closed = record { mode = 3; line_len = 0; line = replicate 512 0; terms = no_terms; got = 0; hash = fresh }
