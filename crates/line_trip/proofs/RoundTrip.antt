-- Document 01, "The ihave line": THE ROUND TRIP. What was written is accepted, with its `chk`, and says the message that was written:
-- its fields up to their lengths and flags.
use Rattle.std.specs.Prelude.{if◌then◌else◌}
use Prim.Native.Nat.{ℕ, ◌≤◌}
use mathlib.Core.Path.{◌≡◌, refl}
use mathlib.Core.Bool.{Bool, true, false}
use native.Mathlib.Omega.{arith}
use borrow.Author.Tests.{ltb-false}
use lib.ListN.{length}
use Rattle.octets.specs.Words.{no, ◌<?◌}
use Rattle.refusals.specs.Numbers.{line_malformed, payload_too_long, longest_payload, buffer_too_short}
use Rattle.envelope.specs.Tidy.{tidy}
use Rattle.line.specs.Reading.{Outcome, Read, read_of}
use Rattle.line.specs.Writing.{print_of, line_written, message_good, write_refusal}
use Rattle.line.specs.declared.Line.{Line}
use Rattle.line_trip.proofs.Message.{Typed, line_read}

-- the answer of reading: the message, tidied
abbrev pub read_back : Line → Outcome
read_back m = record { reading = Read; line = record { len = m.len; fields = tidy m.fields } }

-- a message that keeps the rules, with a payload that may be sent
pub round_trip : (m : Line) → Typed m → message_good m ≡ true → m.len ≤ longest_payload → read_of (print_of m) ≡ read_back m
round_trip m typed good small = line_read m good typed small

-- a message that the writer does not refuse, whatever room it was given
pub written_read : (m : Line) (room : ℕ) → Typed m → write_refusal m room ≡ 0 → read_of (print_of m) ≡ read_back m
unfolding write_refusal
written_read m room typed e = go (message_good m) (longest_payload <? m.len) refl refl e
  where
    go : (g l : Bool) → message_good m ≡ g → (longest_payload <? m.len) ≡ l
        → (if no g then line_malformed else if l then payload_too_long else if room <? length (line_written m) then buffer_too_short else 0) ≡ 0
        → read_of (print_of m) ≡ read_back m
    go false l p q h = absurd (omega arith)
    go true true p q h = absurd (omega arith)
    go true false p q h = round_trip m typed p (ltb-false longest_payload m.len q)
