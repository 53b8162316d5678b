-- Document 01, "The datagram" and "Numbers the node says no with": what the writer answers, in the paper's order of refusals, and what the
-- lent buffer then holds. `says` gives the paper's number and values for each case of the code's answer.
use Rattle.std.specs.Prelude.{ℕ, List, length, Result, Ok, Err, if◌then◌else◌}
use Rattle.octets.specs.Words.{no, ◌<?◌}
use Rattle.octets.specs.Bytes.{front}
use Rattle.refusals.specs.declared.Refusal.{Refusal}
use Rattle.refusals.specs.Refusals.{number_of}
use Rattle.refusals.specs.Numbers.{payload_too_long, longest_payload, buffer_too_short, datagram_malformed}
use Rattle.layout.specs.declared.Datagram.{Datagram}
use Rattle.layout.specs.Rules.{valid}
use Rattle.datagram_bytes.specs.Bytes.{bytes_of}

-- how many bytes were written, or the number of the paper's table
pub data Verdict : Type 0 where
  written : (bytes : ℕ) → Verdict
  refused_with : (number : ℕ) → Verdict

abbrev pub says : Result ℕ Refusal → Verdict
says (Ok n) = written n
says (Err r) = refused_with (number_of r)

-- 7 for the fields, 4 for the payload's length, then 5 for the room
unfoldable pub write_of : Datagram → List ℕ → ℕ → Verdict
write_of m payload room =
    if no (valid m)
    then refused_with datagram_malformed
    else (if longest_payload <? length payload
    then refused_with payload_too_long
    else (if room <? length (bytes_of m payload)
    then refused_with buffer_too_short
    else written (length (bytes_of m payload))))

-- written: the datagram's bytes at the front; refused: all as it was
abbrev pub left_by : Verdict → List ℕ → List ℕ → List ℕ
left_by (written n) bytes buffer = front bytes buffer
left_by (refused_with number) bytes buffer = buffer

unfoldable pub write_left : Datagram → List ℕ → List ℕ → List ℕ
write_left m payload buffer = left_by (write_of m payload (length buffer)) (bytes_of m payload) buffer
