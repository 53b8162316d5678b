-- Document 01, "The datagram": what reading answers, in the paper's order of refusals. `says` gives the paper's number and values for each case
-- of the code's answer.
use Rattle.std.specs.Prelude.{ℕ, ◌+◌, Bool, false, List, [], ◌∷◌, length, take, drop, Result, Ok, Err, if◌then◌else◌}
use Rattle.octets.specs.Words.{no, ◌<?◌, ◌≤?◌, ◌=?◌}
use Rattle.octets.specs.Field.{Res, bad, got, num}
use Rattle.refusals.specs.declared.Refusal.{Refusal}
use Rattle.refusals.specs.Refusals.{number_of}
use Rattle.refusals.specs.Numbers.{payload_too_long, longest_payload, not_version7, datagram_malformed}
use Rattle.layout.specs.declared.Datagram.{Datagram}
use Rattle.layout.specs.Texts.{blank_datagram}
use Rattle.layout.specs.Layout.{message}
use Rattle.datagram.specs.declared.DatagramRead.{DatagramRead}

-- read, or refused with the number of the paper's table
pub data Verdict : Type 0 where
  readable : Verdict
  refused_with : (number : ℕ) → Verdict

-- what an answer says: the verdict, the message, and where in the lent datagram the payload stands
pub record Said : Type 0 where
  pub reading : Verdict
  pub message : Datagram
  pub payload_at : ℕ
  pub payload_len : ℕ

-- read: the message, and the part of the lent datagram that the payload occupies
abbrev pub accepted : Datagram → ℕ → ℕ → Said
accepted m at len = record { reading = readable; message = m; payload_at = at; payload_len = len }

-- refused: the number of the paper's table, and beside it the blank message and no payload
abbrev pub refused : ℕ → Said
refused number = record { reading = refused_with number; message = blank_datagram; payload_at = 0; payload_len = 0 }

abbrev pub says : Result DatagramRead Refusal → Said
says (Ok r) = accepted r.message r.payload_at r.payload_len
says (Err r) = refused (number_of r)

-- the payload's length was read behind `at` bytes: 4 where it is above 4,096; then the payload, and nothing may follow it
abbrev pub after_length : List ℕ → Datagram → ℕ → Res ℕ → Said
after_length d m at bad = refused datagram_malformed
after_length d m at (got n k) =
    if longest_payload <? n
    then refused payload_too_long
    else (if at + k + n =? length d then accepted m (at + k) n else refused datagram_malformed)

-- the fields before the payload length were read behind the version
abbrev pub after_fields : List ℕ → Res Datagram → Said
after_fields d bad = refused datagram_malformed
after_fields d (got m n) = after_length d m (1 + n) ((num 4).parse (drop (1 + n) d))

-- the first byte is 7
abbrev pub is_version7 : List ℕ → Bool
is_version7 [] = false
is_version7 (x ∷ s) = x =? 7

unfoldable pub read_of : List ℕ → Said
read_of d = if no (is_version7 d) then refused not_version7 else after_fields d (message.parse (drop 1 d))

-- the part of a datagram that begins at a place; none where it does not lie in the datagram
unfoldable pub part_of : List ℕ → ℕ → ℕ → List ℕ
part_of d at len = if at + len ≤? length d then take len (drop at d) else []
