-- Document 01, "The id": the first 7 lowercase hex digits of SHA-1 over the salt's 8 bytes (two's complement, little-endian; absent
-- without `s`) and the payload; a payload above 4,096 bytes has none (refusal 4).
use Rattle.std.specs.Prelude.{ℕ, List, [], ◌++◌, length, take, ℤ, Option, Some, None, Result, Ok, Err, if◌then◌else◌}
use Rattle.octets.specs.Words.{◌<?◌}
use Rattle.octets.specs.Numbers.{little_bytes, twos}
use Rattle.refusals.specs.Numbers.{payload_too_long, longest_payload}
use Rattle.text.specs.Hex.{hex_digits, hex_value}
use Rattle.sha1_block.specs.declared.Hash.{Hash}
use Rattle.refusals.specs.declared.Refusal.{Refusal}
use Rattle.refusals.specs.Refusals.{number_of}
use Rattle.sha1_digest.specs.Sha1.{sha1}

abbrev pub salt_bytes : Option ℤ → List ℕ
salt_bytes None = []
salt_bytes (Some value) = little_bytes 8 (twos value)

-- a digest in hex: eight digits for each of its words
abbrev pub in_hex : Hash → List ℕ
in_hex h = hex_digits 8 h.a ++ (hex_digits 8 h.b ++ (hex_digits 8 h.c ++ (hex_digits 8 h.d ++ hex_digits 8 h.e)))

-- the id as it is written, and as a number
abbrev pub first_seven : Hash → List ℕ
first_seven h = take 7 (in_hex h)

abbrev pub id_number : Hash → ℕ
id_number h = hex_value (first_seven h)

-- what is answered, in document 01's words: the id as a number of 28 bits, or the number of a refusal, for each case of the result
pub data Answer : Type 0 where
  is : (id : ℕ) → Answer
  refused : (number : ℕ) → Answer

abbrev pub says : Result ℕ Refusal → Answer
says (Ok n) = is n
says (Err r) = refused (number_of r)

-- the answer for a payload as a whole
abbrev pub message_id : Option ℤ → List ℕ → Answer
message_id salt payload = if longest_payload <? length payload then refused payload_too_long else is (id_number (sha1 (salt_bytes salt ++ payload)))
