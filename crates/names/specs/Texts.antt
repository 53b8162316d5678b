-- Document 01, "Names and fields": stream id, header key and header value. All three keep one rule of bytes.
use Rattle.std.specs.Prelude.{ℕ, Bool, true, false, List, length}
use Rattle.octets.specs.Words.{◌and◌, ◌or◌, no, ◌≤?◌, ◌=?◌, between, every}
use Rattle.utf8.specs.Utf8.{utf8}
use Rattle.names.specs.Reserved.{reserved}

-- no byte up to 0x20, no 0x7F, and no `=` but where it is allowed
unfoldable pub text_byte : Bool → ℕ → Bool
text_byte equals x = 0x21 ≤? x and (no (x =? 0x7F) and (equals or no (x =? 61)))

-- well-formed UTF-8 of such bytes
unfoldable pub ruled : Bool → List ℕ → Bool
ruled equals s = utf8 s and every (text_byte equals) s

-- the stream id's rule, for texts of 1 to most bytes: no `=`
unfoldable pub id_text : ℕ → List ℕ → Bool
id_text most s = between 1 most (length s) and ruled false s

-- 1 to 255 bytes of well-formed UTF-8, no `=`, no byte up to 0x20, no 0x7F
unfoldable pub stream_id : List ℕ → Bool
stream_id s = id_text 255 s

-- 1 to 32 bytes by the stream id's rule, not reserved
unfoldable pub header_key : List ℕ → Bool
header_key s = id_text 32 s and no (reserved s)

-- 0 to 128 bytes, by the same rule but `=` allowed
unfoldable pub header_value : List ℕ → Bool
header_value s = length s ≤? 128 and ruled true s
