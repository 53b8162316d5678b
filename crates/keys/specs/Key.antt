-- Document 01, "Streams": "a row's key is originator and stream id". What a key is, when two are equal, and the rules that it keeps.
use Rattle.std.specs.Prelude.{ℕ, ◌+◌, ◌*◌, ◌-◌, Bool, List, length, take, drop, get_or, sum, replicate, Result, Ok, Err, if◌then◌else◌}
use Rattle.octets.specs.Words.{◌and◌, no, ◌≤?◌, ◌=?◌}
use Rattle.octets.specs.Bytes.{same, front, all_zero}
use Rattle.refusals.specs.Numbers.{no_callsign, stream_id_malformed}
use Rattle.refusals.specs.declared.Refusal.{Refusal}
use Rattle.refusals.specs.Refusals.{number_of}
use Rattle.callsigns.specs.Callsign.{callsign, same_call}
use Rattle.names.specs.Texts.{stream_id}
use Rattle.keys.specs.declared.Key.{Key}

-- the names that a key holds
abbrev pub originator_of : Key → List ℕ
originator_of k = take k.originator_len k.originator

abbrev pub stream_id_of : Key → List ℕ
stream_id_of k = take k.stream_id_len k.stream_id

-- THE EQUALITY of keys: the originators are equal callsigns, and the stream ids have the same bytes
unfoldable pub same_key : Key → Key → Bool
same_key j k = same_call (originator_of j) (originator_of k) and same (stream_id_of j) (stream_id_of k)

-- a number for a stream id, by which the code tells unlike keys apart: the sum of its bytes, then its last byte
unfoldable pub mark_of : List ℕ → ℕ
mark_of id = sum id * 256 + get_or id (length id - 1) 0

-- the key of two names, each in the front of its array with zeros behind it
unfoldable pub key_of : List ℕ → List ℕ → Key
key_of originator id =
    record {
      originator = front originator (replicate 12 0);
      originator_len = length originator;
      stream_id = front id (replicate 255 0);
      stream_id_len = length id;
    }

-- no stream's key: all zero
abbrev pub no_key : Key
no_key = record { originator = replicate 12 0; originator_len = 0; stream_id = replicate 255 0; stream_id_len = 0 }

unfoldable pub is_no_key : Key → Bool
is_no_key k =
    (length k.originator =? 12 and length k.stream_id =? 255)
    and k.originator_len =? 0
    and k.stream_id_len =? 0
    and all_zero k.originator
    and all_zero k.stream_id

-- an array of `size` bytes has a valid name in its first `len`, and zeros behind it
abbrev pub holds_name : ℕ → (List ℕ → Bool) → ℕ → List ℕ → Bool
holds_name size valid len array = length array =? size and len ≤? size and valid (take len array) and all_zero (drop len array)

-- the state rules of a key (40): the originator is a callsign, the stream id is one, and the bytes past each are zero
unfoldable pub keeps_key : Key → Bool
keeps_key k = holds_name 12 callsign k.originator_len k.originator and holds_name 255 stream_id k.stream_id_len k.stream_id

-- a key, or the number of a refusal, which is 0 where there is a key
pub record Named : Type 0 where
  pub refusal : ℕ
  pub key : Key

-- what the code's answer says
abbrev pub named_says : Result Key Refusal → Named
named_says (Ok k) = record { refusal = 0; key = k }
named_says (Err why) = record { refusal = number_of why; key = no_key }

-- the key of the names that a call is given, or the refusal: 8 where the originator is no callsign, then 9 where the stream id is malformed
unfoldable pub named_of : List ℕ → List ℕ → Named
named_of originator id =
    if no (callsign originator) then record { refusal = no_callsign; key = no_key }
    else if no (stream_id id) then record { refusal = stream_id_malformed; key = no_key }
    else record { refusal = 0; key = key_of originator id }
