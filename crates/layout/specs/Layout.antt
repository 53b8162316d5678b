-- Source 000, "Datagram bearer": the layout of a version 7 datagram before its payload length, a line for each field, in its order and
-- with its flag bit. Numbers are little-endian. Each field is read from the part that begins where the last one ended (`seq`).
use Rattle.std.specs.Prelude.{ℕ, ◌+◌, ◌*◌, ◌/◌, ◌%◌, ◌^◌, Bool, true, List, [], length, take, replicate, ℤ, Option, is_some, if◌then◌else◌}
use Rattle.octets.specs.Words.{◌and◌, ◌<?◌, ◌≤?◌, ◌=?◌, between}
use Rattle.octets.specs.Bytes.{front}
use Rattle.octets.specs.Field.{Field, num, raw, only, when, given, seq, tagged, through, many, signed_num}
use Rattle.text.specs.Digits.{is_digit}
use Rattle.text.specs.Hex.{hex_value, hex_digits}
use Rattle.field_rules.specs.Rules.{id_in}
use Rattle.headers.specs.declared.Header.{Header}
use Rattle.headers.specs.declared.Headers.{Headers}
use Rattle.headers.specs.Keys.{key_of}
use Rattle.headers.specs.Rule.{value_of}
use Rattle.envelope.specs.declared.CallText.{CallText}
use Rattle.envelope.specs.declared.AddressText.{AddressText}
use Rattle.envelope.specs.declared.StreamText.{StreamText}
use Rattle.envelope.specs.declared.Fragment.{Fragment}
use Rattle.envelope.specs.declared.Stream.{Stream}
use Rattle.envelope.specs.Texts.{call_text, address_text, stream_text, header_text, no_headers}
use Rattle.envelope.specs.Rules.{call_bytes, address_bytes, stream_bytes}
use Rattle.layout.specs.declared.Hops.{Hops}
use Rattle.layout.specs.declared.Flags.{Flags}
use Rattle.layout.specs.declared.Datagram.{Datagram}
use Rattle.layout.specs.Texts.{hops_of, hop_array}
use Rattle.layout.specs.Rules.{valid}

-- ---- texts and lists, with their lengths before them

-- a text: its length in w bytes, and as many bytes; at most as many as its array holds
unfoldable pub text : ℕ → ℕ → Field (List ℕ)
text w most = tagged length (only (λ n. n ≤? most) (num w)) (raw (λ x. true))

unfoldable pub call : ℕ → Field CallText
call w = through call_text call_bytes (λ t. t.len ≤? 12) (text w 12)

unfoldable pub address : Field AddressText
address = through address_text address_bytes (λ t. t.len ≤? 45) (text 2 45)

unfoldable pub stream_name : Field StreamText
stream_name = through stream_text stream_bytes (λ t. t.len ≤? 255) (text 1 255)

-- an id: 7 hexadecimal digits
unfoldable pub hex_id : Field ℕ
hex_id = through hex_value (hex_digits 7) id_in (raw (is_digit 16) 7)

-- [1] hop count, then per hop [1] hop length, [N] hop callsign; 0 to 16 hops
abbrev pub hop_list : Field (List CallText)
hop_list = tagged length (only (λ n. n ≤? 16) (num 1)) (many (call 1))

unfoldable pub hops : Field Hops
hops = through hop_array hops_of (λ h. h.count ≤? 16) hop_list

-- [2] key length, [K] key, [2] value length, [V] value
unfoldable pub header : Field Header
header = through
    (λ x. header_text x.0 x.1)
    (λ h. (key_of h, value_of h))
    (λ h. h.key_len ≤? 32 and h.value_len ≤? 128)
    (seq (text 2 32) (λ key. text 2 128))

-- [2] header count, then each header; 1 to 8 headers
abbrev pub header_list : Field (List Header)
header_list = tagged length (only (between 1 8) (num 2)) (many header)

abbrev pub headers_of : Headers → List Header
headers_of h = take h.count h.items

abbrev pub header_array : List Header → Headers
header_array l = record { count = length l; items = front l (replicate 8 (header_text [] [])) }

unfoldable pub headers : Field Headers
headers = through header_array headers_of (λ h. h.count ≤? 8) header_list

-- ---- the flags

-- bit k of a number
unfoldable pub bit : ℕ → ℕ → Bool
bit k v = v / 2 ^ k % 2 =? 1

unfoldable pub flags_of : ℕ → Flags
flags_of v = record {
  salt = bit 0 v;
  ttl = bit 1 v;
  headers = bit 2 v;
  originator = bit 3 v;
  link = bit 4 v;
  flood = bit 5 v;
  route = bit 6 v;
  hops = bit 7 v;
  fragment = bit 8 v;
  stream = bit 9 v;
}

-- 1 where the flag is set
abbrev pub one : Bool → ℕ
one b = if b then 1 else 0

-- the number of which these are the bits
unfoldable pub flags_number : Flags → ℕ
flags_number f =
    one f.salt
    + (2 * one f.ttl
    + (4 * one f.headers
    + (8 * one f.originator
    + (16 * one f.link
    + (32 * one f.flood
    + (64 * one f.route
    + (128 * one f.hops
    + (256 * one f.fragment
    + 512 * one f.stream))))))))

-- ---- the fields, in their order

-- [2] flags; bits 10 to 15 must be clear
unfoldable pub flags : Field Flags
flags = through flags_of flags_number (λ f. true) (only (λ v. v <? 2 ^ 10) (num 2))

-- [7] id
abbrev pub id : Field ℕ
id = hex_id

-- bit 0, HasSalt: [8] salt (signed)
abbrev pub salt_if : Bool → Field (Option ℤ)
salt_if has = given has signed_num

-- bit 1, HasTtl: [4] ttl seconds
abbrev pub ttl_if : Bool → Field (Option ℕ)
ttl_if has = given has (num 4)

-- [2] destination length, [N] destination
abbrev pub destination : Field AddressText
destination = address

-- bit 3, HasOriginator, and bit 4, HasLinkSource: [2] length, [N] callsign
abbrev pub call_if : Bool → Field (Option CallText)
call_if has = given has (call 2)

-- bit 5, HasFloodHopsRemaining: [1] flood hops
abbrev pub flood_if : Bool → Field (Option ℕ)
flood_if has = given has (num 1)

-- bit 6, HasSourceRoute, and bit 7, HasTraversedHops
abbrev pub hops_if : Bool → Field (Option Hops)
hops_if has = given has hops

-- bit 8, HasFragment: [7] master id, [2] fragment index, [2] fragment total
abbrev pub fragment_of : ℕ × (ℕ × ℕ) → Fragment
fragment_of x = record { mid = x.0; index = x.1.0; total = x.1.1 }

abbrev pub fragment_parts : Field (ℕ × (ℕ × ℕ))
fragment_parts = seq hex_id (λ mid. seq (num 2) (λ index. num 2))

abbrev pub fragment : Field Fragment
fragment = through fragment_of (λ f. (f.mid, (f.index, f.total))) (λ f. true) fragment_parts

abbrev pub fragment_if : Bool → Field (Option Fragment)
fragment_if has = given has fragment

-- bit 9, HasStream: [1] stream id length, [S] stream id, [4] stream seq, [4] stream gap timeout
abbrev pub stream_of : StreamText × (ℕ × ℕ) → Stream
stream_of x = record { sid = x.0; sn = x.1.0; gt = x.1.1 }

abbrev pub stream_parts : Field (StreamText × (ℕ × ℕ))
stream_parts = seq stream_name (λ sid. seq (num 4) (λ sn. num 4))

abbrev pub stream : Field Stream
stream = through stream_of (λ s. (s.sid, (s.sn, s.gt))) (λ s. true) stream_parts

abbrev pub stream_if : Bool → Field (Option Stream)
stream_if has = given has stream

-- bit 2, HasHeaders
abbrev pub headers_if : Bool → Field Headers
headers_if has = when has no_headers headers

abbrev pub Opening : Type 0
Opening = Flags × (ℕ × (Option ℤ × Option ℕ))

abbrev pub Ends : Type 0
Ends = AddressText × (Option CallText × Option CallText)

abbrev pub Way : Type 0
Way = Option ℕ × (Option Hops × Option Hops)

abbrev pub Options : Type 0
Options = Option Fragment × (Option Stream × Headers)

-- flags, id, salt, ttl
unfoldable pub opening : Field Opening
opening = seq flags (λ f. seq id (λ i. seq (salt_if f.salt) (λ s. ttl_if f.ttl)))

-- destination, originator, link source
unfoldable pub ends : Flags → Field Ends
ends f = seq destination (λ d. seq (call_if f.originator) (λ o. call_if f.link))

-- flood hops, source route, traversed hops
unfoldable pub way : Flags → Field Way
way f = seq (flood_if f.flood) (λ n. seq (hops_if f.route) (λ r. hops_if f.hops))

-- fragment, stream, headers
unfoldable pub options : Flags → Field Options
options f = seq (fragment_if f.fragment) (λ g. seq (stream_if f.stream) (λ s. headers_if f.headers))

-- ---- a message: these fields, put together; its flags are set where its fields are there

abbrev pub message_of : Opening × (Ends × (Way × Options)) → Datagram
message_of x = record {
  fields = record {
    id = x.0.1.0;
    salt = x.0.1.1.0;
    ttl = x.0.1.1.1;
    src = x.1.0.1.0;
    fragment = x.1.1.1.0;
    stream = x.1.1.1.1.0;
    headers = x.1.1.1.1.1;
    dst = x.1.0.0;
  };
  link = x.1.0.1.1;
  flood = x.1.1.0.0;
  route = x.1.1.0.1.0;
  hops = x.1.1.0.1.1;
}

-- the flags of a message; it has headers where it has one or more
abbrev pub message_flags : Datagram → Flags
message_flags m = record {
  salt = is_some m.fields.salt;
  ttl = is_some m.fields.ttl;
  headers = 1 ≤? m.fields.headers.count;
  originator = is_some m.fields.src;
  link = is_some m.link;
  flood = is_some m.flood;
  route = is_some m.route;
  hops = is_some m.hops;
  fragment = is_some m.fields.fragment;
  stream = is_some m.fields.stream;
}

abbrev pub opening_of : Datagram → Opening
opening_of m = (message_flags m, (m.fields.id, (m.fields.salt, m.fields.ttl)))

abbrev pub ends_of : Datagram → Ends
ends_of m = (m.fields.dst, (m.fields.src, m.link))

abbrev pub way_of : Datagram → Way
way_of m = (m.flood, (m.route, m.hops))

abbrev pub options_of : Datagram → Options
options_of m = (m.fields.fragment, (m.fields.stream, m.fields.headers))

abbrev pub parts_of : Datagram → Opening × (Ends × (Way × Options))
parts_of m = (opening_of m, (ends_of m, (way_of m, options_of m)))

abbrev pub parts : Field (Opening × (Ends × (Way × Options)))
parts = seq opening (λ o. seq (ends o.0) (λ e. seq (way o.0) (λ w. options o.0)))

-- the fields before the payload length, whatever they say
unfoldable pub layout : Field Datagram
layout = through message_of parts_of (λ m. true) parts

-- and those of a valid message
unfoldable pub message : Field Datagram
message = only valid layout
