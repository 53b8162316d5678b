-- The laws of the layout, one for each field: what is written is read back, and what was read is what would be written.
use Prim.Native.Nat.{ℕ, zero, suc, ◌+◌, ◌*◌, ◌/◌, ◌%◌, ◌^◌, ◌≤◌, ◌<◌}
use mathlib.Core.Path.{◌≡◌, refl}
use mathlib.Core.Bool.{Bool, true, false}
use mathlib.Core.List.{List}
use native.Mathlib.Omega.{arith}
use lib.ListN.{length, take}
use lib.Seq.{take-append_seam}
use borrow.Author.Tests.{le-leb, lt-ltb, leb-true, ltb-true, eqb-true, eq-eqb, ne_eqb}
use Rattle.octets.specs.Words.{◌and◌, ◌<?◌, ◌≤?◌, ◌=?◌, between}
use Rattle.octets.specs.Field.{Field, num, raw, only, seq, many, signed_num}
use Rattle.octets.proofs.Tests.{if_yes, and_left, and_right, and_both, inside-high}
use Rattle.octets.proofs.FieldLaws.{Laws, num_laws, raw_laws, only-laws, when-laws, given-laws, seq-laws, tagged-laws, through-laws, many-laws, signed-laws}
use Rattle.text.specs.Digits.{is_digit}
use Rattle.text.specs.Hex.{hex_value, hex_digits}
use Rattle.text.proofs.Hexes.{hex-forth, hex-below}
use Rattle.field_rules.specs.Rules.{id_in}
use Rattle.headers.specs.declared.Header.{Header}
use Rattle.headers.specs.Keys.{key_of}
use Rattle.headers.specs.Rule.{value_of}
use Rattle.envelope.specs.declared.CallText.{CallText}
use Rattle.envelope.specs.Texts as texts
use Rattle.envelope.specs.Texts.{padded, call_text, address_text, stream_text, header_text, no_headers}
use Rattle.envelope.specs.Rules.{call_bytes, address_bytes, stream_bytes}
use Rattle.layout.specs.declared.Flags.{Flags}
use Rattle.layout.specs.Texts.{hops_of, hop_array}
use Rattle.layout.specs.Layout.{text, call, address, stream_name, hex_id, hop_list, hops, header, header_list, headers_of, header_array, headers, bit, flags_of, one, flags_number, flags, salt_if, ttl_if, call_if, flood_if, hops_if, fragment_of, fragment_parts, fragment, fragment_if, stream_of, stream_parts, stream, stream_if, headers_if}

-- ---- texts

text-told : (a : ℕ) (l : List ℕ) → (raw (λ x. true) a).ok l ≡ true → length l ≡ a
text-told a l e = eqb-true (length l) a (and_left _ _ e)

pub text-laws : (w most : ℕ) → Laws (text w most)
unfolding text
text-laws w most =
    tagged-laws length (only (λ n. n ≤? most) (num w)) (raw (λ x. true)) text-told (λ a h. refl)
    (only-laws (λ n. n ≤? most) (num w) (λ a h. refl) (num_laws w))
    (λ k. raw_laws (λ x. true) k)

pub text-short : (w most : ℕ) (l : List ℕ) → (text w most).ok l ≡ true → length l ≤ most
unfolding text
text-short w most l e = leb-true (length l) most (and_right ((num w).ok (length l)) _ (and_left _ _ e))

-- a text that an array can hold is held whole
pub held_whole : (n : ℕ) (l : List ℕ) → length l ≤ n → texts.fitted n l ≡ l
unfolding texts.fitted
held_whole n l h = if_yes _ _ _ (le-leb (length l) n h)

pub held-text : (n : ℕ) (l : List ℕ) → length l ≤ n → take (length (texts.fitted n l)) (padded n (texts.fitted n l)) ≡ l
unfolding padded
held-text n l h = rw (held_whole n l h) (take-append_seam l _)

held-length : (n : ℕ) (l : List ℕ) → length l ≤ n → (length (texts.fitted n l) ≤? n) ≡ true
held-length n l h = rw (held_whole n l h) (le-leb (length l) n h)

pub call-laws : (w : ℕ) → Laws (call w)
unfolding call
call-laws w =
    through-laws call_text call_bytes (λ t. t.len ≤? 12) (text w 12) (λ l e. (held-text 12 l (text-short w 12 l e), held-length 12 l (text-short w 12 l e)))
    (text-laws w 12)

pub address-laws : Laws address
unfolding address
address-laws =
    through-laws address_text address_bytes (λ t. t.len ≤? 45) (text 2 45)
    (λ l e. (held-text 45 l (text-short 2 45 l e), held-length 45 l (text-short 2 45 l e)))
    (text-laws 2 45)

pub stream_name-laws : Laws stream_name
unfolding stream_name
stream_name-laws =
    through-laws stream_text stream_bytes (λ t. t.len ≤? 255) (text 1 255)
    (λ l e. (held-text 255 l (text-short 1 255 l e), held-length 255 l (text-short 1 255 l e)))
    (text-laws 1 255)

pub hex_id-laws : Laws hex_id
unfolding hex_id id_in
hex_id-laws =
    through-laws hex_value (hex_digits 7) id_in (raw (is_digit 16) 7) (λ l e. (hex-forth 7 l e, lt-ltb _ _ (hex-below 7 l e))) (raw_laws (is_digit 16) 7)

-- ---- lists

many-told : {A : Type 0} (F : Field A) (k : ℕ) (l : List A) → (many F k).ok l ≡ true → length l ≡ k
many-told F k l e = eqb-true (length l) k (and_left _ _ e)

pub hop_list-laws : Laws hop_list
hop_list-laws =
    tagged-laws length (only (λ n. n ≤? 16) (num 1)) (many (call 1)) (many-told (call 1)) (λ a h. refl)
    (only-laws (λ n. n ≤? 16) (num 1) (λ a h. refl) (num_laws 1))
    (λ k. many-laws (call 1) k (call-laws 1))

pub hop_list-short : (l : List CallText) → hop_list.ok l ≡ true → length l ≤ 16
hop_list-short l e = leb-true (length l) 16 (and_right ((num 1).ok (length l)) _ (and_left _ _ e))

pub hops-laws : Laws hops
unfolding hops
hops-laws =
    through-laws hop_array hops_of (λ h. h.count ≤? 16) hop_list (λ l e. (take-append_seam l _, le-leb _ _ (hop_list-short l e))) hop_list-laws

pub header-laws : Laws header
unfolding header key_of value_of
header-laws =
    through-laws (λ x. header_text x.0 x.1) (λ h. (key_of h, value_of h)) (λ h. h.key_len ≤? 32 and h.value_len ≤? 128)
    (seq (text 2 32) (λ key. text 2 128))
    (λ x e.
    let k = text-short 2 32 x.0 (and_left _ _ e) in
    let v = text-short 2 128 x.1 (and_right ((text 2 32).ok x.0) _ e) in
    (rw (held-text 32 x.0 k, held-text 128 x.1 v), and_both _ _ (held-length 32 x.0 k) (held-length 128 x.1 v)))
    (seq-laws (text 2 32) (λ key. text 2 128) (λ a h. refl) (text-laws 2 32) (λ key. text-laws 2 128))

pub header_list-laws : Laws header_list
header_list-laws =
    tagged-laws length (only (between 1 8) (num 2)) (many header) (many-told header) (λ a h. refl)
    (only-laws (between 1 8) (num 2) (λ a h. refl) (num_laws 2))
    (λ k. many-laws header k header-laws)

pub header_list-between : (l : List Header) → header_list.ok l ≡ true → between 1 8 (length l) ≡ true
header_list-between l e = and_right ((num 2).ok (length l)) _ (and_left _ _ e)

pub headers-laws : Laws headers
unfolding headers
headers-laws =
    through-laws header_array headers_of (λ h. h.count ≤? 8) header_list
    (λ l e. (take-append_seam l _, le-leb _ _ (inside-high 1 8 (length l) (header_list-between l e))))
    header_list-laws

-- ---- flags

-- a bit of a number, as a number, and back
one-digit : (b : ℕ) → b < 2 → one (b =? 1) ≡ b
one-digit zero h = refl
one-digit (suc zero) h = refl
one-digit (suc (suc b)) h = absurd (omega arith)

one_bit : (k v : ℕ) → one (bit k v) ≡ v / 2 ^ k % 2
unfolding bit
one_bit k v = one-digit (v / 2 ^ k % 2) (omega arith)

one-small : (b : Bool) → one b < 2
one-small true = omega arith
one-small false = omega arith

is_one : (b : Bool) (v : ℕ) → v ≡ one b → (v =? 1) ≡ b
is_one true v e = eq-eqb v 1 e
is_one false v e = ne_eqb v 1 (λ h. omega arith)

-- ten digits make the number that they were taken from
ten-digits : (v q1 q2 q3 q4 q5 q6 q7 q8 b0 b1 b2 b3 b4 b5 b6 b7 b8 b9 : ℕ) → v ≡ b0 + 2 * q1 → q1 ≡ b1 + 2 * q2 → q2 ≡ b2 + 2 * q3 → q3 ≡ b3 + 2 * q4 → q4 ≡ b4 + 2 * q5
    → q5 ≡ b5 + 2 * q6 → q6 ≡ b6 + 2 * q7 → q7 ≡ b7 + 2 * q8 → q8 ≡ b8 + 2 * b9
    → b0 + (2 * b1 + (4 * b2 + (8 * b3 + (16 * b4 + (32 * b5 + (64 * b6 + (128 * b7 + (256 * b8 + 512 * b9)))))))) ≡ v
ten-digits v q1 q2 q3 q4 q5 q6 q7 q8 b0 b1 b2 b3 b4 b5 b6 b7 b8 b9 e0 e1 e2 e3 e4 e5 e6 e7 e8 = omega arith

pub number-bits : (v : ℕ) → v < 2 ^ 10 → flags_number (flags_of v) ≡ v
unfolding flags_number flags_of
number-bits v h =
    rw (one_bit 0 v, one_bit 1 v, one_bit 2 v, one_bit 3 v, one_bit 4 v, one_bit 5 v, one_bit 6 v, one_bit 7 v, one_bit 8 v, one_bit 9 v)
    (ten-digits v (v / 2) (v / 4) (v / 8) (v / 16) (v / 32) (v / 64) (v / 128) (v / 256) (v / 1 % 2) (v / 2 % 2) (v / 4 % 2) (v / 8 % 2) (v / 16 % 2) (v / 32 % 2) (v / 64 % 2) (v / 128 % 2) (v / 256 % 2) (v / 512 % 2)
    (omega arith) (omega arith) (omega arith) (omega arith) (omega arith) (omega arith) (omega arith) (omega arith) (omega arith))

pub bits-number : (f : Flags) → flags_of (flags_number f) ≡ f
unfolding flags_number flags_of bit
bits-number f = rw (
  is_one f.salt (flags_number f / 1 % 2) (omega (arith, one-small f.salt, one-small f.ttl, one-small f.headers, one-small f.originator, one-small f.link, one-small f.flood, one-small f.route, one-small f.hops, one-small f.fragment, one-small f.stream)),
  is_one f.ttl (flags_number f / 2 % 2) (omega (arith, one-small f.salt, one-small f.ttl, one-small f.headers, one-small f.originator, one-small f.link, one-small f.flood, one-small f.route, one-small f.hops, one-small f.fragment, one-small f.stream)),
  is_one f.headers (flags_number f / 4 % 2) (omega (arith, one-small f.salt, one-small f.ttl, one-small f.headers, one-small f.originator, one-small f.link, one-small f.flood, one-small f.route, one-small f.hops, one-small f.fragment, one-small f.stream)),
  is_one f.originator (flags_number f / 8 % 2) (omega (arith, one-small f.salt, one-small f.ttl, one-small f.headers, one-small f.originator, one-small f.link, one-small f.flood, one-small f.route, one-small f.hops, one-small f.fragment, one-small f.stream)),
  is_one f.link (flags_number f / 16 % 2) (omega (arith, one-small f.salt, one-small f.ttl, one-small f.headers, one-small f.originator, one-small f.link, one-small f.flood, one-small f.route, one-small f.hops, one-small f.fragment, one-small f.stream)),
  is_one f.flood (flags_number f / 32 % 2) (omega (arith, one-small f.salt, one-small f.ttl, one-small f.headers, one-small f.originator, one-small f.link, one-small f.flood, one-small f.route, one-small f.hops, one-small f.fragment, one-small f.stream)),
  is_one f.route (flags_number f / 64 % 2) (omega (arith, one-small f.salt, one-small f.ttl, one-small f.headers, one-small f.originator, one-small f.link, one-small f.flood, one-small f.route, one-small f.hops, one-small f.fragment, one-small f.stream)),
  is_one f.hops (flags_number f / 128 % 2) (omega (arith, one-small f.salt, one-small f.ttl, one-small f.headers, one-small f.originator, one-small f.link, one-small f.flood, one-small f.route, one-small f.hops, one-small f.fragment, one-small f.stream)),
  is_one f.fragment (flags_number f / 256 % 2) (omega (arith, one-small f.salt, one-small f.ttl, one-small f.headers, one-small f.originator, one-small f.link, one-small f.flood, one-small f.route, one-small f.hops, one-small f.fragment, one-small f.stream)),
  is_one f.stream (flags_number f / 512 % 2) (omega (arith, one-small f.salt, one-small f.ttl, one-small f.headers, one-small f.originator, one-small f.link, one-small f.flood, one-small f.route, one-small f.hops, one-small f.fragment, one-small f.stream)),
)

pub flags-laws : Laws flags
unfolding flags
flags-laws =
    through-laws flags_of flags_number (λ f. true) (only (λ v. v <? 2 ^ 10) (num 2)) (λ v e. (number-bits v (ltb-true v (2 ^ 10) (and_right ((num 2).ok v) _ e)), refl))
    (only-laws (λ v. v <? 2 ^ 10) (num 2) (λ a h. refl) (num_laws 2))

-- ---- the groups

pub salt_if-laws : (b : Bool) → Laws (salt_if b)
salt_if-laws b = given-laws b signed_num signed-laws

pub ttl_if-laws : (b : Bool) → Laws (ttl_if b)
ttl_if-laws b = given-laws b (num 4) (num_laws 4)

pub call_if-laws : (b : Bool) → Laws (call_if b)
call_if-laws b = given-laws b (call 2) (call-laws 2)

pub flood_if-laws : (b : Bool) → Laws (flood_if b)
flood_if-laws b = given-laws b (num 1) (num_laws 1)

pub hops_if-laws : (b : Bool) → Laws (hops_if b)
hops_if-laws b = given-laws b hops hops-laws

pub fragment-laws : Laws fragment
fragment-laws =
    through-laws fragment_of _ (λ f. true) fragment_parts (λ x e. (refl, refl))
    (seq-laws hex_id _ (λ a h. refl) hex_id-laws (λ mid. seq-laws (num 2) _ (λ a h. refl) (num_laws 2) (λ index. num_laws 2)))

pub fragment_if-laws : (b : Bool) → Laws (fragment_if b)
fragment_if-laws b = given-laws b fragment fragment-laws

pub stream-laws : Laws stream
stream-laws =
    through-laws stream_of _ (λ s. true) stream_parts (λ x e. (refl, refl))
    (seq-laws stream_name _ (λ a h. refl) stream_name-laws (λ sid. seq-laws (num 4) _ (λ a h. refl) (num_laws 4) (λ sn. num_laws 4)))

pub stream_if-laws : (b : Bool) → Laws (stream_if b)
stream_if-laws b = given-laws b stream stream-laws

pub headers_if-laws : (b : Bool) → Laws (headers_if b)
headers_if-laws b = when-laws b no_headers headers headers-laws
