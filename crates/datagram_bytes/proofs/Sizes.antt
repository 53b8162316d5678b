-- How many bytes each field takes at most, and all of them together.
use Rattle.std.specs.Prelude.{Option, Some, None}
use Prim.Native.Nat.{ℕ, ◌+◌, ◌*◌, ◌≤◌}
use mathlib.Core.Path.{◌≡◌}
use mathlib.Core.Bool.{Bool, true, false}
use mathlib.Core.List.{List, [], ◌∷◌}
use native.Mathlib.Omega.{arith}
use native.Mathlib.Nat.{mul-suc, mul-zero}
use lib.ListN.{length, length-append}
use Rattle.octets.specs.Words.{◌and◌, ◌≤?◌, between, every}
use Rattle.octets.specs.Field.{Field, num, when, given, seq, through, many_print, signed_num}
use Rattle.octets.specs.Numbers.{twos}
use Rattle.octets.proofs.NumberLaws.{length-bytes}
use Rattle.octets.proofs.Tests.{and_left, and_right, inside-high}
use Rattle.text.proofs.Numerals.{length_digits}
use Rattle.headers.specs.Keys.{key_of}
use Rattle.headers.specs.Rule.{value_of}
use Rattle.envelope.specs.Texts.{call_text, address_text, stream_text, header_text, no_headers}
use Rattle.envelope.specs.Rules.{call_bytes, address_bytes, stream_bytes}
use Rattle.layout.specs.declared.Flags.{Flags}
use Rattle.layout.specs.declared.Datagram.{Datagram}
use Rattle.layout.specs.Texts.{hops_of, hop_array}
use Rattle.layout.specs.Layout.{text, call, address, stream_name, hex_id, hop_list, hops, header, header_list, headers_of, header_array, headers, flags, flags_number, salt_if, call_if, flood_if, hops_if, fragment_of, fragment_parts, fragment, fragment_if, stream_of, stream_parts, stream, stream_if, opening, ends, way, options, message_of, parts_of, parts, layout}
use Rattle.layout.proofs.Laws.{text-short, hop_list-short, header_list-between}
use Rattle.layout.proofs.Valid.{each}

-- a good value is written in at most k bytes
record Sized {A : Type 0} (F : Field A) (k : ℕ) : Type 0 where
  pub most : (a : A) → F.ok a ≡ true → length (F.print a) ≤ k

-- ---- fields made of fields

num-size : (w : ℕ) → Sized (num w) w
num-size w = record { most = λ v e. omega (arith, length-bytes w v) }

given-most : {A : Type 0} (b : Bool) (F : Field A) (k : ℕ) → Sized F k → (o : Option A) → (given b F).ok o ≡ true → length ((given b F).print o) ≤ k
given-most b F k h None e = omega arith
given-most b F k h (Some a) e = h.most a (and_right b _ e)

given-size : {A : Type 0} (b : Bool) (F : Field A) (k : ℕ) → Sized F k → Sized (given b F) k
given-size b F k h = record { most = λ o e. given-most b F k h o e }

when-size : {A : Type 0} (b : Bool) (blank : A) (F : Field A) (k : ℕ) → Sized F k → Sized (when b blank F) k
when-size true blank F k h = h
when-size false blank F k h = record { most = λ a e. omega arith }

seq-size : {A B : Type 0} (F : Field A) (G : A → Field B) (j k : ℕ) → Sized F j → ((a : A) → Sized (G a) k) → Sized (seq F G) (j + k)
seq-size F G j k f g = record {
  most = λ x e.
      omega (arith, length-append (F.print x.0) ((G x.0).print x.1), f.most x.0 (and_left (F.ok x.0) _ e), (g x.0).most x.1 (and_right (F.ok x.0) _ e));
}

held-size : {A B : Type 0} (to : A → B) (from : B → A) (holds : B → Bool) (F : Field A) (k : ℕ) → Sized F k → Sized (through to from holds F) k
held-size to from holds F k f = record { most = λ b e. f.most (from b) (and_right (holds b) (F.ok (from b)) e) }

many-size : {A : Type 0} (F : Field A) (k : ℕ) → Sized F k → (l : List A) → every F.ok l ≡ true → length (many_print F l) ≤ k * length l
many-size F k h [] e = omega (arith, mul-zero k)
many-size F k h (a ∷ l) e =
    omega (arith, length-append (F.print a) (many_print F l), h.most a (and_left (F.ok a) _ e), many-size F k h l (and_right (F.ok a) _ e), mul-suc k (length l))

-- ---- the fields

text-size : (w most : ℕ) → Sized (text w most) (w + most)
unfolding text
text-size w most = record { most = λ l e. omega (arith, length-append ((num w).print (length l)) l, length-bytes w (length l), text-short w most l e) }

call-size : (w : ℕ) → Sized (call w) (w + 12)
unfolding call
call-size w = held-size call_text call_bytes (λ t. t.len ≤? 12) (text w 12) (w + 12) (text-size w 12)

address-size : Sized address 47
unfolding address
address-size = held-size address_text address_bytes (λ t. t.len ≤? 45) (text 2 45) 47 (text-size 2 45)

name-size : Sized stream_name 256
unfolding stream_name
name-size = held-size stream_text stream_bytes (λ t. t.len ≤? 255) (text 1 255) 256 (text-size 1 255)

id-size : Sized hex_id 7
unfolding hex_id
id-size = record { most = λ v e. omega (arith, length_digits 16 7 v) }

flags-size : Sized flags 2
unfolding flags
flags-size = record { most = λ f e. omega (arith, length-bytes 2 (flags_number f)) }

salt-size : Sized signed_num 8
salt-size = record { most = λ z e. omega (arith, length-bytes 8 (twos z)) }

hop_list-size : Sized hop_list 209
hop_list-size = record {
  most = λ l e.
      omega (arith, length-append ((num 1).print (length l)) (many_print (call 1) l), length-bytes 1 (length l), many-size (call 1) 13 (call-size 1) l (each (λ n. n ≤? 16) 1 (call 1) l e), hop_list-short l e);
}

hops-size : Sized hops 209
unfolding hops
hops-size = held-size hop_array hops_of (λ h. h.count ≤? 16) hop_list 209 hop_list-size

header-size : Sized header 164
unfolding header
header-size =
    held-size (λ x. header_text x.0 x.1) (λ h. (key_of h, value_of h)) (λ h. h.key_len ≤? 32 and h.value_len ≤? 128) (seq (text 2 32) (λ key. text 2 128)) 164
    (seq-size (text 2 32) (λ key. text 2 128) 34 130 (text-size 2 32) (λ key. text-size 2 128))

header_list-size : Sized header_list 1314
header_list-size = record {
  most = λ l e.
      omega (arith, length-append ((num 2).print (length l)) (many_print header l), length-bytes 2 (length l), many-size header 164 header-size l (each (between 1 8) 2 header l e), inside-high 1 8 (length l) (header_list-between l e));
}

headers-size : Sized headers 1314
unfolding headers
headers-size = held-size header_array headers_of (λ h. h.count ≤? 8) header_list 1314 header_list-size

-- ---- the groups, and the whole

fragment-size : Sized fragment 11
fragment-size =
    held-size fragment_of _ (λ f. true) fragment_parts 11 (seq-size hex_id _ 7 4 id-size (λ i. seq-size (num 2) _ 2 2 (num-size 2) (λ j. num-size 2)))

stream-size : Sized stream 264
stream-size =
    held-size stream_of _ (λ s. true) stream_parts 264 (seq-size stream_name _ 256 8 name-size (λ i. seq-size (num 4) _ 4 4 (num-size 4) (λ j. num-size 4)))

opening-size : Sized opening 21
unfolding opening
opening-size =
    seq-size flags _ 2 19 flags-size (λ f. seq-size hex_id _ 7 12 id-size (λ i. seq-size (salt_if f.salt) _ 8 4 (given-size f.salt signed_num 8 salt-size) (λ s. given-size f.ttl (num 4) 4 (num-size 4))))

ends-size : (f : Flags) → Sized (ends f) 75
unfolding ends
ends-size f =
    seq-size address _ 47 28 address-size
    (λ d. seq-size (call_if f.originator) _ 14 14 (given-size f.originator (call 2) 14 (call-size 2)) (λ o. given-size f.link (call 2) 14 (call-size 2)))

way-size : (f : Flags) → Sized (way f) 419
unfolding way
way-size f =
    seq-size (flood_if f.flood) _ 1 418 (given-size f.flood (num 1) 1 (num-size 1))
    (λ n. seq-size (hops_if f.route) _ 209 209 (given-size f.route hops 209 hops-size) (λ r. given-size f.hops hops 209 hops-size))

options-size : (f : Flags) → Sized (options f) 1589
unfolding options
options-size f =
    seq-size (fragment_if f.fragment) _ 11 1578 (given-size f.fragment fragment 11 fragment-size)
    (λ g. seq-size (stream_if f.stream) _ 264 1314 (given-size f.stream stream 264 stream-size) (λ s. when-size f.headers no_headers headers 1314 headers-size))

pub fields-size : (m : Datagram) → layout.ok m ≡ true → length (layout.print m) ≤ 2104
unfolding layout
fields-size m e =
    (held-size message_of parts_of (λ m. true) parts 2104
    (seq-size opening _ 21 2083 opening-size (λ o. seq-size (ends o.0) _ 75 2008 (ends-size o.0) (λ e. seq-size (way o.0) _ 419 1589 (way-size o.0) (λ w. options-size o.0))))
    ).most m e
