-- What reading back clears is what the message's own rule of tidiness clears.
use Rattle.std.specs.Prelude.{Option, Some, None, option_map}
use Prim.Native.Nat.{ℕ, ◌^◌}
use mathlib.Core.Path.{◌≡◌, refl, ap, ◌∙◌}
use mathlib.Core.Bool.{Bool, true, false}
use mathlib.Core.List.{map}
use native.Mathlib.Omega.{arith}
use borrow.Author.Tests.{leb-true, leb-false, ltb-true}
use lib.ListN.{length, length-take, length-map}
use lib.IntN.{ℤ}
use lib.Signed.{mag}
use Rattle.octets.proofs.SignLaws.{twos_back}
use Rattle.octets.specs.Words.{◌≤?◌}
use Rattle.octets.specs.Field.{Field, num, given, signed_num}
use Rattle.octets.proofs.Tests.{and_left, and_right}
use Rattle.headers.specs.declared.Headers.{Headers}
use Rattle.envelope.specs.declared.CallText.{CallText}
use Rattle.envelope.specs.declared.AddressText.{AddressText}
use Rattle.envelope.specs.declared.Fragment.{Fragment}
use Rattle.envelope.specs.declared.Stream.{Stream}
use Rattle.envelope.specs.Texts.{address_text}
use Rattle.envelope.specs.Rules.{address_bytes}
use Rattle.envelope.specs.Tidy.{tidy_call, tidy_stream, tidy_header, tidy_headers, tidy}
use Rattle.layout.specs.declared.Hops.{Hops}
use Rattle.layout.specs.declared.Flags.{Flags}
use Rattle.layout.specs.declared.Datagram.{Datagram}
use Rattle.layout.specs.Tidy.{tidy_hops, tidy_datagram}
use Rattle.layout.specs.Layout.{text, call, address, stream_name, hex_id, hops, header, headers_of, headers, flags, salt_if, call_if, flood_if, hops_if, fragment_of, fragment, fragment_if, stream, stream_if, headers_if, opening, ends, way, options, message_of, message_flags, opening_of, ends_of, way_of, layout, message}
use Rattle.layout.proofs.Valid.{id-tidy, layout-tidy}
use Rattle.datagram_bytes.specs.Bytes.{Typed}

-- ---- each field

given-tidy : {A : Type 0} (b : Bool) (F : Field A) (c : A → A) (o : Option A) → (given b F).ok o ≡ true → ((a : A) → F.ok a ≡ true → F.tidy a ≡ c a) → (given b F).tidy o ≡ option_map c o
given-tidy b F c None e h = refl
given-tidy b F c (Some a) e h = ap Some (h a (and_right b _ e))

given-kept : {A : Type 0} (b : Bool) (F : Field A) (o : Option A) → (given b F).ok o ≡ true → ((a : A) → F.ok a ≡ true → F.tidy a ≡ a) → (given b F).tidy o ≡ o
given-kept b F None e h = refl
given-kept b F (Some a) e h = ap Some (h a (and_right b _ e))

salt-tidy : (z : ℤ) → signed_num.ok z ≡ true → signed_num.tidy z ≡ z
salt-tidy z e = twos_back z (ltb-true (mag z) (2 ^ 63) (and_left _ _ e))

call-tidy : (t : CallText) → (call 2).tidy t ≡ tidy_call t
unfolding call text
call-tidy t = refl

address-tidy : (t : AddressText) → address.tidy t ≡ address_text (address_bytes t)
unfolding address text
address-tidy t = refl

hops-tidy : (h : Hops) → hops.tidy h ≡ tidy_hops h
unfolding hops call text
hops-tidy h = refl

fragment-tidy : (g : Fragment) → fragment.ok g ≡ true → fragment.tidy g ≡ g
fragment-tidy g e = ap (λ (v : ℕ). fragment_of (v, (g.index, g.total))) (id-tidy g.mid (and_left (hex_id.ok g.mid) _ e))

stream-tidy : (q : Stream) → stream.tidy q ≡ tidy_stream q
unfolding stream_name text
stream-tidy q = refl

headers-tidy : (b : Bool) (h : Headers) → length h.items ≡ 8 → (1 ≤? h.count) ≡ b → (headers_if b).ok h ≡ true → (headers_if b).tidy h ≡ tidy_headers h
unfolding headers header text tidy_headers
headers-tidy true h l f e =
    let most = leb-true h.count 8 (and_left (h.count ≤? 8) _ e) in
    let n : length (map tidy_header (headers_of h)) ≡ h.count = length-map (headers_of h) tidy_header ∙ omega (arith, length-take h.count h.items, most, l) in
    rw n
headers-tidy false h l f e = let z : h.count ≡ 0 = omega (arith, leb-false 1 h.count f) in rw z

-- ---- the whole message

module _ (f : Flags) (i i' : ℕ) (s s' : Option ℤ) (t t' : Option ℕ) (d d' : AddressText) (o o' l l' : Option CallText) (n n' : Option ℕ) (r r' h h' : Option Hops) (g g' : Option Fragment) (q q' : Option Stream) (k k' : Headers) where
  same-message : i ≡ i' → s ≡ s' → t ≡ t' → d ≡ d' → o ≡ o' → l ≡ l' → n ≡ n' → r ≡ r' → h ≡ h' → g ≡ g' → q ≡ q' → k ≡ k'
      → message_of ((f, (i, (s, t))), ((d, (o, l)), ((n, (r, h)), (g, (q, k))))) ≡ message_of ((f, (i', (s', t'))), ((d', (o', l')), ((n', (r', h')), (g', (q', k')))))
  same-message ei es et ed eo el en er eh eg eq ek = rw (ei, es, et, ed, eo, el, en, er, eh, eg, eq, ek)

pub message-tidy : (m : Datagram) → Typed m → layout.ok m ≡ true → message.tidy m ≡ tidy_datagram m
unfolding message layout opening ends way options tidy_datagram tidy
message-tidy m t e =
    let x = m.fields in
    let f = message_flags m in
    let o = and_right (flags.ok f) _ (and_left (opening.ok (opening_of m)) _ e) in
    let st = and_right (hex_id.ok x.id) _ o in
    let e1 = and_right (opening.ok (opening_of m)) _ e in
    let n1 = and_right (address.ok x.dst) _ (and_left ((ends f).ok (ends_of m)) _ e1) in
    let e2 = and_right ((ends f).ok (ends_of m)) _ e1 in
    let w0 = and_left ((way f).ok (way_of m)) _ e2 in
    let w1 = and_right ((flood_if f.flood).ok m.flood) _ w0 in
    let p = and_right ((way f).ok (way_of m)) _ e2 in
    let p1 = and_right ((fragment_if f.fragment).ok x.fragment) _ p in
    layout-tidy m
    ∙ same-message f _ _ _ _ _ _ _ _ _ _ _ _ _ _ _ _ _ _ _ _ _ _ _ _
    (id-tidy x.id (and_left (hex_id.ok x.id) _ o))
    (given-kept f.salt signed_num x.salt (and_left _ _ st) salt-tidy)
    (given-kept f.ttl (num 4) x.ttl (and_right ((salt_if f.salt).ok x.salt) _ st) (λ a q. refl))
    (address-tidy x.dst)
    (given-tidy f.originator (call 2) tidy_call x.src (and_left _ _ n1) (λ a q. call-tidy a))
    (given-tidy f.link (call 2) tidy_call m.link (and_right ((call_if f.originator).ok x.src) _ n1) (λ a q. call-tidy a))
    (given-kept f.flood (num 1) m.flood (and_left _ _ w0) (λ a q. refl))
    (given-tidy f.route hops tidy_hops m.route (and_left _ _ w1) (λ a q. hops-tidy a))
    (given-tidy f.hops hops tidy_hops m.hops (and_right ((hops_if f.route).ok m.route) _ w1) (λ a q. hops-tidy a))
    (given-kept f.fragment fragment x.fragment (and_left _ _ p) fragment-tidy)
    (given-tidy f.stream stream tidy_stream x.stream (and_left _ _ p1) (λ a q. stream-tidy a))
    (headers-tidy (1 ≤? x.headers.count) x.headers t.headers refl (and_right ((stream_if f.stream).ok x.stream) _ p1))
