-- A valid message, each number in its type's range, is one that the layout can hold.
use Rattle.std.specs.Prelude.{Option, Some, None, is_some, IfSome}
use Prim.Native.Nat.{ℕ, ◌^◌, ◌≤◌, ◌<◌}
use mathlib.Core.Path.{◌≡◌, refl}
use mathlib.Core.Bool.{Bool, true, false}
use mathlib.Core.List.{List, [], ◌∷◌}
use native.Mathlib.Omega.{arith}
use borrow.Author.Tests.{le-leb, lt-ltb, eq-eqb, leb-true}
use lib.ListN.{length, take, length-take}
use lib.IntN.{ℤ}
use lib.Signed.{mag}
use Rattle.octets.proofs.SignLaws.{twos-below}
use Rattle.octets.specs.Words.{◌and◌, ◌<?◌, ◌≤?◌, every}
use Rattle.octets.specs.Field.{Field, num, given, signed_num}
use Rattle.octets.specs.Numbers.{twos}
use Rattle.octets.proofs.Tests.{and_left, and_right, and_both, inside}
use Rattle.text.proofs.Hexes.{hex-is}
use Rattle.headers.specs.declared.Header.{Header}
use Rattle.headers.specs.declared.Headers.{Headers}
use Rattle.headers.specs.Keys.{key_of}
use Rattle.headers.specs.Rule as rule
use Rattle.headers.specs.Rule.{value_of}
use Rattle.envelope.specs.declared.CallText.{CallText}
use Rattle.envelope.specs.declared.AddressText.{AddressText}
use Rattle.envelope.specs.declared.StreamText.{StreamText}
use Rattle.envelope.specs.declared.Fragment.{Fragment}
use Rattle.envelope.specs.declared.Stream.{Stream}
use Rattle.envelope.specs.Rules.{call_bytes, address_bytes, stream_bytes, call_in, address_in, stream_in, id_in, ttl_in, fragment_in, fragment_good, stream_good, if_some, envelope}
use Rattle.layout.specs.declared.Hops.{Hops}
use Rattle.layout.specs.declared.Flags.{Flags}
use Rattle.layout.specs.declared.Datagram.{Datagram}
use Rattle.layout.specs.Texts.{hops_of}
use Rattle.layout.specs.Rules.{hops_in, valid}
use Rattle.layout.specs.Layout.{text, call, address, stream_name, hex_id, hops, header, headers_of, headers, one, flags_number, flags, salt_if, call_if, flood_if, hops_if, fragment, fragment_if, stream, stream_if, headers_if, opening, ends, way, options, message_flags, opening_of, ends_of, way_of, layout, message}
use Rattle.datagram_bytes.specs.Bytes.{Typed}

all-bytes : (l : List ℕ) → every (λ x. true) l ≡ true
all-bytes [] = refl
all-bytes (x ∷ l) = all-bytes l

-- ---- texts

text-good : (w most : ℕ) (l : List ℕ) → most < 256 ^ w → length l ≤ most → (text w most).ok l ≡ true
unfolding text
text-good w most l h k =
    and_both _ _ (and_both _ _ (lt-ltb (length l) (256 ^ w) (omega arith)) (le-leb (length l) most k)) (and_both _ _ (eq-eqb (length l) (length l) refl) (all-bytes l))

cut : (n most : ℕ) (l : List ℕ) → (n ≤? most) ≡ true → length (take n l) ≤ most
cut n most l e = omega (arith, length-take n l, leb-true n most e)

call-good : (w : ℕ) (t : CallText) → 12 < 256 ^ w → call_in t ≡ true → (call w).ok t ≡ true
unfolding call call_in
call-good w t h e = and_both (t.len ≤? 12) _ (and_left (t.len ≤? 12) _ e) (text-good w 12 (call_bytes t) h (cut t.len 12 t.bytes (and_left (t.len ≤? 12) _ e)))

address-good : (t : AddressText) → address_in t ≡ true → address.ok t ≡ true
unfolding address address_in
address-good t e = and_both (t.len ≤? 45) _ (and_left (t.len ≤? 45) _ e) (text-good 2 45 (address_bytes t) (omega arith) (cut t.len 45 t.bytes (and_left (t.len ≤? 45) _ e)))

name-good : (t : StreamText) → stream_in t ≡ true → stream_name.ok t ≡ true
unfolding stream_name stream_in
name-good t e = and_both (t.len ≤? 255) _ (and_left (t.len ≤? 255) _ e) (text-good 1 255 (stream_bytes t) (omega arith) (cut t.len 255 t.bytes (and_left (t.len ≤? 255) _ e)))

id-good : (v : ℕ) → id_in v ≡ true → hex_id.ok v ≡ true
unfolding hex_id id_in
id-good v e = and_both _ _ e (hex-is 7 v)

-- ---- lists

every-good : {A : Type 0} (p q : A → Bool) → ((a : A) → p a ≡ true → q a ≡ true) → (l : List A) → every p l ≡ true → every q l ≡ true
every-good p q h [] e = refl
every-good p q h (a ∷ l) e = and_both _ _ (h a (and_left _ _ e)) (every-good p q h l (and_right (p a) _ e))

count-good : {A : Type 0} (n most : ℕ) (l : List A) → (n ≤? most) ≡ true → length (take n l) ≤ most
count-good n most l e = omega (arith, length-take n l, leb-true n most e)

hops-good : (h : Hops) → hops_in h ≡ true → hops.ok h ≡ true
unfolding hops hops_in
hops-good h e =
    let k = count-good h.count 16 h.items (and_left (h.count ≤? 16) _ e) in
    and_both (h.count ≤? 16) _ (and_left (h.count ≤? 16) _ e)
    (and_both _ _ (and_both _ _ (lt-ltb (length (hops_of h)) 256 (omega arith)) (le-leb (length (hops_of h)) 16 k))
    (and_both _ _ (eq-eqb (length (hops_of h)) (length (hops_of h)) refl) (every-good call_in (call 1).ok (λ a q. call-good 1 a (omega arith) q) (hops_of h) (and_right (h.count ≤? 16) _ e))))

header-good : (h : Header) → rule.header h ≡ true → header.ok h ≡ true
unfolding header rule.header key_of value_of
header-good h e =
    let k = and_left (h.key_len ≤? 32) _ e in
    let v = and_left (h.value_len ≤? 128) _ (and_right (h.key_len ≤? 32) _ e) in
    and_both _ _ (and_both _ _ k v) (and_both _ _ (text-good 2 32 (key_of h) (omega arith) (cut h.key_len 32 h.key k)) (text-good 2 128 (value_of h) (omega arith) (cut h.value_len 128 h.value v)))

headers-good : (h : Headers) → length h.items ≡ 8 → (1 ≤? h.count) ≡ true → rule.headers h ≡ true → headers.ok h ≡ true
unfolding headers rule.headers
headers-good h l f e =
    let a = leb-true h.count 8 (and_left (h.count ≤? 8) _ e) in
    let n : length (headers_of h) ≡ h.count = omega (arith, length-take h.count h.items) in
    and_both (h.count ≤? 8) _ (and_left (h.count ≤? 8) _ e)
    (and_both _ _ (and_both _ _ (lt-ltb (length (headers_of h)) (256 ^ 2) (omega arith)) (inside 1 8 (length (headers_of h)) (omega (arith, leb-true 1 h.count f)) (omega arith)))
    (and_both _ _ (eq-eqb (length (headers_of h)) (length (headers_of h)) refl)
    (every-good rule.header header.ok header-good (headers_of h) (and_left (every rule.header (headers_of h)) _ (and_right (h.count ≤? 8) _ e)))))

-- ---- fields that may be absent: by the message's rule, or by the number's range

ruled-good : {A : Type 0} (F : Field A) (r : A → Bool) (o : Option A) → if_some r o ≡ true → ((a : A) → r a ≡ true → F.ok a ≡ true) → (given (is_some o) F).ok o ≡ true
ruled-good F r None e h = refl
ruled-good F r (Some a) e h = h a e

typed-good : {A : Type 0} (F : Field A) (P : A → Type 0) (o : Option A) → IfSome o P → ((a : A) → P a → F.ok a ≡ true) → (given (is_some o) F).ok o ≡ true
typed-good F P None p h = refl
typed-good F P (Some a) p h = h a p

both-good : {A : Type 0} (F : Field A) (r : A → Bool) (P : A → Type 0) (o : Option A) → if_some r o ≡ true → IfSome o P → ((a : A) → r a ≡ true → P a → F.ok a ≡ true)
    → (given (is_some o) F).ok o ≡ true
both-good F r P None e p h = refl
both-good F r P (Some a) e p h = h a e p

salt-good : (z : ℤ) → mag z < 2 ^ 63 → signed_num.ok z ≡ true
salt-good z h = and_both (mag z <? 2 ^ 63) _ (lt-ltb _ _ h) (lt-ltb (twos z) (256 ^ 8) (twos-below z h))

fragment-good : (f : Fragment) → fragment_good f ≡ true → (f.index < 2 ^ 16) × (f.total < 2 ^ 16) → fragment.ok f ≡ true
unfolding fragment_in
fragment-good f e p = and_both _ _ (id-good f.mid (and_left (id_in f.mid) _ e)) (and_both _ _ (lt-ltb f.index (256 ^ 2) p.0) (lt-ltb f.total (256 ^ 2) p.1))

stream-good : (s : Stream) → stream_good s ≡ true → (s.sn < 2 ^ 32) × (s.gt < 2 ^ 32) → stream.ok s ≡ true
stream-good s e p = and_both _ _ (name-good s.sid e) (and_both _ _ (lt-ltb s.sn (256 ^ 4) p.0) (lt-ltb s.gt (256 ^ 4) p.1))

headers_if-good : (b : Bool) (h : Headers) → length h.items ≡ 8 → (1 ≤? h.count) ≡ b → rule.headers h ≡ true → (headers_if b).ok h ≡ true
headers_if-good true h l f e = headers-good h l f e
headers_if-good false h l f e = refl

one-small : (b : Bool) → one b < 2
one-small true = omega arith
one-small false = omega arith

flags-good : (f : Flags) → flags.ok f ≡ true
unfolding flags flags_number
flags-good f =
    let h : flags_number f < 1024 =
    omega (arith, one-small f.salt, one-small f.ttl, one-small f.headers, one-small f.originator, one-small f.link, one-small f.flood, one-small f.route, one-small f.hops, one-small f.fragment, one-small f.stream) in
    and_both _ _ (lt-ltb (flags_number f) (256 ^ 2) (omega arith)) (lt-ltb (flags_number f) (2 ^ 10) h)

module _ (m : Datagram) (t : Typed m) (e : valid m ≡ true) where
  -- the message's rules, one by one
  shared : envelope m.fields ≡ true
  unfolding valid
  shared = and_left (envelope m.fields) _ e

  own : if_some call_in m.link and (if_some hops_in m.route and if_some hops_in m.hops) ≡ true
  unfolding valid
  own = and_right (envelope m.fields) _ e

  pub layout-good : layout.ok m ≡ true
  unfolding layout opening ends way options envelope
  layout-good =
      let x = m.fields in
      let f = message_flags m in
      let r1 = and_right (id_in x.id) _ shared in
      let r2 = and_right (if_some ttl_in x.ttl) _ r1 in
      let r3 = and_right (if_some call_in x.src) _ r2 in
      let r4 = and_right (if_some fragment_good x.fragment) _ r3 in
      let r5 = and_right (if_some stream_good x.stream) _ r4 in
      let o1 = and_right (if_some call_in m.link) _ own in
      let head = and_both (flags.ok f) _ (flags-good f) (and_both (hex_id.ok x.id) _ (id-good x.id (and_left (id_in x.id) _ shared))
      (and_both ((salt_if f.salt).ok x.salt) _ (typed-good signed_num (λ z. mag z < 2 ^ 63) x.salt t.salt salt-good)
      (typed-good (num 4) (λ v. v < 2 ^ 32) x.ttl t.ttl (λ v q. lt-ltb v (256 ^ 4) q)))) in
      let mid = and_both (address.ok x.dst) _ (address-good x.dst (and_right (rule.headers x.headers) _ r5)) (and_both ((call_if f.originator).ok x.src) _
      (ruled-good (call 2) call_in x.src (and_left _ _ r2) (λ a q. call-good 2 a (omega arith) q))
      (ruled-good (call 2) call_in m.link (and_left _ _ own) (λ a q. call-good 2 a (omega arith) q))) in
      let path = and_both ((flood_if f.flood).ok m.flood) _ (typed-good (num 1) (λ v. v < 2 ^ 8) m.flood t.flood (λ v q. lt-ltb v (256 ^ 1) q))
      (and_both ((hops_if f.route).ok m.route) _ (ruled-good hops hops_in m.route (and_left _ _ o1) hops-good)
      (ruled-good hops hops_in m.hops (and_right (if_some hops_in m.route) _ o1) hops-good)) in
      let last = and_both ((fragment_if f.fragment).ok x.fragment) _
      (both-good fragment fragment_good (λ g. (g.index < 2 ^ 16) × (g.total < 2 ^ 16)) x.fragment (and_left _ _ r3) t.fragment fragment-good)
      (and_both ((stream_if f.stream).ok x.stream) _
      (both-good stream stream_good (λ s. (s.sn < 2 ^ 32) × (s.gt < 2 ^ 32)) x.stream (and_left _ _ r4) t.stream stream-good)
      (headers_if-good (1 ≤? x.headers.count) x.headers t.headers refl (and_left _ _ r5))) in
      and_both (opening.ok (opening_of m)) _ head (and_both ((ends f).ok (ends_of m)) _ mid (and_both ((way f).ok (way_of m)) _ path last))

  pub message-good : message.ok m ≡ true
  unfolding message
  message-good = and_both (layout.ok m) _ layout-good e
