-- The rules look at nothing that tidying clears: a message keeps them exactly where the tidied one does.
use Rattle.std.specs.Prelude.{Option, Some, None, is_some}
use Prim.Native.Nat.{ℕ, ◌^◌, ◌≤◌}
use mathlib.Core.Path.{◌≡◌, refl, ap, sym, ◌∙◌}
use mathlib.Core.Bool.{Bool, true, false}
use mathlib.Core.List.{List, [], ◌∷◌, map}
use native.Mathlib.Omega.{arith}
use lib.ListN.{length, take, length-map}
use lib.Seq.{take-append_seam}
use borrow.Author.Tests.{le-leb, ltb-true, leb-false}
use Rattle.octets.specs.Words.{◌and◌, ◌≤?◌, ◌=?◌, every, between}
use Rattle.octets.specs.Field.{Field, num, given, only, tagged, many}
use Rattle.octets.proofs.Tests.{and_left, and_right, and-next, inside-high}
use Rattle.octets.proofs.FieldLaws.{Laws, only-laws}
use Rattle.text.proofs.Hexes.{hex-back}
use Rattle.callsigns.specs.Callsign.{callsign}
use Rattle.callsigns.specs.Destination.{destination}
use Rattle.names.specs.Texts.{stream_id}
use Rattle.headers.specs.declared.Header.{Header}
use Rattle.headers.specs.declared.Headers.{Headers}
use Rattle.headers.specs.Keys.{all_differ, key_of, keys_of}
use Rattle.headers.specs.Rule as rule
use Rattle.headers.specs.Rule.{value_of}
use Rattle.envelope.specs.declared.CallText.{CallText}
use Rattle.envelope.specs.declared.AddressText.{AddressText}
use Rattle.envelope.specs.declared.StreamText.{StreamText}
use Rattle.envelope.specs.Texts.{fitted, padded, no_headers}
use Rattle.envelope.specs.Rules.{call_bytes, address_bytes, stream_bytes, call_in, address_in, stream_in, id_in, ttl_in, fragment_in, fragment_good, stream_good, if_some, envelope}
use Rattle.layout.specs.declared.Hops.{Hops}
use Rattle.layout.specs.declared.Datagram.{Datagram}
use Rattle.layout.specs.Texts.{hops_of}
use Rattle.layout.specs.Rules.{hops_in, valid}
use Rattle.layout.specs.Layout.{text, call, address, stream_name, hex_id, hops, header, headers_of, headers, flags, salt_if, ttl_if, call_if, flood_if, hops_if, fragment, fragment_if, stream, stream_if, headers_if, opening, ends, way, options, message_of, message_flags, opening_of, ends_of, way_of, options_of, layout, message}
use Rattle.layout.proofs.Laws.{text-short, held_whole, held-text, hop_list-short, header_list-between}
use Rattle.layout.proofs.Whole.{layout-laws}

-- a rule of a field that may be absent
given-rule : {A : Type 0} (b : Bool) (F : Field A) (r : A → Bool) (o : Option A) → (given b F).ok o ≡ true → ((a : A) → F.ok a ≡ true → r (F.tidy a) ≡ r a)
    → if_some r ((given b F).tidy o) ≡ if_some r o
given-rule b F r None e h = refl
given-rule b F r (Some a) e h = h a (and_right b _ e)

-- ---- texts

text-rule : (p : List ℕ → Bool) (n len : ℕ) (l : List ℕ) → (len ≤? n) ≡ true → length l ≤ n
    → (length (fitted n l) ≤? n and p (take (length (fitted n l)) (padded n (fitted n l)))) ≡ (len ≤? n and p l)
text-rule p n len l e h =
    let w : (length (fitted n l) ≤? n) ≡ true = rw (held_whole n l h) (le-leb (length l) n h) in
    and-next _ _ w ∙ ap p (held-text n l h) ∙ sym (and-next _ _ e)

pub call-rule : (w : ℕ) (t : CallText) → (call w).ok t ≡ true → call_in ((call w).tidy t) ≡ call_in t
unfolding call call_in text
call-rule w t e = text-rule callsign 12 t.len (call_bytes t) (and_left _ _ e) (text-short w 12 (call_bytes t) (and_right (t.len ≤? 12) _ e))

address-rule : (t : AddressText) → address.ok t ≡ true → address_in (address.tidy t) ≡ address_in t
unfolding address address_in text
address-rule t e = text-rule destination 45 t.len (address_bytes t) (and_left _ _ e) (text-short 2 45 (address_bytes t) (and_right (t.len ≤? 45) _ e))

stream-rule : (t : StreamText) → stream_name.ok t ≡ true → stream_in (stream_name.tidy t) ≡ stream_in t
unfolding stream_name stream_in text
stream-rule t e = text-rule stream_id 255 t.len (stream_bytes t) (and_left _ _ e) (text-short 1 255 (stream_bytes t) (and_right (t.len ≤? 255) _ e))

pub id-tidy : (v : ℕ) → hex_id.ok v ≡ true → hex_id.tidy v ≡ v
unfolding hex_id id_in
id-tidy v e = hex-back 7 v (ltb-true v (2 ^ 28) (and_left _ _ e))

-- ---- lists

every-tidy : {A : Type 0} (F : Field A) (r : A → Bool) → ((a : A) → F.ok a ≡ true → r (F.tidy a) ≡ r a) → (l : List A) → every F.ok l ≡ true
    → every r (map F.tidy l) ≡ every r l
every-tidy F r h [] e = refl
every-tidy F r h (a ∷ l) e = rw (h a (and_left _ _ e), every-tidy F r h l (and_right (F.ok a) _ e))

map-tidy : {A B : Type 0} (F : Field A) (g : A → B) → ((a : A) → F.ok a ≡ true → g (F.tidy a) ≡ g a) → (l : List A) → every F.ok l ≡ true
    → map g (map F.tidy l) ≡ map g l
map-tidy F g h [] e = refl
map-tidy F g h (a ∷ l) e = rw (h a (and_left _ _ e), map-tidy F g h l (and_right (F.ok a) _ e))

count-tidy : {A : Type 0} (f : A → A) (n most : ℕ) (l : List A) → (n ≤? most) ≡ true → length l ≤ most → (length (map f l) ≤? most) ≡ (n ≤? most)
count-tidy f n most l e h = le-leb (length (map f l)) most (omega (arith, length-map l f)) ∙ sym e

-- a list behind its count: each of its values is good
pub each : {A : Type 0} (p : ℕ → Bool) (w : ℕ) (F : Field A) (l : List A) → (tagged length (only p (num w)) (many F)).ok l ≡ true → every F.ok l ≡ true
each p w F l e = and_right (length l =? length l) _ (and_right ((only p (num w)).ok (length l)) _ e)

hops-rule : (h : Hops) → hops.ok h ≡ true → hops_in (hops.tidy h) ≡ hops_in h
unfolding hops hops_in
hops-rule h e =
    let good = and_right (h.count ≤? 16) _ e in
    rw (
      count-tidy (call 1).tidy h.count 16 (hops_of h) (and_left _ _ e) (hop_list-short (hops_of h) good),
      take-append_seam,
      every-tidy (call 1) call_in (call-rule 1) (hops_of h) (each (λ n. n ≤? 16) 1 (call 1) (hops_of h) good),
    )

header-texts : (h : Header) → header.ok h ≡ true → (key_of (header.tidy h) ≡ key_of h) × (value_of (header.tidy h) ≡ value_of h)
unfolding header key_of value_of text
header-texts h e =
    let good = and_right (h.key_len ≤? 32 and h.value_len ≤? 128) _ e in
    (held-text 32 (key_of h) (text-short 2 32 (key_of h) (and_left _ _ good)), held-text 128 (value_of h) (text-short 2 128 (value_of h) (and_right ((text 2 32).ok (key_of h)) _ good)))

header-lengths : (h : Header) → header.ok h ≡ true → (((header.tidy h).key_len ≤? 32) ≡ true) × (((header.tidy h).value_len ≤? 128) ≡ true)
unfolding header text
header-lengths h e =
    let good = and_right (h.key_len ≤? 32 and h.value_len ≤? 128) _ e in
    let k = text-short 2 32 (key_of h) (and_left _ _ good) in
    let v = text-short 2 128 (value_of h) (and_right ((text 2 32).ok (key_of h)) _ good) in
    (rw (held_whole 32 (key_of h) k) (le-leb (length (key_of h)) 32 k), rw (held_whole 128 (value_of h) v) (le-leb (length (value_of h)) 128 v))

lengths-good : (h : Header) → header.ok h ≡ true → ((h.key_len ≤? 32) ≡ true) × ((h.value_len ≤? 128) ≡ true)
unfolding header
lengths-good h e = let b = and_left _ _ e in (and_left _ _ b, and_right (h.key_len ≤? 32) _ b)

header-rule : (h : Header) → header.ok h ≡ true → rule.header (header.tidy h) ≡ rule.header h
unfolding rule.header
header-rule h e =
    let t = header-texts h e in
    let a = header-lengths h e in
    let b = lengths-good h e in
    and-next _ _ a.0 ∙ and-next _ _ a.1 ∙ rw (t.0, t.1) (sym (and-next _ _ b.0 ∙ and-next _ _ b.1))

headers-rule : (h : Headers) → headers.ok h ≡ true → rule.headers (headers.tidy h) ≡ rule.headers h
unfolding headers rule.headers keys_of
headers-rule h e =
    let good = and_right (h.count ≤? 8) _ e in
    let every-good = each (between 1 8) 2 header (headers_of h) good in
    rw (
      count-tidy header.tidy h.count 8 (headers_of h) (and_left _ _ e) (inside-high 1 8 (length (headers_of h)) (header_list-between (headers_of h) good)),
      take-append_seam,
      every-tidy header rule.header header-rule (headers_of h) every-good,
      map-tidy header key_of (λ x q. (header-texts x q).0) (headers_of h) every-good,
    )

-- no headers keep the rule however they are held
zero-headers : (h : Headers) → h.count ≡ 0 → rule.headers h ≡ true
unfolding rule.headers keys_of all_differ
zero-headers h e = rw e

none-rule : (b : Bool) (h : Headers) → (1 ≤? h.count) ≡ b → (headers_if b).ok h ≡ true → rule.headers ((headers_if b).tidy h) ≡ rule.headers h
none-rule true h f e = headers-rule h e
none-rule false h f e = zero-headers no_headers refl ∙ sym (zero-headers h (omega (arith, leb-false 1 h.count f)))

-- ---- the whole message

pub layout-tidy : (m : Datagram) → layout.tidy m ≡ message_of (
  (message_flags m, (hex_id.tidy m.fields.id, ((salt_if (is_some m.fields.salt)).tidy m.fields.salt, (ttl_if (is_some m.fields.ttl)).tidy m.fields.ttl))),
  ((ends (message_flags m)).tidy (ends_of m), ((way (message_flags m)).tidy (way_of m), (options (message_flags m)).tidy (options_of m))),
)
unfolding layout opening
layout-tidy m = refl

module _ (a b c d e f g h i j a' b' c' d' e' f' g' h' i' j' : Bool) where
  rules-same : a ≡ a' → b ≡ b' → c ≡ c' → d ≡ d' → e ≡ e' → f ≡ f' → g ≡ g' → h ≡ h' → i ≡ i' → j ≡ j'
      → ((a and (b and (c and (d and (e and (f and g)))))) and (h and (i and j))) ≡ ((a' and (b' and (c' and (d' and (e' and (f' and g')))))) and (h' and (i' and j')))
  rules-same ea eb ec ed ee ef eg eh ei ej = cc

valid-tidy : (m : Datagram) → layout.ok m ≡ true → valid (layout.tidy m) ≡ valid m
unfolding layout opening ends way options valid envelope
valid-tidy m e =
    let f = message_flags m in
    let x = m.fields in
    let o = and_right (flags.ok f) _ (and_left (opening.ok (opening_of m)) _ e) in
    let st = and_right (hex_id.ok x.id) _ o in
    let e1 = and_right (opening.ok (opening_of m)) _ e in
    let n = and_left ((ends f).ok (ends_of m)) _ e1 in
    let n1 = and_right (address.ok x.dst) _ n in
    let e2 = and_right ((ends f).ok (ends_of m)) _ e1 in
    let w1 = and_right ((flood_if f.flood).ok m.flood) _ (and_left ((way f).ok (way_of m)) _ e2) in
    let p = and_right ((way f).ok (way_of m)) _ e2 in
    let p1 = and_right ((fragment_if f.fragment).ok x.fragment) _ p in
    rules-same _ _ _ _ _ _ _ _ _ _ _ _ _ _ _ _ _ _ _ _
    (ap id_in (id-tidy x.id (and_left _ _ o)))
    (given-rule f.ttl (num 4) ttl_in x.ttl (and_right ((salt_if f.salt).ok x.salt) _ st) (λ a q. refl))
    (given-rule f.originator (call 2) call_in x.src (and_left _ _ n1) (call-rule 2))
    (given-rule f.fragment fragment fragment_good x.fragment (and_left _ _ p) (λ a q. ap (λ v. fragment_in v a.index a.total) (id-tidy a.mid (and_left _ _ q))))
    (given-rule f.stream stream stream_good x.stream (and_left _ _ p1) (λ a q. stream-rule a.sid (and_left _ _ q)))
    (none-rule (1 ≤? x.headers.count) x.headers refl (and_right ((stream_if f.stream).ok x.stream) _ p1))
    (address-rule x.dst (and_left _ _ n))
    (given-rule f.link (call 2) call_in m.link (and_right ((call_if f.originator).ok x.src) _ n1) (call-rule 2))
    (given-rule f.route hops hops_in m.route (and_left _ _ w1) hops-rule)
    (given-rule f.hops hops hops_in m.hops (and_right ((hops_if f.route).ok m.route) _ w1) hops-rule)

pub message-laws : Laws message
unfolding message
message-laws = only-laws valid layout valid-tidy layout-laws
