-- A valid message tidied is a valid message.
use Rattle.std.specs.Prelude.{Option, Some, None}
use Rattle.std.specs.Option.{option_map}
use Prim.Native.Nat.{ℕ, ◌≤◌}
use mathlib.Core.Path.{◌≡◌, refl, ap, ◌∙◌}
use mathlib.Core.Bool.{Bool, true}
use mathlib.Core.List.{List, [], ◌∷◌, map}
use native.Mathlib.Omega.{arith}
use lib.ListN.{length, take, drop, replicate, length-map}
use lib.Seq.{take_at, length-take-le}
use borrow.Author.Tests.{le-leb, leb-true}
use Rattle.octets.specs.Words.{◌≤?◌, every}
use Rattle.octets.specs.Bytes.{front}
use Rattle.octets.proofs.Tests.{if_yes, and_left, and_right, and_both}
use Rattle.callsigns.specs.Callsign.{callsign}
use Rattle.callsigns.specs.Destination.{destination}
use Rattle.callsigns.proofs.Lengths.{callsign-short, destination-short}
use Rattle.names.specs.Texts.{stream_id, header_key, header_value}
use Rattle.names.proofs.Lengths.{stream_id-short, header_key-short, header_value-short}
use Rattle.headers.specs.Keys.{all_differ, key_of, keys_of}
use Rattle.headers.specs.Rule.{value_of, header, headers}
use Rattle.headers.specs.declared.Header.{Header}
use Rattle.headers.specs.declared.Headers.{Headers}
use Rattle.envelope.specs.declared.CallText.{CallText}
use Rattle.envelope.specs.declared.AddressText.{AddressText}
use Rattle.envelope.specs.declared.StreamText.{StreamText}
use Rattle.envelope.specs.declared.Envelope.{Envelope}
use Rattle.envelope.specs.Texts.{fitted, padded, zeros, call_text, address_text, stream_text, header_text}
use Rattle.envelope.specs.Rules.{call_bytes, address_bytes, stream_bytes, call_in, address_in, stream_in, id_in, ttl_in, fragment_good, stream_good, if_some, envelope}
use Rattle.envelope.specs.Tidy.{tidy_call, tidy_stream, tidy_header, tidy_headers, tidy}

-- ---- a text that its array can hold

module _ (n : ℕ) (s : List ℕ) (h : length s ≤ n) where
  held-is : fitted n s ≡ s
  unfolding fitted
  held-is = if_yes _ _ _ (le-leb (length s) n h)

  held-long : (length (fitted n s) ≤? n) ≡ true
  held-long = le-leb (length (fitted n s)) n (omega (arith, ap length held-is))

  held_back : take (length (fitted n s)) (padded n (fitted n s)) ≡ s
  unfolding padded
  held_back = ap (λ (w : List ℕ). take (length w) (front w (zeros n))) held-is ∙ take_at s (drop (length s) (zeros n)) (length s) refl

call-tidy : (t : CallText) → call_in t ≡ true → call_in (call_text (call_bytes t)) ≡ true
unfolding call_in
call-tidy t e =
    let f = and_right (t.len ≤? 12) _ e in
    let h = callsign-short (call_bytes t) f in
    and_both (length (fitted 12 (call_bytes t)) ≤? 12) _ (held-long 12 (call_bytes t) h) (ap callsign (held_back 12 (call_bytes t) h) ∙ f)

address-tidy : (t : AddressText) → address_in t ≡ true → address_in (address_text (address_bytes t)) ≡ true
unfolding address_in
address-tidy t e =
    let f = and_right (t.len ≤? 45) _ e in
    let h = destination-short (address_bytes t) f in
    and_both (length (fitted 45 (address_bytes t)) ≤? 45) _ (held-long 45 (address_bytes t) h) (ap destination (held_back 45 (address_bytes t) h) ∙ f)

stream-tidy : (t : StreamText) → stream_in t ≡ true → stream_in (stream_text (stream_bytes t)) ≡ true
unfolding stream_in
stream-tidy t e =
    let f = and_right (t.len ≤? 255) _ e in
    let h = stream_id-short (stream_bytes t) f in
    and_both (length (fitted 255 (stream_bytes t)) ≤? 255) _ (held-long 255 (stream_bytes t) h) (ap stream_id (held_back 255 (stream_bytes t) h) ∙ f)

-- ---- headers

pub record Good (h : Header) : Type 0 where
  pub good-key : header_key (key_of h) ≡ true
  pub good-value : header_value (value_of h) ≡ true

pub good-header : (h : Header) → header h ≡ true → Good h
unfolding header
good-header h e =
    let f = and_right (h.value_len ≤? 128) _ (and_right (h.key_len ≤? 32) _ e) in
    record { good-key = and_left _ _ f; good-value = and_right (header_key (key_of h)) _ f }

module _ (h : Header) (e : header h ≡ true) where
  key-tidy : key_of (tidy_header h) ≡ key_of h
  unfolding key_of
  key-tidy = held_back 32 (key_of h) (header_key-short (key_of h) (good-header h e).good-key)

  value-tidy : value_of (tidy_header h) ≡ value_of h
  unfolding value_of
  value-tidy = held_back 128 (value_of h) (header_value-short (value_of h) (good-header h e).good-value)

  header-tidy : header (tidy_header h) ≡ true
  unfolding header
  header-tidy =
      let g = good-header h e in
      and_both (length (fitted 32 (key_of h)) ≤? 32) _ (held-long 32 (key_of h) (header_key-short (key_of h) g.good-key))
      (and_both (length (fitted 128 (value_of h)) ≤? 128) _ (held-long 128 (value_of h) (header_value-short (value_of h) g.good-value))
      (and_both (header_key (key_of (tidy_header h))) _ (ap header_key key-tidy ∙ g.good-key) (ap header_value value-tidy ∙ g.good-value)))

items-tidy : (l : List Header) → every header l ≡ true → every header (map tidy_header l) ≡ true
items-tidy [] e = refl
items-tidy (h ∷ l) e = and_both (header (tidy_header h)) _ (header-tidy h (and_left (header h) (every header l) e)) (items-tidy l (and_right (header h) (every header l) e))

keys-tidy : (l : List Header) → every header l ≡ true → map key_of (map tidy_header l) ≡ map key_of l
keys-tidy [] e = refl
keys-tidy (h ∷ l) e = rw (key-tidy h (and_left (header h) (every header l) e), keys-tidy l (and_right (header h) (every header l) e))

module _ (h : Headers) (room : length h.items ≡ 8) (e : headers h ≡ true) where
  pub few : h.count ≤ 8
  unfolding headers
  few = leb-true h.count 8 (and_left _ _ e)

  pub each : every header (take h.count h.items) ≡ true
  unfolding headers
  each = and_left _ _ (and_right (h.count ≤? 8) _ e)

  pub differ : all_differ (keys_of h) ≡ true
  unfolding headers
  differ = and_right (every header (take h.count h.items)) _ (and_right (h.count ≤? 8) _ e)

  pub counted : length (take h.count h.items) ≡ h.count
  counted = length-take-le h.count h.items (omega (arith, few))

  headers-tidy : headers (tidy_headers h) ≡ true
  unfolding headers tidy_headers keys_of
  headers-tidy =
      let l = take h.count h.items in
      let blanks = replicate 8 (header_text [] []) in
      let k : take h.count (front (map tidy_header l) blanks) ≡ map tidy_header l
      = take_at (map tidy_header l) (drop (length (map tidy_header l)) blanks) h.count (length-map l tidy_header ∙ counted) in
      and_both (h.count ≤? 8) _ (le-leb h.count 8 few)
      (and_both (every header (take h.count (front (map tidy_header l) blanks))) _ (ap (every header) k ∙ items-tidy l each)
      (ap (λ (x : List Header). all_differ (map key_of x)) k ∙ ap all_differ (keys-tidy l each) ∙ differ))

-- ---- the message

some-tidy : {A : Type 0} (P : A → Bool) (f : A → A) → ((x : A) → P x ≡ true → P (f x) ≡ true) → (o : Option A) → if_some P o ≡ true → if_some P (option_map f o) ≡ true
some-tidy P f keeps None e = refl
some-tidy P f keeps (Some x) e = keeps x e

-- the rules of a message one by one
pub record Rules (e : Envelope) : Type 0 where
  pub id-rule : id_in e.id ≡ true
  pub ttl-rule : if_some ttl_in e.ttl ≡ true
  pub src-rule : if_some call_in e.src ≡ true
  pub fragment-rule : if_some fragment_good e.fragment ≡ true
  pub stream-rule : if_some stream_good e.stream ≡ true
  pub headers-rule : headers e.headers ≡ true
  pub dst-rule : address_in e.dst ≡ true

pub rules-of : (e : Envelope) → envelope e ≡ true → Rules e
unfolding envelope
rules-of e h =
    let h1 = and_right (id_in e.id) _ h in
    let h2 = and_right (if_some ttl_in e.ttl) _ h1 in
    let h3 = and_right (if_some call_in e.src) _ h2 in
    let h4 = and_right (if_some fragment_good e.fragment) _ h3 in
    let h5 = and_right (if_some stream_good e.stream) _ h4 in
    record {
      id-rule = and_left _ _ h;
      ttl-rule = and_left _ _ h1;
      src-rule = and_left _ _ h2;
      fragment-rule = and_left _ _ h3;
      stream-rule = and_left _ _ h4;
      headers-rule = and_left _ _ h5;
      dst-rule = and_right (headers e.headers) _ h5;
    }

pub envelope-tidy : (e : Envelope) → length e.headers.items ≡ 8 → envelope e ≡ true → envelope (tidy e) ≡ true
unfolding envelope tidy
envelope-tidy e room h =
    let r = rules-of e h in
    and_both (id_in e.id) _ r.id-rule
    (and_both (if_some ttl_in e.ttl) _ r.ttl-rule
    (and_both (if_some call_in (option_map tidy_call e.src)) _ (some-tidy call_in tidy_call call-tidy e.src r.src-rule)
    (and_both (if_some fragment_good e.fragment) _ r.fragment-rule
    (and_both (if_some stream_good (option_map tidy_stream e.stream)) _ (some-tidy stream_good tidy_stream (λ s. stream-tidy s.sid) e.stream r.stream-rule)
    (and_both (headers (tidy_headers e.headers)) _ (headers-tidy e.headers room r.headers-rule) (address-tidy e.dst r.dst-rule))))))
