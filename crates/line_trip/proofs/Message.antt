-- The tokens of a message that is written: what each key is found to say among them, and that the rules of a line hold.
use Rattle.std.specs.Prelude.{Option, Some, None}
use Rattle.std.specs.Option.{is_some, option_map}
use Prim.Native.Nat.{ℕ, ◌-◌, ◌^◌, ◌<◌, ◌≤◌}
use mathlib.Core.Path.{◌≡◌, refl, ap, sym, ◌∙◌}
use mathlib.Core.Bool.{Bool, true, false}
use mathlib.Core.List.{List, [], ◌∷◌, ◌++◌, append_assoc, append-nil, map}
use native.Mathlib.Omega.{arith}
use lib.ListN.{length, take, replicate, length-append, length-map}
use lib.Seq.{take_at}
use lib.IntN.{ℤ}
use mir.Syntax.{w64}
use mir.Val.{SFits}
use borrow.Author.Tests.{le-leb, leb-true, le-ltb, eq-eqb}
use Rattle.octets.specs.Words.{◌and◌, no, ◌≤?◌, ◌<?◌, every}
use Rattle.octets.specs.Bytes.{same, front}
use Rattle.octets.proofs.Tests.{if_yes, if_no, and_left, and_right, and_both, no_true, no_false}
use Rattle.octets.proofs.Lists.{same_refl}
use Rattle.refusals.specs.Numbers.{longest_payload}
use Rattle.utf8.specs.Utf8.{utf8, run}
use Rattle.text.specs.Decimal.{number, is_number, decimal, is_signed, signed, signed_decimal}
use Rattle.text.specs.Hex.{is_hex, hex_value, hex_digits}
use Rattle.text.proofs.Numerals.{length_digits}
use Rattle.text.proofs.Hexes.{hex-is, hex-back}
use Rattle.callsigns.specs.Callsign.{callsign}
use Rattle.callsigns.specs.Destination.{destination}
use Rattle.names.specs.Reserved.{reserved, reserved_keys, key_len, key_fmt, key_s, key_clen, key_dst, key_chk, key_ttl, key_src, key_mid, key_frag, key_sid, key_sn, key_gt}
use Rattle.names.specs.Texts.{text_byte, ruled, id_text, stream_id, header_key, header_value}
use Rattle.names.proofs.Lengths.{header_value-short}
use Rattle.headers.specs.Keys.{all_differ, key_of, keys_of}
use Rattle.headers.specs.Rule.{value_of, header}
use Rattle.headers.specs.declared.Header.{Header}
use Rattle.crc16.specs.Crc.{crc16, start}
use Rattle.crc16.proofs.Laws.{feed-lt}
use Rattle.envelope.specs.declared.CallText.{CallText}
use Rattle.envelope.specs.declared.Fragment.{Fragment}
use Rattle.envelope.specs.declared.Stream.{Stream}
use Rattle.envelope.specs.declared.Envelope.{Envelope}
use Rattle.envelope.specs.Texts.{call_text, address_text, stream_text, header_text}
use Rattle.envelope.specs.Rules.{call_bytes, address_bytes, stream_bytes, call_in, address_in, stream_in, ttl_in, fragment_in, if_some, envelope}
use Rattle.envelope.specs.Rules as rules
use Rattle.envelope.specs.Tidy.{tidy_stream, tidy_header, tidy_headers, tidy}
use Rattle.tokens.specs.Cuts.{has, before, after}
use Rattle.tokens.specs.Tokens.{Token, token, token_of, words, tokens, keys, present, value, given, others, last_only, keyed, word_of, spaced, space, equals}
use Rattle.line_values.specs.Values.{is_part, text_of}
use Rattle.line_groups.specs.Rules.{alike, all_or_none, format_rule, optional, 'p', 'd', deflated, payload_good, singles_good, fragment_good, stream_good}
use Rattle.line_groups.specs.Answers.{len_of, fragment_at, stream_at}
use Rattle.line_fields.proofs.Groups.{given-some}
use Rattle.line_places.specs.Headers.{short_value, headers_fit, header_of, headers_of}
use Rattle.line.specs.Reading.{ihave, verb_word, id_word, rest_of, plain, is_text, framed, fields_of, line_of, values_good, well_formed, chk_right, refusal_of, read_of, read_as, Read}
use Rattle.line.specs.Writing.{chosen, mid_text, part_text, sid_text, sn_text, gt_text, choices_of, header_token, header_tokens, dst_token, tokens_of, body_of, chk_token, print_of, message_good}
use Rattle.line.specs.declared.Line.{Line}
use Rattle.line_trip.proofs.Texts.{every_append, every-by, ascii, utf8_append, ascii-ruled, decimal-ascii, hex-ascii, signed-ascii, callsign-ascii, destination-ascii}
use Rattle.line_trip.proofs.Cuts.{before_at, after-at, visible, spaceless, words_back, spaced-plain, spaced-utf8, spaced-append, map-append, sound, ruled-visible, words-visible, tokens-back, all-equals}
use Rattle.line_trip.proofs.Lookups.{not-no, present-is, value_is, given_in, given-chosen, or-none, free, given-past, some-no, once, apart, once-append, once-chosen, others-append, others-free, others-chosen, last-only, sound_choice, sound-chosen}
use Rattle.line_trip.proofs.Values.{number_is, signed_is, id-back, part-ascii, part_is, fragment-back, some-map, map-map, read_back, rule-back, when-some}
use Rattle.line_trip.proofs.Tidied.{good-header, few, each, differ, counted, Rules, rules-of, envelope-tidy}

-- a value of the code's type: its array has eight headers, its numbers lie in their ranges
pub record Typed (m : Line) : Type 0 where
  pub eight : length m.fields.headers.items ≡ 8
  pub salt-fits : (z : ℤ) → m.fields.salt ≡ Some z → SFits w64 z
  pub sn-fits : (t : Stream) → m.fields.stream ≡ Some t → t.sn < 2 ^ 32
  pub gt-fits : (t : Stream) → m.fields.stream ≡ Some t → t.gt < 2 ^ 32

-- ---- the line's words are found again

module _ (idw : List ℕ) (id-visible : visible idw ≡ true) where
  abbrev text : List Token → List ℕ
  text ts = ihave ++ spaced (idw ∷ map word_of ts)

  ihave-bare : has space ihave ≡ false
  unfolding has
  ihave-bare = refl

  verb-back : (ts : List Token) → verb_word (text ts) ≡ ihave
  verb-back ts = before_at space ihave (idw ++ spaced (map word_of ts)) ihave-bare

  behind-verb : (ts : List Token) → after space (text ts) ≡ idw ++ spaced (map word_of ts)
  behind-verb ts = after-at space ihave (idw ++ spaced (map word_of ts)) ihave-bare

  id-word-back : (ts : List Token) → 0 < length ts → id_word (text ts) ≡ idw
  id-word-back [] h = absurd (omega arith)
  id-word-back (t ∷ ts) h = ap (before space) (behind-verb (t ∷ ts)) ∙ before_at space idw (word_of t ++ spaced (map word_of ts)) (spaceless idw id-visible)

  rest-words : (ts : List Token) → 0 < length ts → every sound ts ≡ true → words (rest_of (text ts)) ≡ map word_of ts
  rest-words [] h e = absurd (omega arith)
  rest-words (t ∷ ts) h e =
      let v = words-visible (t ∷ ts) e in
      ap (λ (s : List ℕ). words (after space s)) (behind-verb (t ∷ ts))
      ∙ ap words (after-at space idw (word_of t ++ spaced (map word_of ts)) (spaceless idw id-visible))
      ∙ words_back (word_of t) (map word_of ts) (and_left (visible (word_of t)) _ v) (and_right (visible (word_of t)) _ v)

  rest-tokens : (ts : List Token) → 0 < length ts → every sound ts ≡ true → tokens (rest_of (text ts)) ≡ ts
  rest-tokens ts h e = ap (map token_of) (rest-words ts h e) ∙ tokens-back ts e

  text-is : (ts : List Token) → every sound ts ≡ true → (utf8 (text ts) ≡ true) × (every plain (text ts) ≡ true)
  unfolding run plain
  text-is ts e =
      let v = and_both (visible idw) _ id-visible (words-visible ts e) in (
        utf8_append ihave (spaced (idw ∷ map word_of ts)) refl (spaced-utf8 (idw ∷ map word_of ts) v),
        every_append plain ihave (spaced (idw ∷ map word_of ts)) refl (spaced-plain (idw ∷ map word_of ts) v),
      )

  keyed-back : (ts : List Token) → 0 < length ts → every sound ts ≡ true → once ts ≡ true → last_only key_chk (keys ts) ≡ true → keyed (rest_of (text ts)) ≡ true
  unfolding keyed
  keyed-back ts h e p q =
      let k = ap keys (rest-tokens ts h e) in
      and_both (every (has equals) (words (rest_of (text ts)))) _ (ap (every (has equals)) (rest-words ts h e) ∙ all-equals ts)
      (and_both (all_differ (keys (tokens (rest_of (text ts))))) _ (ap all_differ k ∙ p) (ap (last_only key_chk) k ∙ q))

-- ---- what is not refused is read

module _ (s : List ℕ) (ts : List Token) (e : tokens (rest_of s) ≡ ts) where
  no-refusal : well_formed s ≡ true → chk_right s ts ≡ true → deflated ts ≡ false → (longest_payload <? len_of ts) ≡ false → refusal_of s ≡ 0
  unfolding refusal_of
  no-refusal w c d l =
      if_no _ _ _ (no_true _ w)
      ∙ if_no _ _ _ (no_true _ (ap (chk_right s) e ∙ c))
      ∙ if_no _ _ _ (ap deflated e ∙ d)
      ∙ if_no _ _ _ (ap (λ (x : List Token). longest_payload <? len_of x) e ∙ l)

  was_read : (m : Line) → refusal_of s ≡ 0 → line_of s ≡ m → read_of s ≡ record { reading = Read; line = m }
  unfolding read_of
  was_read m p q = ap (λ (n : ℕ). read_as n (line_of s)) p ∙ ap (read_as 0) q

-- ---- the tokens of a message

abbrev pub all_of : Line → List Token
all_of m = chosen (choices_of m) ++ (header_tokens m.fields.headers ++ (dst_token m ∷ chk_token (body_of m) ∷ []))

all-is : (m : Line) → tokens_of m ++ (chk_token (body_of m) ∷ []) ≡ all_of m
unfolding tokens_of
all-is m =
    append_assoc (chosen (choices_of m)) (header_tokens m.fields.headers ++ (dst_token m ∷ [])) (chk_token (body_of m) ∷ [])
    ∙ ap (λ (l : List Token). chosen (choices_of m) ++ l) (append_assoc (header_tokens m.fields.headers) (dst_token m ∷ []) (chk_token (body_of m) ∷ []))

pub body-print : (m : Line) (c : Token) → body_of m ++ spaced (word_of c ∷ []) ≡ ihave ++ spaced (hex_digits 7 m.fields.id ∷ map word_of (tokens_of m ++ (c ∷ [])))
unfolding body_of
body-print m c =
    append_assoc ihave (spaced (hex_digits 7 m.fields.id ∷ map word_of (tokens_of m))) (spaced (word_of c ∷ []))
    ∙ ap (λ (l : List ℕ). ihave ++ l) (spaced-append (hex_digits 7 m.fields.id ∷ map word_of (tokens_of m)) (word_of c ∷ [])
    ∙ ap (λ (l : List (List ℕ)). spaced (hex_digits 7 m.fields.id ∷ l)) (sym (map-append word_of (tokens_of m) (c ∷ []))))

print-is : (m : Line) → print_of m ≡ ihave ++ spaced (hex_digits 7 m.fields.id ∷ map word_of (all_of m))
unfolding print_of
print-is m =
    body-print m (chk_token (body_of m))
    ∙ ap (λ (l : List Token). ihave ++ spaced (hex_digits 7 m.fields.id ∷ map word_of l)) (all-is m)

-- ---- headers

header-facts : (h : Header) → header h ≡ true → (sound (header_token h) ≡ true) × (free (header_token h) ≡ true) × (short_value (header_token h) ≡ true)
unfolding sound header_key id_text header_value
header-facts h e =
    let g = good-header h e in
    let k = and_left (id_text 32 (key_of h)) _ g.good-key in (
      and_both (ruled false (key_of h)) _ (and_right (1 ≤? length (key_of h) and length (key_of h) ≤? 32) _ k) (and_right (length (value_of h) ≤? 128) _ g.good-value),
      and_right (id_text 32 (key_of h)) _ g.good-key,
      le-leb (length (value_of h)) 128 (header_value-short (value_of h) g.good-value),
    )

every_map : {A B : Type 0} (p : A → Bool) (q : B → Bool) (f : A → B) → ((x : A) → p x ≡ true → q (f x) ≡ true) → (l : List A) → every p l ≡ true → every q (map f l) ≡ true
every_map p q f g [] e = refl
every_map p q f g (x ∷ l) e = and_both (q (f x)) _ (g x (and_left (p x) (every p l) e)) (every_map p q f g l (and_right (p x) (every p l) e))

tokens-tidy : (l : List Header) → map header_of (map header_token l) ≡ map tidy_header l
tokens-tidy [] = refl
tokens-tidy (h ∷ l) = ap (λ (x : List Header). tidy_header h ∷ x) (tokens-tidy l)

keys-map : (l : List Header) → keys (map header_token l) ≡ map key_of l
keys-map [] = refl
keys-map (h ∷ l) = ap (λ (x : List (List ℕ)). key_of h ∷ x) (keys-map l)

-- a key that is not reserved is neither `dst` nor `chk`
free-apart : (v w : List ℕ) (t : Token) → free t ≡ true → apart (token key_dst v ∷ token key_chk w ∷ []) t ≡ true
unfolding reserved reserved_keys present
free-apart v w t h =
    let e = not-no (reserved t.key) h in
    no_false (present t.key (token key_dst v ∷ token key_chk w ∷ [])) (rw (some-no t.key reserved_keys 4 (omega arith) e, some-no t.key reserved_keys 5 (omega arith) e))

module _ {A : Type 0} (k : List ℕ) (f : A → List ℕ) (o : Option A) (e : ruled false k ≡ true) where
  choice-sound : ((x : A) → o ≡ Some x → ruled true (f x) ≡ true) → if_some (λ v. sound (token k v)) (option_map f o) ≡ true
  unfolding sound
  choice-sound g = go o g
    where
      go : (o : Option A) → ((x : A) → o ≡ Some x → ruled true (f x) ≡ true) → if_some (λ v. sound (token k v)) (option_map f o) ≡ true
      go None g = refl
      go (Some x) g = and_both (ruled false k) _ e (g x refl)

  choice-ascii : ((x : A) → o ≡ Some x → every ascii (f x) ≡ true) → if_some (λ v. sound (token k v)) (option_map f o) ≡ true
  choice-ascii g = choice-sound (λ x h. ascii-ruled (f x) (g x h))

alike-back : (b p q : Bool) → p ≡ b → q ≡ b → alike p q ≡ true
alike-back true p q e f = rw (e, f)
alike-back false p q e f = rw (e, f)

-- a stream's keys, read
stream-back : (o : Option Stream) → ((t : Stream) → o ≡ Some t → t.sn < 2 ^ 32) → ((t : Stream) → o ≡ Some t → t.gt < 2 ^ 32)
    → option_map (λ v. stream_at v (text_of (option_map sn_text o)) (text_of (option_map gt_text o))) (option_map sid_text o) ≡ option_map tidy_stream o
stream-back None p q = refl
stream-back (Some t) p q = λ i. Some (record {
  sid = stream_text (stream_bytes t.sid);
  sn = (number_is 4294967295 t.sn (let l = p t refl in omega arith)).1 i;
  gt = (number_is 4294967295 t.gt (let l = q t refl in omega arith)).1 i;
})

-- a fragment's
part-back : (o : Option Fragment) → ((f : Fragment) → o ≡ Some f → fragment_in f.mid f.index f.total ≡ true)
    → option_map (λ v. fragment_at v (text_of (option_map part_text o))) (option_map mid_text o) ≡ o
part-back None e = refl
part-back (Some f) e = ap (λ (x : Fragment). Some x) (fragment-back f (e f refl))

module _ (m : Line) (good : message_good m ≡ true) (typed : Typed m) where
  abbrev e : Envelope
  e = m.fields

  good-envelope : envelope e ≡ true
  unfolding message_good
  good-envelope = and_left (envelope e) _ good

  pub len-fits : m.len ≤ 2147483647
  unfolding message_good
  len-fits = leb-true m.len 2147483647 (and_left _ _ (and_right (envelope e) _ good))

  pub print-fits : (length (print_of m) ≤? 512) ≡ true
  unfolding message_good
  print-fits = and_right (m.len ≤? 2147483647) _ (and_right (envelope e) _ good)

  r : Rules e
  r = rules-of e good-envelope

  abbrev items : List Header
  items = take e.headers.count e.headers.items

  headers-free : every free (header_tokens e.headers) ≡ true
  headers-free = every_map header free header_token (λ h p. (header-facts h p).1) items (each e.headers typed.eight r.headers-rule)

  ttl-most : (v : ℕ) → e.ttl ≡ Some v → v ≤ 2147483647
  unfolding ttl_in
  ttl-most v h = leb-true v 2147483647 (and_right (1 ≤? v) _ (when-some ttl_in e.ttl v r.ttl-rule h))

  src-call : (t : CallText) → e.src ≡ Some t → callsign (call_bytes t) ≡ true
  unfolding call_in
  src-call t h = and_right (t.len ≤? 12) _ (when-some call_in e.src t r.src-rule h)

  part_in : (f : Fragment) → e.fragment ≡ Some f → fragment_in f.mid f.index f.total ≡ true
  part_in f h = when-some rules.fragment_good e.fragment f r.fragment-rule h

  sid-visible : (t : Stream) → e.stream ≡ Some t → ruled true (sid_text t) ≡ true
  unfolding stream_in stream_id id_text
  sid-visible t h =
      let s = stream_bytes t.sid in
      let f = and_right (t.sid.len ≤? 255) _ (when-some rules.stream_good e.stream t r.stream-rule h) in
      ruled-visible s (and_right (1 ≤? length s and length s ≤? 255) _ f)

  dst-is : destination (address_bytes e.dst) ≡ true
  unfolding address_in
  dst-is = and_right (e.dst.len ≤? 45) _ r.dst-rule

  choices-sound : every sound_choice (choices_of m) ≡ true
  unfolding choices_of sound ruled text_byte run
  choices-sound =
      and_both _ _ (choice-ascii key_len decimal (Some m.len) refl (λ v h. decimal-ascii v))
      (and_both _ _ (choice-sound key_fmt (λ (v : List ℕ). 'p') (Some 'p') refl (λ v h. refl))
      (and_both _ _ (choice-ascii key_s signed_decimal e.salt refl (λ z h. signed-ascii z))
      (and_both _ _ (choice-ascii key_ttl decimal e.ttl refl (λ v h. decimal-ascii v))
      (and_both _ _ (choice-ascii key_src call_bytes e.src refl (λ t h. callsign-ascii (call_bytes t) (src-call t h)))
      (and_both _ _ (choice-ascii key_mid mid_text e.fragment refl (λ f h. hex-ascii 7 f.mid))
      (and_both _ _ (choice-ascii key_frag part_text e.fragment refl (λ f h. part-ascii f))
      (and_both _ _ (choice-sound key_sid sid_text e.stream refl sid-visible)
      (and_both _ _ (choice-ascii key_sn sn_text e.stream refl (λ t h. decimal-ascii t.sn))
      (and_both _ _ (choice-ascii key_gt gt_text e.stream refl (λ t h. decimal-ascii t.gt)) refl)))))))))

  abbrev ends : List Token
  ends = dst_token m ∷ chk_token (body_of m) ∷ []

  all_sound : every sound (all_of m) ≡ true
  unfolding sound ruled text_byte run
  all_sound =
      every_append sound (chosen (choices_of m)) (header_tokens e.headers ++ ends) (sound-chosen (choices_of m) choices-sound)
      (every_append sound (header_tokens e.headers) ends
      (every_map header sound header_token (λ h p. (header-facts h p).0) items (each e.headers typed.eight r.headers-rule))
      (and_both (sound (dst_token m)) _ (and_both (ruled false key_dst) _ refl (ascii-ruled (address_bytes e.dst) (destination-ascii (address_bytes e.dst) dst-is)))
      (and_both (sound (chk_token (body_of m))) true (and_both (ruled false key_chk) _ refl (ascii-ruled (hex_digits 4 (crc16 (body_of m))) (hex-ascii 4 (crc16 (body_of m))))) refl)))

  all-some : 0 < length (all_of m)
  all-some = omega (arith, length-append (chosen (choices_of m)) (header_tokens e.headers ++ ends), length-append (header_tokens e.headers) ends)

  -- looking a reserved key up
  look : (k : List ℕ) → reserved k ≡ true → given k (all_of m) ≡ given_in k (choices_of m) (given k ends)
  look k p = given-chosen k (choices_of m) (header_tokens e.headers ++ ends) ∙ ap (given_in k (choices_of m)) (given-past k ends p (header_tokens e.headers) headers-free)

  -- what each key is found to say
  f-len : given key_len (all_of m) ≡ Some (decimal m.len)
  unfolding choices_of reserved reserved_keys present value
  f-len = look key_len refl

  f-fmt : given key_fmt (all_of m) ≡ Some 'p'
  unfolding choices_of reserved reserved_keys present value
  f-fmt = look key_fmt refl

  f-dst : given key_dst (all_of m) ≡ Some (address_bytes e.dst)
  unfolding choices_of reserved reserved_keys present value
  f-dst = look key_dst refl

  f-chk : given key_chk (all_of m) ≡ Some (hex_digits 4 (crc16 (body_of m)))
  unfolding choices_of reserved reserved_keys present value
  f-chk = look key_chk refl

  f-clen : given key_clen (all_of m) ≡ None
  unfolding choices_of reserved reserved_keys present value
  f-clen = look key_clen refl

  f-s : given key_s (all_of m) ≡ option_map signed_decimal e.salt
  unfolding choices_of reserved reserved_keys present value
  f-s = look key_s refl ∙ or-none (option_map signed_decimal e.salt)

  f-ttl : given key_ttl (all_of m) ≡ option_map decimal e.ttl
  unfolding choices_of reserved reserved_keys present value
  f-ttl = look key_ttl refl ∙ or-none (option_map decimal e.ttl)

  f-src : given key_src (all_of m) ≡ option_map call_bytes e.src
  unfolding choices_of reserved reserved_keys present value
  f-src = look key_src refl ∙ or-none (option_map call_bytes e.src)

  f-mid : given key_mid (all_of m) ≡ option_map mid_text e.fragment
  unfolding choices_of reserved reserved_keys present value
  f-mid = look key_mid refl ∙ or-none (option_map mid_text e.fragment)

  f-frag : given key_frag (all_of m) ≡ option_map part_text e.fragment
  unfolding choices_of reserved reserved_keys present value
  f-frag = look key_frag refl ∙ or-none (option_map part_text e.fragment)

  f-sid : given key_sid (all_of m) ≡ option_map sid_text e.stream
  unfolding choices_of reserved reserved_keys present value
  f-sid = look key_sid refl ∙ or-none (option_map sid_text e.stream)

  f-sn : given key_sn (all_of m) ≡ option_map sn_text e.stream
  unfolding choices_of reserved reserved_keys present value
  f-sn = look key_sn refl ∙ or-none (option_map sn_text e.stream)

  f-gt : given key_gt (all_of m) ≡ option_map gt_text e.stream
  unfolding choices_of reserved reserved_keys present value
  f-gt = look key_gt refl ∙ or-none (option_map gt_text e.stream)

  v-len : value key_len (all_of m) ≡ decimal m.len
  v-len = value_is key_len (all_of m) _ f-len

  v-fmt : value key_fmt (all_of m) ≡ 'p'
  v-fmt = value_is key_fmt (all_of m) _ f-fmt

  v-dst : value key_dst (all_of m) ≡ address_bytes e.dst
  v-dst = value_is key_dst (all_of m) _ f-dst

  v-chk : value key_chk (all_of m) ≡ hex_digits 4 (crc16 (body_of m))
  v-chk = value_is key_chk (all_of m) _ f-chk

  g-chk : present key_chk (all_of m) ≡ true
  g-chk = present-is key_chk (all_of m) _ f-chk

  g-clen : present key_clen (all_of m) ≡ false
  g-clen = present-is key_clen (all_of m) _ f-clen

  -- the headers, and no key twice
  others-all : others (all_of m) ≡ header_tokens e.headers
  unfolding choices_of reserved reserved_keys others
  others-all =
      others-append (chosen (choices_of m)) (header_tokens e.headers ++ ends)
      ∙ ap (λ (l : List Token). l ++ others (header_tokens e.headers ++ ends)) (others-chosen (choices_of m) refl)
      ∙ others-append (header_tokens e.headers) ends
      ∙ ap (λ (l : List Token). l ++ []) (others-free (header_tokens e.headers) headers-free)
      ∙ append-nil (header_tokens e.headers)

  past-headers : (k : List ℕ) (ts : List Token) → reserved k ≡ true → present k ts ≡ false → present k (header_tokens e.headers ++ ts) ≡ false
  past-headers k ts p q = present-is k (header_tokens e.headers ++ ts) (given k ts) (given-past k ts p (header_tokens e.headers) headers-free) ∙ given-some k ts ∙ q

  clear_behind : (k : List ℕ) → reserved k ≡ true → present k ends ≡ false → no (present k (header_tokens e.headers ++ ends)) ≡ true
  clear_behind k p q = no_false _ (past-headers k ends p q)

  all_once : once (all_of m) ≡ true
  unfolding choices_of reserved reserved_keys present all_differ keys_of
  all_once =
      once-chosen (choices_of m) (header_tokens e.headers ++ ends)
      (once-append (header_tokens e.headers) ends (ap all_differ (keys-map items) ∙ differ e.headers typed.eight r.headers-rule) refl
      (every-by free (apart ends) (free-apart (address_bytes e.dst) (hex_digits 4 (crc16 (body_of m)))) (header_tokens e.headers) headers-free))
      (and_both _ _ (clear_behind key_len refl refl)
      (and_both _ _ (clear_behind key_fmt refl refl)
      (and_both _ _ (clear_behind key_s refl refl)
      (and_both _ _ (clear_behind key_ttl refl refl)
      (and_both _ _ (clear_behind key_src refl refl)
      (and_both _ _ (clear_behind key_mid refl refl)
      (and_both _ _ (clear_behind key_frag refl refl)
      (and_both _ _ (clear_behind key_sid refl refl)
      (and_both _ _ (clear_behind key_sn refl refl)
      (and_both _ _ (clear_behind key_gt refl refl) refl))))))))))

  chk-last : last_only key_chk (keys (all_of m)) ≡ true
  unfolding choices_of reserved reserved_keys present tokens_of
  chk-last =
      sym (ap (λ (l : List Token). last_only key_chk (keys l)) (all-is m))
      ∙ last-only key_chk (tokens_of m) (chk_token (body_of m))
      (present-is key_chk (tokens_of m) None (given-chosen key_chk (choices_of m) (header_tokens e.headers ++ (dst_token m ∷ []))
      ∙ given-past key_chk (dst_token m ∷ []) refl (header_tokens e.headers) headers-free))

  -- ---- the rules

  payload-good : payload_good (all_of m) ≡ true
  unfolding payload_good
  payload-good =
      and_both (is_number 2147483647 (value key_len (all_of m))) _ (ap (is_number 2147483647) v-len ∙ (number_is 2147483647 m.len len-fits).0)
      (and_both (format_rule (same (value key_fmt (all_of m)) 'p') (deflated (all_of m)) (present key_clen (all_of m))) _ (rw (g-clen, v-fmt)) (if_no _ _ _ g-clen))

  singles-good : singles_good (all_of m) ≡ true
  unfolding singles_good
  singles-good =
      and_both (optional key_s is_signed (all_of m)) _ (rule-back is_signed signed_decimal e.salt key_s (all_of m) f-s (λ z h. (signed_is z (typed.salt-fits z h)).0))
      (and_both (optional key_ttl (is_number 2147483647) (all_of m)) _
      (rule-back (is_number 2147483647) decimal e.ttl key_ttl (all_of m) f-ttl (λ v h. (number_is 2147483647 v (ttl-most v h)).0))
      (if_yes _ _ _ g-chk ∙ ap (is_hex 4) v-chk ∙ hex-is 4 (crc16 (body_of m))))

  fragment-good : fragment_good (all_of m) ≡ true
  unfolding fragment_good
  fragment-good =
      and_both (alike (present key_mid (all_of m)) (present key_frag (all_of m))) _
      (alike-back (is_some e.fragment) _ _ (present-is key_mid (all_of m) _ f-mid ∙ some-map mid_text e.fragment) (present-is key_frag (all_of m) _ f-frag ∙ some-map part_text e.fragment))
      (and_both (optional key_mid (is_hex 7) (all_of m)) _
      (rule-back (is_hex 7) mid_text e.fragment key_mid (all_of m) f-mid (λ f h. hex-is 7 f.mid))
      (rule-back is_part part_text e.fragment key_frag (all_of m) f-frag (λ f h. part_is f (part_in f h))))

  stream-good : stream_good (all_of m) ≡ true
  unfolding stream_good
  stream-good =
      let sid = present-is key_sid (all_of m) _ f-sid ∙ some-map sid_text e.stream in
      let sn = present-is key_sn (all_of m) _ f-sn ∙ some-map sn_text e.stream in
      let gt = present-is key_gt (all_of m) _ f-gt ∙ some-map gt_text e.stream in
      and_both (all_or_none (present key_sid (all_of m)) (present key_sn (all_of m)) (present key_gt (all_of m))) _
      (and_both (alike (present key_sid (all_of m)) (present key_sn (all_of m))) _ (alike-back (is_some e.stream) _ _ sid sn) (alike-back (is_some e.stream) _ _ sid gt))
      (and_both (optional key_sn (is_number 4294967295) (all_of m)) _
      (rule-back (is_number 4294967295) sn_text e.stream key_sn (all_of m) f-sn (λ t h. (number_is 4294967295 t.sn (let l = typed.sn-fits t h in omega arith)).0))
      (rule-back (is_number 4294967295) gt_text e.stream key_gt (all_of m) f-gt (λ t h. (number_is 4294967295 t.gt (let l = typed.gt-fits t h in omega arith)).0)))

  counted-all : length (others (all_of m)) ≡ e.headers.count
  counted-all = ap length others-all ∙ length-map items header_token ∙ counted e.headers typed.eight r.headers-rule

  headers-fit : headers_fit (all_of m) ≡ true
  unfolding headers_fit
  headers-fit =
      and_both (length (others (all_of m)) ≤? 8) _ (le-leb (length (others (all_of m))) 8 (omega (arith, counted-all, few e.headers typed.eight r.headers-rule)))
      (ap (every short_value) others-all ∙ every_map header short_value header_token (λ h p. (header-facts h p).2) items (each e.headers typed.eight r.headers-rule))

  values-good : values_good (all_of m) ≡ true
  unfolding values_good
  values-good =
      and_both (payload_good (all_of m)) _ payload-good
      (and_both (singles_good (all_of m)) _ singles-good
      (and_both (fragment_good (all_of m)) _ fragment-good
      (and_both (stream_good (all_of m)) _ stream-good headers-fit)))

  -- ---- what the line says

  headers-back : headers_of (others (all_of m)) ≡ tidy_headers e.headers
  unfolding headers_of tidy_headers
  headers-back = λ i. record {
    items = front ((ap (map header_of) others-all ∙ tokens-tidy items) i) (replicate 8 (header_text [] []));
    count = counted-all i;
  }

  pub fields_back : (id : ℕ) → id ≡ e.id → fields_of id (all_of m) ≡ tidy e
  unfolding fields_of tidy
  fields_back id p = λ i. record {
    id = p i;
    salt = (ap (λ (o : Option (List ℕ)). option_map signed o) f-s ∙ read_back signed_decimal signed e.salt (λ z h. (signed_is z (typed.salt-fits z h)).1)) i;
    ttl = (ap (λ (o : Option (List ℕ)). option_map number o) f-ttl ∙ read_back decimal number e.ttl (λ v h. (number_is 2147483647 v (ttl-most v h)).1)) i;
    src = (ap (λ (o : Option (List ℕ)). option_map call_text o) f-src ∙ map-map call_text call_bytes e.src) i;
    fragment = ((λ j. option_map (λ v. fragment_at v (value_is key_frag (all_of m) _ f-frag j)) (f-mid j)) ∙ part-back e.fragment part_in) i;
    stream = ((λ j. option_map (λ v. stream_at v (value_is key_sn (all_of m) _ f-sn j) (value_is key_gt (all_of m) _ f-gt j)) (f-sid j)) ∙ stream-back e.stream typed.sn-fits typed.gt-fits) i;
    headers = headers-back i;
    dst = (ap address_text v-dst) i;
  }

  -- ---- the whole line

  abbrev idw : List ℕ
  idw = hex_digits 7 e.id

  id-visible : visible idw ≡ true
  id-visible = ascii-ruled idw (hex-ascii 7 e.id)

  id-value : hex_value idw ≡ e.id
  id-value = id-back e.id r.id-rule

  abbrev line : List ℕ
  line = text idw id-visible (all_of m)

  line-tokens : tokens (rest_of line) ≡ all_of m
  line-tokens = rest-tokens idw id-visible (all_of m) all-some all_sound

  line-fields : fields_of (hex_value (id_word line)) (tokens (rest_of line)) ≡ tidy e
  line-fields =
      ap (fields_of (hex_value (id_word line))) line-tokens
      ∙ fields_back (hex_value (id_word line)) (ap hex_value (id-word-back idw id-visible (all_of m) all-some) ∙ id-value)

  line-framed : framed line ≡ true
  unfolding framed
  line-framed =
      and_both (same (verb_word line) ihave) _ (ap (λ (v : List ℕ). same v ihave) (verb-back idw id-visible (all_of m)) ∙ same_refl ihave)
      (and_both (is_hex 7 (id_word line)) _ (ap (is_hex 7) (id-word-back idw id-visible (all_of m) all-some) ∙ hex-is 7 e.id)
      (keyed-back idw id-visible (all_of m) all-some all_sound all_once chk-last))

  line-formed : well_formed line ≡ true
  unfolding well_formed is_text
  line-formed =
      let t = text-is idw id-visible (all_of m) all_sound in
      and_both (is_text line) _ (and_both (length line ≤? 512) _ (ap (λ (s : List ℕ). length s ≤? 512) (sym (print-is m)) ∙ print-fits) (and_both (utf8 line) _ t.0 t.1))
      (and_both (framed line) _ line-framed
      (and_both (values_good (tokens (rest_of line))) _ (ap values_good line-tokens ∙ values-good) (ap envelope line-fields ∙ envelope-tidy e typed.eight good-envelope)))

  body-front : take (length (print_of m) - 9) (print_of m) ≡ body_of m
  unfolding print_of
  body-front =
      let c = spaced (word_of (chk_token (body_of m)) ∷ []) in
      let h = length_digits 16 4 (crc16 (body_of m)) in
      let k = length-append (hex_digits 4 (crc16 (body_of m))) [] in
      let n : length c ≡ 9 = omega arith in
      take_at (body_of m) c (length (body_of m ++ c) - 9) (omega (arith, length-append (body_of m) c))

  line-right : chk_right line (all_of m) ≡ true
  unfolding chk_right
  line-right =
      if_yes _ _ _ g-chk
      ∙ eq-eqb (crc16 (take (length line - 9) line)) (hex_value (value key_chk (all_of m)))
      (ap crc16 (ap (λ (s : List ℕ). take (length s - 9) s) (sym (print-is m)) ∙ body-front)
      ∙ sym (ap hex_value v-chk ∙ hex-back 4 (crc16 (body_of m)) (feed-lt start (body_of m) (omega arith))))

  pub line_read : m.len ≤ longest_payload → read_of (print_of m) ≡ record { reading = Read; line = record { len = m.len; fields = tidy e } }
  unfolding line_of
  line_read small =
      let n : len_of (all_of m) ≡ m.len = ap number v-len ∙ (number_is 2147483647 m.len len-fits).1 in
      ap read_of (print-is m)
      ∙ was_read line (all_of m) line-tokens (record { len = m.len; fields = tidy e })
      (no-refusal line (all_of m) line-tokens line-formed line-right (ap (λ (v : List ℕ). same v 'd') v-fmt) (ap (λ (x : ℕ). longest_payload <? x) n ∙ le-ltb longest_payload m.len small))
      (λ i. record { len = (ap len_of line-tokens ∙ n) i; fields = line-fields i })
