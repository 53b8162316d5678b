-- THEOREMS: what was read from an accepted line is valid and tidy; so if it is written, it is read back as the same message.
use Rattle.std.specs.Prelude.{Option, Some, None, if◌then◌else◌}
use Rattle.std.specs.Option.{option_map}
use Prim.Native.Nat.{ℕ, zero, suc, ◌≤◌, ◌<◌, ◌-◌}
use mathlib.Core.Path.{◌≡◌, refl, ap, sym, ◌∙◌, subst}
use mathlib.Core.Bool.{Bool, true, false}
use mathlib.Core.List.{List, [], ◌∷◌, ◌++◌, map}
use native.Mathlib.Omega.{arith}
use lib.ListN.{length, take, drop, replicate, length-append, length-drop, length-map, length-replicate}
use lib.Seq.{take_at}
use lib.IntN.{ℤ, pos, neg_ℤ}
use mir.Syntax.{w64}
use mir.Val.{SFits}
use borrow.Author.Tests.{leb-true, ltb-true, ltb-false}
use Rattle.octets.specs.Words.{◌and◌, no, ◌<?◌, ◌≤?◌}
use Rattle.octets.proofs.Tests.{and_left, and_right, if_yes}
use Rattle.refusals.specs.Numbers.{line_malformed, chk_differs, format_d, payload_too_long, longest_payload}
use Rattle.text.specs.Digits as digits
use Rattle.text.specs.Decimal.{is_decimal, is_number, number, is_signed, has_minus, signed}
use Rattle.text.specs.Hex.{is_hex, hex_value}
use Rattle.names.specs.Reserved.{key_s, key_dst, key_chk, key_ttl, key_src, key_mid, key_frag, key_sid, key_sn, key_gt}
use Rattle.headers.specs.Keys.{key_of}
use Rattle.headers.specs.Rule.{value_of}
use Rattle.envelope.specs.Texts.{fitted, padded, call_text, address_text, stream_text, header_text}
use Rattle.envelope.specs.declared.Stream.{Stream}
use Rattle.envelope.specs.Rules.{envelope}
use Rattle.envelope.specs.Tidy.{tidy_call, tidy_stream, tidy_header, tidy_headers, tidy}
use Rattle.tokens.specs.Tokens.{Token, tokens, present, value, given, others}
use Rattle.tokens.proofs.Lookups.{value-missing}
use Rattle.line_values.specs.Values.{is_part}
use Rattle.line_groups.specs.Rules.{alike, all_or_none, optional, deflated, payload_good, singles_good, fragment_good, stream_good}
use Rattle.line_groups.specs.Answers.{len_of, fragment_at, stream_at}
use Rattle.line_places.specs.Headers.{headers_fit, header_of, headers_of}
use Rattle.line.specs.Reading.{id_word, rest_of, is_text, framed, fields_of, line_of, values_good, well_formed, chk_right, refusal_of, read_as, read_of}
use Rattle.line_writer.specs.Answer.{Written, write_answer, write_left}
use Rattle.line_trip.proofs.Message.{Typed}
use Rattle.line_trip.proofs.Calls.{written-then-read}

-- ---- what an accepted line keeps

pub record Kept (s : List ℕ) : Type 0 where
  pub text : is_text s ≡ true
  pub frame : framed s ≡ true
  pub payload : payload_good (tokens (rest_of s)) ≡ true
  pub singles : singles_good (tokens (rest_of s)) ≡ true
  pub fragment : fragment_good (tokens (rest_of s)) ≡ true
  pub stream : stream_good (tokens (rest_of s)) ≡ true
  pub fit : headers_fit (tokens (rest_of s)) ≡ true
  pub valid : envelope (fields_of (hex_value (id_word s)) (tokens (rest_of s))) ≡ true
  pub right : chk_right s (tokens (rest_of s)) ≡ true
  pub raw : deflated (tokens (rest_of s)) ≡ false
  pub small : len_of (tokens (rest_of s)) ≤ longest_payload

tests : (a b c d : Bool) → (if no a then line_malformed else if no b then chk_differs else if c then format_d else if d then payload_too_long else 0) ≡ 0
    → (a ≡ true) × (b ≡ true) × (c ≡ false) × (d ≡ false)
tests true true false false e = (refl, refl, refl, refl)
tests true true false true e = absurd (omega arith)
tests true true true d e = absurd (omega arith)
tests true false c d e = absurd (omega arith)
tests false b c d e = absurd (omega arith)

pub kept : (s : List ℕ) → refusal_of s ≡ 0 → Kept s
unfolding refusal_of well_formed values_good
kept s e =
    let ts = tokens (rest_of s) in
    let n = tests (well_formed s) (chk_right s ts) (deflated ts) (longest_payload <? len_of ts) e in
    let a = and_right (is_text s) (framed s and (values_good ts and envelope (fields_of (hex_value (id_word s)) ts))) n.0 in
    let b = and_right (framed s) (values_good ts and envelope (fields_of (hex_value (id_word s)) ts)) a in
    let c = and_left (values_good ts) (envelope (fields_of (hex_value (id_word s)) ts)) b in
    let d = and_right (payload_good ts) (singles_good ts and (fragment_good ts and (stream_good ts and headers_fit ts))) c in
    let f = and_right (singles_good ts) (fragment_good ts and (stream_good ts and headers_fit ts)) d in
    let g = and_right (fragment_good ts) (stream_good ts and headers_fit ts) f in
    record {
      text = and_left (is_text s) _ n.0;
      frame = and_left (framed s) _ a;
      payload = and_left (payload_good ts) _ c;
      singles = and_left (singles_good ts) _ d;
      fragment = and_left (fragment_good ts) _ f;
      stream = and_left (stream_good ts) (headers_fit ts) g;
      fit = and_right (stream_good ts) (headers_fit ts) g;
      valid = and_right (values_good ts) _ b;
      right = n.1;
      raw = n.2;
      small = ltb-false longest_payload (len_of ts) n.3;
    }

-- ---- texts held once are held the same again

fitted-again : (n : ℕ) (s : List ℕ) → fitted n (fitted n s) ≡ fitted n s
unfolding fitted
fitted-again n s = go (length s ≤? n) refl
  where
    same : (b : Bool) → ◌≡◌ {A = List ℕ} (if b then [] else []) []
    same true = refl
    same false = refl

    go : (b : Bool) → (length s ≤? n) ≡ b → (if length (if b then s else []) ≤? n then (if b then s else []) else []) ≡ (if b then s else [])
    go true e = if_yes _ _ _ e
    go false e = same (0 ≤? n)

pub held-text : (n : ℕ) (s : List ℕ) → take (length (fitted n s)) (padded n (fitted n s)) ≡ fitted n s
unfolding padded
held-text n s = take_at (fitted n s) _ (length (fitted n s)) refl

call-again : (o : Option (List ℕ)) → option_map tidy_call (option_map call_text o) ≡ option_map call_text o
call-again None = refl
call-again (Some v) = ap Some (ap call_text (held-text 12 v) ∙ rw (fitted-again 12 v))

address-again : (v : List ℕ) → address_text (take (length (fitted 45 v)) (padded 45 (fitted 45 v))) ≡ address_text v
address-again v = ap address_text (held-text 45 v) ∙ rw (fitted-again 45 v)

text-again : (v : List ℕ) → stream_text (take (length (fitted 255 v)) (padded 255 (fitted 255 v))) ≡ stream_text v
text-again v = ap stream_text (held-text 255 v) ∙ rw (fitted-again 255 v)

stream-again : (sn gt : List ℕ) (o : Option (List ℕ)) → option_map tidy_stream (option_map (λ v. stream_at v sn gt) o) ≡ option_map (λ v. stream_at v sn gt) o
stream-again sn gt None = refl
stream-again sn gt (Some v) = λ i. Some (record { sid = text-again v i; sn = number sn; gt = number gt })

header-again : (t : Token) → tidy_header (header_of t) ≡ header_of t
unfolding key_of value_of
header-again t = rw (held-text 32 t.key, held-text 128 t.value) (rw (fitted-again 32 t.key, fitted-again 128 t.value))

each_again : (os : List Token) → map tidy_header (map header_of os) ≡ map header_of os
each_again [] = refl
each_again (t ∷ os) = rw (header-again t, each_again os)

pub headers-again : (os : List Token) → tidy_headers (headers_of os) ≡ headers_of os
unfolding tidy_headers headers_of
headers-again os =
    let k : take (length os) (map header_of os ++ drop (length (map header_of os)) (replicate 8 (header_text [] []))) ≡ map header_of os = take_at (map header_of os) _ (length os) (length-map os header_of) in
    rw k (rw (each_again os))

-- ---- what a value that is there says

said-by : {A : Type 0} (rule : List ℕ → Bool) (f : List ℕ → A) (k : List ℕ) (ts : List Token) (x : A) → optional k rule ts ≡ true → option_map f (given k ts) ≡ Some x
    → (rule (value k ts) ≡ true) × (f (value k ts) ≡ x)
said-by rule f k ts x e q = go (present k ts) e q
  where
    go : (b : Bool) → (if b then rule (value k ts) else true) ≡ true → option_map f (if b then Some (value k ts) else None) ≡ Some x → (rule (value k ts) ≡ true) × (f (value k ts) ≡ x)
    go true e q = (e, cc)
    go false e q = cc

-- a stream's numbers
numbers-said : (sn gt : List ℕ) (t : Stream) (o : Option (List ℕ)) → option_map (λ v. stream_at v sn gt) o ≡ Some t → (t.sn ≡ number sn) × (t.gt ≡ number gt)
numbers-said sn gt t None e = cc
numbers-said sn gt t (Some v) e = let p : stream_at v sn gt ≡ t = cc in (sym (ap (λ (x : Stream). x.sn) p), sym (ap (λ (x : Stream). x.gt) p))

alike_same : (a b : Bool) → alike a b ≡ true → a ≡ b
alike_same true b e = sym e
alike_same false true e = e
alike_same false false e = refl

-- ---- the fields of an accepted line are tidy

module _ (s : List ℕ) (ok : refusal_of s ≡ 0) where
  abbrev ts : List Token
  ts = tokens (rest_of s)

  pub accepted-valid : envelope (line_of s).fields ≡ true
  unfolding line_of
  accepted-valid = (kept s ok).valid

  pub accepted-short : (line_of s).len ≤ longest_payload
  unfolding line_of
  accepted-short = (kept s ok).small

  pub mid-frag : present key_mid ts ≡ present key_frag ts
  unfolding fragment_good
  mid-frag = alike_same (present key_mid ts) (present key_frag ts) (and_left (alike (present key_mid ts) (present key_frag ts)) (optional key_mid (is_hex 7) ts and optional key_frag is_part ts) (kept s ok).fragment)

  abbrev numbers : Bool
  numbers = optional key_sn (is_number 4294967295) ts and optional key_gt (is_number 4294967295) ts

  together : all_or_none (present key_sid ts) (present key_sn ts) (present key_gt ts) ≡ true
  unfolding stream_good
  together = and_left (all_or_none (present key_sid ts) (present key_sn ts) (present key_gt ts)) numbers (kept s ok).stream

  pub sid-sn : present key_sid ts ≡ present key_sn ts
  sid-sn = alike_same (present key_sid ts) (present key_sn ts) (and_left (alike (present key_sid ts) (present key_sn ts)) _ together)

  pub sid-gt : present key_sid ts ≡ present key_gt ts
  sid-gt = alike_same (present key_sid ts) (present key_gt ts) (and_right (alike (present key_sid ts) (present key_sn ts)) _ together)

  pub accepted-tidy : tidy (line_of s).fields ≡ (line_of s).fields
  unfolding line_of fields_of tidy
  accepted-tidy = λ i. record {
    id = hex_value (id_word s);
    salt = option_map signed (given key_s ts);
    ttl = option_map number (given key_ttl ts);
    src = call-again (given key_src ts) i;
    fragment = option_map (λ v. fragment_at v (value key_frag ts)) (given key_mid ts);
    stream = stream-again (value key_sn ts) (value key_gt ts) (given key_sid ts) i;
    headers = headers-again (others ts) i;
    dst = address-again (value key_dst ts) i;
  }

  -- ---- they are a value of the code's type

  fits_signed : (v : List ℕ) → is_signed v ≡ true → SFits w64 (signed v)
  fits_signed v e = go (has_minus v) e
    where
      minus : (n : ℕ) → 0 < n → n ≤ 9223372036854775808 → SFits w64 (neg_ℤ (pos n))
      minus zero h l = absurd (omega arith)
      minus (suc n) h l = record { sfits = omega arith }

      go : (b : Bool) → (if b then is_number 9223372036854775808 (drop 1 v) and 0 <? number (drop 1 v) else is_number 9223372036854775807 v) ≡ true
          → SFits w64 (if b then neg_ℤ (pos (number (drop 1 v))) else pos (number v))
      go true f =
          minus (number (drop 1 v)) (ltb-true 0 (number (drop 1 v)) (and_right (is_number 9223372036854775808 (drop 1 v)) (0 <? number (drop 1 v)) f))
          (leb-true (number (drop 1 v)) 9223372036854775808 (and_right (is_decimal (drop 1 v)) (number (drop 1 v) ≤? 9223372036854775808) (and_left (is_number 9223372036854775808 (drop 1 v)) (0 <? number (drop 1 v)) f)))
      go false f = record { sfits = let k = leb-true (number v) 9223372036854775807 (and_right (is_decimal v) (number v ≤? 9223372036854775807) f) in omega arith }

  within : (limit : ℕ) (k : List ℕ) → optional k (is_number limit) ts ≡ true → number (value k ts) ≤ limit
  unfolding digits.value
  within limit k e = go (present k ts) refl e
    where
      go : (b : Bool) → present k ts ≡ b → (if b then is_number limit (value k ts) else true) ≡ true → number (value k ts) ≤ limit
      go true g f = leb-true (number (value k ts)) limit (and_right (is_decimal (value k ts)) (number (value k ts) ≤? limit) f)
      go false g f = let z : number (value k ts) ≡ 0 = ap number (value-missing k ts g) in omega arith

  salt-within : (z : ℤ) → option_map signed (given key_s ts) ≡ Some z → SFits w64 z
  unfolding singles_good
  salt-within z q =
      let e = and_left (optional key_s is_signed ts) (optional key_ttl (is_number 2147483647) ts and optional key_chk (is_hex 4) ts) (kept s ok).singles in
      let h = said-by is_signed signed key_s ts z e q in
      subst (λ x. SFits w64 x) h.1 (fits_signed (value key_s ts) h.0)

  numbers-good : numbers ≡ true
  unfolding stream_good
  numbers-good = and_right (all_or_none (present key_sid ts) (present key_sn ts) (present key_gt ts)) numbers (kept s ok).stream

  pub items-eight : length (headers_of (others ts)).items ≡ 8
  unfolding headers_of headers_fit
  items-eight =
      let l = leb-true (length (others ts)) 8 (and_left (length (others ts) ≤? 8) _ (kept s ok).fit) in
      simp (length-append, length-drop, length-map, length-replicate) (omega arith)

  pub accepted-typed : Typed (line_of s)
  unfolding line_of fields_of
  accepted-typed = record {
    eight = items-eight;
    salt-fits = salt-within;
    sn-fits = λ t q. let h = numbers-said (value key_sn ts) (value key_gt ts) t (given key_sid ts) q in let l = within 4294967295 key_sn (and_left (optional key_sn (is_number 4294967295) ts) _ numbers-good) in omega (arith, h.0);
    gt-fits = λ t q. let h = numbers-said (value key_sn ts) (value key_gt ts) t (given key_sid ts) q in let l = within 4294967295 key_gt (and_right (optional key_sn (is_number 4294967295) ts) _ numbers-good) in omega (arith, h.1);
  }

  -- ---- written, it is read back as the same message

  pub accepted-again : (buffer : List ℕ) (n : ℕ) → write_answer (line_of s) buffer ≡ Written n → read_of (take (n - 1) (write_left (line_of s) buffer)) ≡ read_of s
  unfolding read_of
  accepted-again buffer n e =
      written-then-read (line_of s) buffer n accepted-typed e
      ∙ rw accepted-tidy (ap (λ (k : ℕ). read_as k (line_of s)) (sym ok))
