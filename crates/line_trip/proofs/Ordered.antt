-- THEOREM: an accepted line in the writer's order, with `chk`, is written again byte for byte.
use Rattle.std.specs.Prelude.{Some, None, if◌then◌else◌}
use Rattle.std.specs.Option.{option_map, option_to_list}
use Prim.Native.Nat.{ℕ, suc, ◌-◌}
use mathlib.Core.Path.{◌≡◌, refl, ap, sym, ◌∙◌}
use mathlib.Core.Bool.{Bool, true, false}
use mathlib.Core.List.{List, [], ◌∷◌, ◌++◌, map, append_assoc, append-nil}
use native.Mathlib.Omega.{arith}
use lib.ListN.{length, take, drop, replicate, length-append, length-map}
use lib.Seq.{take_at}
use borrow.Author.Tests.{eqb-true}
use Rattle.octets.specs.Words.{◌and◌, ◌or◌, no, ◌=?◌, ◌≤?◌, every, some}
use Rattle.octets.specs.Bytes.{same}
use Rattle.octets.proofs.Lists.{same-eq, same_refl}
use Rattle.octets.proofs.Tests.{and_left, and_right, if_yes, if_no, or_no, true-not-false}
use Rattle.text.specs.Decimal.{is_decimal, is_number, number, decimal, is_signed, signed, signed_decimal}
use Rattle.text.specs.Hex.{is_hex, hex_value, hex_digits}
use Rattle.text.proofs.Decimals.{number-forth, signed-forth}
use Rattle.text.proofs.Hexes.{hex-forth}
use Rattle.callsigns.specs.Runs.{run}
use Rattle.callsigns.specs.Callsign.{base_length, callsign}
use Rattle.callsigns.specs.Destination.{destination}
use Rattle.crc16.specs.Crc.{crc16}
use Rattle.names.specs.Texts.{id_text, stream_id, header_key}
use Rattle.names.specs.Reserved.{reserved, key_len, key_fmt, key_s, key_clen, key_dst, key_chk, key_ttl, key_src, key_mid, key_frag, key_sid, key_sn, key_gt}
use Rattle.headers.specs.Keys.{all_differ, key_of}
use Rattle.headers.specs.Rule.{value_of, header}
use Rattle.std.specs.List.{onto_first}
use Rattle.tokens.specs.Cuts.{has, before, after, split}
use Rattle.tokens.proofs.Parts.{before-cons, after-cons}
use Rattle.tokens.specs.Tokens.{Token, token, token_of, words, tokens, keys, present, value, given, others, keyed, space, equals, word_of, spaced}
use Rattle.tokens.proofs.Lookups.{value-missing}
use Rattle.envelope.specs.Texts.{fitted, call_text, address_text, stream_text, header_text}
use Rattle.envelope.specs.Rules.{call_bytes, address_bytes, stream_bytes, call_in, address_in, stream_in, if_some}
use Rattle.envelope.specs.Rules as rules
use Rattle.line_values.specs.Values.{slash, is_part}
use Rattle.line_groups.specs.Rules.{alike, all_or_none, format_rule, optional, 'p', deflated, payload_good, singles_good, fragment_good, stream_good}
use Rattle.line_groups.specs.Answers.{fragment_at, stream_at}
use Rattle.line_places.specs.Headers.{short_value, headers_fit, header_of, headers_of}
use Rattle.line.specs.Reading.{ihave, verb_word, id_word, rest_of, framed, fields_of, line_of, chk_right, refusal_of}
use Rattle.line.specs.Writing.{Choice, chosen, mid_text, part_text, sid_text, sn_text, gt_text, choices_of, header_token, header_tokens, dst_token, tokens_of, body_of, chk_token, print_of}
use Rattle.line.specs.declared.Line.{Line}
use Rattle.line_trip.specs.Order.{first_keys, present_among, InOrder}
use Rattle.line_trip.proofs.Lookups.{not-no}
use Rattle.line_trip.proofs.Cuts.{map-append}
use Rattle.line_trip.proofs.Values.{when-set}
use Rattle.line_trip.proofs.Tidied.{good-header, each, Rules, rules-of}
use Rattle.line_trip.proofs.Message.{body-print}
use Rattle.line_trip.proofs.Accepted.{Kept, kept, held-text, items-eight, mid-frag, sid-sn, sid-gt}

-- ---- a text is put together again from its parts

module _ (c : ℕ) where
  pub cut-join : (s : List ℕ) → has c s ≡ true → before c s ++ (c ∷ after c s) ≡ s
  unfolding has before after
  cut-join [] e = true-not-false false e refl
  cut-join (x ∷ s) e = rw (before-cons c x s, after-cons c x s) (go (x =? c) refl e (cut-join s))
    where
      go : (b : Bool) → (x =? c) ≡ b → (b or has c s) ≡ true → (has c s ≡ true → before c s ++ (c ∷ after c s) ≡ s)
          → (if b then [] else (x ∷ before c s)) ++ (c ∷ (if b then s else after c s)) ≡ x ∷ s
      go true q h more = ap (λ (y : ℕ). y ∷ s) (sym (eqb-true x c q))
      go false q h more = ap (λ (l : List ℕ). x ∷ l) (more h)

  after_none : (s : List ℕ) → has c s ≡ false → after c s ≡ []
  unfolding has after
  after_none [] e = refl
  after_none (x ∷ s) e = let f = or_no (x =? c) (has c s) e in after-cons c x s ∙ if_no _ _ _ f.0 ∙ after_none s f.1

-- the words of a text, joined by spaces, are the text
join-words : (r : List ℕ) → spaced (words r) ≡ space ∷ r
unfolding split
join-words [] = refl
join-words (x ∷ r) = go (x =? space) refl (split space r) (join-words r)
  where
    go : (b : Bool) → (x =? space) ≡ b → (ws : List (List ℕ)) → spaced ws ≡ space ∷ r → spaced (if b then ([] ∷ ws) else onto_first x ws) ≡ space ∷ (x ∷ r)
    go true q ws h = ap (λ (l : List ℕ). space ∷ l) (h ∙ ap (λ (y : ℕ). y ∷ r) (sym (eqb-true x space q)))
    go false q [] h = let z : 0 ≡ suc (length r) = ap length h in absurd (omega arith)
    go false q (w ∷ ws) h = let k : w ++ spaced ws ≡ r = cc in ap (λ (l : List ℕ). space ∷ (x ∷ l)) k

word-again : (w : List ℕ) → has equals w ≡ true → word_of (token_of w) ≡ w
word-again w e = cut-join equals w e

words-again : (ws : List (List ℕ)) → every (has equals) ws ≡ true → map word_of (map token_of ws) ≡ ws
words-again [] e = refl
words-again (w ∷ ws) e = rw (word-again w (and_left (has equals w) _ e), words-again ws (and_right (has equals w) _ e))

-- ---- a line whose frame is good, by its tokens

module _ (s : List ℕ) (f : framed s ≡ true) where
  verb : verb_word s ≡ ihave
  unfolding framed
  verb = same-eq (verb_word s) ihave (and_left (same (verb_word s) ihave) _ f)

  id-hex : is_hex 7 (id_word s) ≡ true
  unfolding framed
  id-hex = and_left (is_hex 7 (id_word s)) _ (and_right (same (verb_word s) ihave) _ f)

  keys-ruled : keyed (rest_of s) ≡ true
  unfolding framed
  keys-ruled = and_right (is_hex 7 (id_word s)) _ (and_right (same (verb_word s) ihave) _ f)

  assigned : every (has equals) (words (rest_of s)) ≡ true
  unfolding keyed
  assigned = and_left (every (has equals) (words (rest_of s))) _ keys-ruled

  pub keys-differ : all_differ (keys (tokens (rest_of s))) ≡ true
  unfolding keyed
  keys-differ = and_left (all_differ (keys (tokens (rest_of s)))) _ (and_right (every (has equals) (words (rest_of s))) _ keys-ruled)

  no-rest : rest_of s ≡ [] → false ≡ true
  unfolding split has
  no-rest q = ap (λ (r : List ℕ). every (has equals) (words r)) (sym q) ∙ assigned

  second-space : has space (after space s) ≡ true
  second-space = go (has space (after space s)) refl
    where
      go : (b : Bool) → has space (after space s) ≡ b → b ≡ true
      go true e = refl
      go false e = no-rest (after_none space (after space s) e)

  no-id : after space s ≡ [] → false ≡ true
  unfolding has
  no-id q = ap (has space) (sym q) ∙ second-space

  first-space : has space s ≡ true
  first-space = go (has space s) refl
    where
      go : (b : Bool) → has space s ≡ b → b ≡ true
      go true e = refl
      go false e = no-id (after_none space s e)

  pub line-joined : s ≡ ihave ++ spaced (id_word s ∷ map word_of (tokens (rest_of s)))
  line-joined =
      sym (cut-join space s first-space)
      ∙ ap (λ (l : List ℕ). l ++ (space ∷ after space s)) verb
      ∙ ap (λ (l : List ℕ). ihave ++ (space ∷ l)) (sym (cut-join space (after space s) second-space) ∙ ap (λ (l : List ℕ). id_word s ++ l) (sym (join-words (rest_of s)) ∙ ap spaced (sym (words-again (words (rest_of s)) assigned))))

-- ---- tokens with different keys: each is found by its key

module _ (ts : List Token) where
  abbrev look : List ℕ → Token
  look k = token k (value k ts)

  Each : List Token → Type 0
  Each [] = Unit
  Each (u ∷ us) = (value u.key ts ≡ u.value) × Each us

  each-look : (us : List Token) → Each us → map look (keys us) ≡ us
  unfolding Each
  each-look [] e = refl
  each-look (u ∷ us) e = rw (e.0, each-look us e.1)

  each-other : (us : List Token) → Each us → Each (others us)
  unfolding Each others
  each-other [] e = e
  each-other (u ∷ us) e = go (reserved u.key) (each-other us e.1)
    where
      go : (b : Bool) → Each (others us) → Each (if b then others us else (u ∷ others us))
      go true h = h
      go false h = (e.0, h)

  -- a key is not among those before it
  found-there : (k : List ℕ) (pre : List Token) (u : Token) (us : List Token) → same k u.key ≡ true → some (same k) (keys (pre ++ (u ∷ us))) ≡ true
  found-there k [] u us e = rw e
  found-there k (p ∷ pre) u us e = go (same k p.key) (found-there k pre u us e)
    where
      go : (b : Bool) → some (same k) (keys (pre ++ (u ∷ us))) ≡ true → b or some (same k) (keys (pre ++ (u ∷ us))) ≡ true
      go true h = refl
      go false h = h

  value_there : (pre : List Token) (u : Token) (us : List Token) → all_differ (keys (pre ++ (u ∷ us))) ≡ true → value u.key (pre ++ (u ∷ us)) ≡ u.value
  unfolding value all_differ
  value_there [] u us d = if_yes _ _ _ (same_refl u.key)
  value_there (p ∷ pre) u us d = go (same u.key p.key) refl (value_there pre u us (and_right (no (some (same p.key) (keys (pre ++ (u ∷ us))))) (all_differ (keys (pre ++ (u ∷ us)))) d))
    where
      go : (b : Bool) → same u.key p.key ≡ b → value u.key (pre ++ (u ∷ us)) ≡ u.value → (if b then p.value else value u.key (pre ++ (u ∷ us))) ≡ u.value
      go false q h = h
      go true q h =
          true-not-false (some (same p.key) (keys (pre ++ (u ∷ us))))
          (found-there p.key pre u us (ap (λ (k : List ℕ). same p.key k) (same-eq u.key p.key q) ∙ same_refl p.key))
          (not-no (some (same p.key) (keys (pre ++ (u ∷ us)))) (and_left (no (some (same p.key) (keys (pre ++ (u ∷ us))))) (all_differ (keys (pre ++ (u ∷ us)))) d))

  each_from : (pre us : List Token) → ts ≡ pre ++ us → all_differ (keys ts) ≡ true → Each us
  unfolding Each
  each_from pre [] e d = tt
  each_from pre (u ∷ us) e d =
      (ap (value u.key) e ∙ value_there pre u us (ap (λ (l : List Token). all_differ (keys l)) (sym e) ∙ d), each_from (pre ++ (u ∷ [])) us (e ∙ sym (append_assoc pre (u ∷ []) us)) d)

  pub looked-up : all_differ (keys ts) ≡ true → map look (keys ts) ≡ ts
  looked-up d = each-look ts (each_from [] ts refl d)

  pub others-looked-up : all_differ (keys ts) ≡ true → map look (keys (others ts)) ≡ others ts
  others-looked-up d = each-look (others ts) (each-other ts (each_from [] ts refl d))

  -- the keys that are there, looked up, against the writer's choices
  chosen-next : (c : Choice) (cs : List Choice) (k : List ℕ) (ks : List (List ℕ)) → c.key ≡ k → c.text ≡ given k ts
      → map look (present_among ts ks) ≡ chosen cs → map look (present_among ts (k ∷ ks)) ≡ chosen (c ∷ cs)
  unfolding chosen
  chosen-next c cs k ks is_key is-text rest = go (present k ts) ∙ sym (λ i. option_to_list (option_map (token (is_key i)) (is-text i)) ++ chosen cs)
    where
      go : (b : Bool) → map look (if b then (k ∷ present_among ts ks) else present_among ts ks) ≡ option_to_list (option_map (token k) (if b then Some (value k ts) else None)) ++ chosen cs
      go true = ap (λ (l : List Token). look k ∷ l) rest
      go false = rest

  abbrev Matches : List Choice → List (List ℕ) → Type 0
  Matches [] [] = Unit
  Matches [] (k ∷ ks) = ⊥
  Matches (c ∷ cs) [] = ⊥
  Matches (c ∷ cs) (k ∷ ks) = ((c.key ≡ k) × (c.text ≡ given k ts)) × Matches cs ks

  pub chosen-all : (cs : List Choice) (ks : List (List ℕ)) → Matches cs ks → map look (present_among ts ks) ≡ chosen cs
  unfolding chosen
  chosen-all [] [] e = refl
  chosen-all [] (k ∷ ks) e = absurd e
  chosen-all (c ∷ cs) [] e = absurd e
  chosen-all (c ∷ cs) (k ∷ ks) e = chosen-next c cs k ks e.0.0 e.0.1 (chosen-all cs ks e.1)

  -- a value that was read, written again: of the key k itself, or of one that comes with it
  again : {A : Type 0} (f : A → List ℕ) (g : List ℕ → A) (j k : List ℕ) → present j ts ≡ present k ts → (present k ts ≡ true → f (g (value j ts)) ≡ value k ts)
      → option_map f (option_map g (given j ts)) ≡ given k ts
  again f g j k e h = ap (λ (b : Bool). option_map f (option_map g (if b then Some (value j ts) else None))) e ∙ go (present k ts) refl
    where
      go : (b : Bool) → present k ts ≡ b → option_map f (option_map g (if b then Some (value j ts) else None)) ≡ (if b then Some (value k ts) else None)
      go true q = ap Some (h q)
      go false q = refl

  -- the rule of what was read
  ruled-given : {A : Type 0} (P : A → Bool) (g : List ℕ → A) (k : List ℕ) → if_some P (option_map g (given k ts)) ≡ true → present k ts ≡ true → P (g (value k ts)) ≡ true
  ruled-given P g k e q = ap (λ (b : Bool). if_some P (option_map g (if b then Some (value k ts) else None))) (sym q) ∙ e

  pub present-by : (p : List ℕ → Bool) (k : List ℕ) → p [] ≡ false → p (value k ts) ≡ true → present k ts ≡ true
  present-by p k none e = go (present k ts) refl
    where
      go : (b : Bool) → present k ts ≡ b → b ≡ true
      go true g = refl
      go false g = sym none ∙ ap p (sym (value-missing k ts g)) ∙ e

some_right : (p : List ℕ → Bool) (a b : List (List ℕ)) → some p b ≡ true → some p (a ++ b) ≡ true
some_right p [] b e = e
some_right p (x ∷ a) b e = go (p x) (some_right p a b e)
  where
    go : (t : Bool) → some p (a ++ b) ≡ true → t or some p (a ++ b) ≡ true
    go true h = refl
    go false h = h

-- ---- a text that keeps a rule was not too long for its array

fitted-by : (p : List ℕ → Bool) (n : ℕ) (v : List ℕ) → p [] ≡ false → p (fitted n v) ≡ true → fitted n v ≡ v
unfolding fitted
fitted-by p n v none e = go (length v ≤? n) e
  where
    go : (b : Bool) → p (if b then v else []) ≡ true → (if b then v else []) ≡ v
    go true f = refl
    go false f = true-not-false (p []) f none

call-whole : (v : List ℕ) → call_in (call_text v) ≡ true → call_bytes (call_text v) ≡ v
unfolding call_in callsign base_length run
call-whole v e = held-text 12 v ∙ fitted-by callsign 12 v refl (ap callsign (sym (held-text 12 v)) ∙ and_right (length (fitted 12 v) ≤? 12) _ e)

address-whole : (v : List ℕ) → address_in (address_text v) ≡ true → address_bytes (address_text v) ≡ v
unfolding address_in destination run
address-whole v e = held-text 45 v ∙ fitted-by destination 45 v refl (ap destination (sym (held-text 45 v)) ∙ and_right (length (fitted 45 v) ≤? 45) _ e)

stream-whole : (v : List ℕ) → stream_in (stream_text v) ≡ true → stream_bytes (stream_text v) ≡ v
unfolding stream_in stream_id id_text
stream-whole v e = held-text 255 v ∙ fitted-by stream_id 255 v refl (ap stream_id (sym (held-text 255 v)) ∙ and_right (length (fitted 255 v) ≤? 255) _ e)

header-whole : (t : Token) → header (header_of t) ≡ true → short_value t ≡ true → header_token (header_of t) ≡ t
unfolding key_of value_of header_key id_text fitted
header-whole t e f =
    let k = held-text 32 t.key in
    let n = fitted-by header_key 32 t.key refl (ap header_key (sym k) ∙ (good-header (header_of t) e).good-key) in
    let v = held-text 128 t.value in
    rw (k ∙ n, v ∙ if_yes _ _ _ f)

headers-whole : (os : List Token) → every header (map header_of os) ≡ true → every short_value os ≡ true → map header_token (map header_of os) ≡ os
headers-whole [] e f = refl
headers-whole (t ∷ os) e f =
    rw (header-whole t (and_left (header (header_of t)) _ e) (and_left (short_value t) _ f), headers-whole os (and_right (header (header_of t)) _ e) (and_right (short_value t) _ f))

part-again : (v : List ℕ) → is_part v ≡ true → decimal (number (before slash v)) ++ (slash ∷ decimal (number (after slash v))) ≡ v
unfolding is_part
part-again v e =
    let f = and_right (has slash v) (is_number 65535 (before slash v) and is_number 65535 (after slash v)) e in
    let a = and_left (is_number 65535 (before slash v)) (is_number 65535 (after slash v)) f in
    let b = and_right (is_number 65535 (before slash v)) (is_number 65535 (after slash v)) f in
    rw (number-forth (before slash v) (and_left (is_decimal (before slash v)) _ a), number-forth (after slash v) (and_left (is_decimal (after slash v)) _ b))
    (cut-join slash v (and_left (has slash v) (is_number 65535 (before slash v) and is_number 65535 (after slash v)) e))

-- ---- the line again

module _ (s : List ℕ) (ok : refusal_of s ≡ 0) (ordered : InOrder (tokens (rest_of s))) where
  abbrev ts : List Token
  ts = tokens (rest_of s)

  abbrev m : Line
  m = line_of s

  abbrev hexed : ℕ
  hexed = hex_value (id_word s)

  k : Kept s
  k = kept s ok

  rule : Rules (fields_of hexed ts)
  rule = rules-of (fields_of hexed ts) k.valid

  decimals : (limit : ℕ) (key : List ℕ) → is_number limit (value key ts) ≡ true → decimal (number (value key ts)) ≡ value key ts
  decimals limit key e = number-forth (value key ts) (and_left (is_decimal (value key ts)) _ e)

  len-good : is_number 2147483647 (value key_len ts) ≡ true
  unfolding payload_good
  len-good = and_left (is_number 2147483647 (value key_len ts)) _ k.payload

  fmt-p : same (value key_fmt ts) 'p' ≡ true
  unfolding payload_good
  fmt-p = go (same (value key_fmt ts) 'p') (and_left (same (value key_fmt ts) 'p' or deflated ts) _ (and_left (format_rule (same (value key_fmt ts) 'p') (deflated ts) (present key_clen ts)) _ (and_right (is_number 2147483647 (value key_len ts)) _ k.payload)))
    where
      go : (b : Bool) → b or deflated ts ≡ true → b ≡ true
      go true e = refl
      go false e = true-not-false (deflated ts) e k.raw

  s-rule : present key_s ts ≡ true → is_signed (value key_s ts) ≡ true
  unfolding singles_good
  s-rule = when-set (present key_s ts) (is_signed (value key_s ts)) (and_left (optional key_s is_signed ts) _ k.singles)

  ttl-good : present key_ttl ts ≡ true → is_number 2147483647 (value key_ttl ts) ≡ true
  unfolding singles_good
  ttl-good =
      when-set (present key_ttl ts) (is_number 2147483647 (value key_ttl ts))
      (and_left (optional key_ttl (is_number 2147483647) ts) _ (and_right (optional key_s is_signed ts) _ k.singles))

  chk-good : present key_chk ts ≡ true → is_hex 4 (value key_chk ts) ≡ true
  unfolding singles_good
  chk-good =
      when-set (present key_chk ts) (is_hex 4 (value key_chk ts))
      (and_right (optional key_ttl (is_number 2147483647) ts) _ (and_right (optional key_s is_signed ts) _ k.singles))

  mid-good : present key_mid ts ≡ true → is_hex 7 (value key_mid ts) ≡ true
  unfolding fragment_good
  mid-good = when-set (present key_mid ts) (is_hex 7 (value key_mid ts)) (and_left (optional key_mid (is_hex 7) ts) _ (and_right (alike (present key_mid ts) (present key_frag ts)) _ k.fragment))

  frag-good : present key_frag ts ≡ true → is_part (value key_frag ts) ≡ true
  unfolding fragment_good
  frag-good = when-set (present key_frag ts) (is_part (value key_frag ts)) (and_right (optional key_mid (is_hex 7) ts) _ (and_right (alike (present key_mid ts) (present key_frag ts)) _ k.fragment))

  numbers : optional key_sn (is_number 4294967295) ts and optional key_gt (is_number 4294967295) ts ≡ true
  unfolding stream_good
  numbers = and_right (all_or_none (present key_sid ts) (present key_sn ts) (present key_gt ts)) _ k.stream

  sn-good : present key_sn ts ≡ true → is_number 4294967295 (value key_sn ts) ≡ true
  sn-good = when-set (present key_sn ts) (is_number 4294967295 (value key_sn ts)) (and_left (optional key_sn (is_number 4294967295) ts) _ numbers)

  gt-good : present key_gt ts ≡ true → is_number 4294967295 (value key_gt ts) ≡ true
  gt-good = when-set (present key_gt ts) (is_number 4294967295 (value key_gt ts)) (and_right (optional key_sn (is_number 4294967295) ts) _ numbers)

  choices : map (look ts) (present_among ts first_keys) ≡ chosen (choices_of m)
  unfolding choices_of line_of fields_of
  choices =
      let mid = λ (v : List ℕ). fragment_at v (value key_frag ts) in
      let sid = λ (v : List ℕ). stream_at v (value key_sn ts) (value key_gt ts) in
      let len-there = if_yes _ _ _ (present-by ts (is_number 2147483647) key_len refl len-good) in
      let fmt-there = if_yes _ _ _ (present-by ts (λ v. same v 'p') key_fmt refl fmt-p) in
      let sid-good = ruled-given ts rules.stream_good sid key_sid rule.stream-rule in
      chosen-all ts (choices_of m) first_keys (
        (refl, ap Some (decimals 2147483647 key_len len-good) ∙ sym len-there),
        (
          (refl, ap Some (sym (same-eq (value key_fmt ts) 'p' fmt-p)) ∙ sym fmt-there),
          (
            (refl, again ts signed_decimal signed key_s key_s refl (λ g. signed-forth (value key_s ts) (s-rule g))),
            (
              (refl, again ts decimal number key_ttl key_ttl refl (λ g. decimals 2147483647 key_ttl (ttl-good g))),
              (
                (refl, again ts call_bytes call_text key_src key_src refl (λ g. call-whole (value key_src ts) (ruled-given ts call_in call_text key_src rule.src-rule g))),
                (
                  (refl, again ts mid_text mid key_mid key_mid refl (λ g. hex-forth 7 (value key_mid ts) (mid-good g))),
                  (
                    (refl, again ts part_text mid key_mid key_frag (mid-frag s ok) (λ g. part-again (value key_frag ts) (frag-good g))),
                    (
                      (refl, again ts sid_text sid key_sid key_sid refl (λ g. stream-whole (value key_sid ts) (sid-good g))),
                      (
                        (refl, again ts sn_text sid key_sid key_sn (sid-sn s ok) (λ g. decimals 4294967295 key_sn (sn-good g))),
                        (
                          (refl, again ts gt_text sid key_sid key_gt (sid-gt s ok) (λ g. decimals 4294967295 key_gt (gt-good g))),
                          tt,
                        ),
                      ),
                    ),
                  ),
                ),
              ),
            ),
          ),
        ),
      )

  header-tokens : map (look ts) (keys (others ts)) ≡ header_tokens m.fields.headers
  unfolding line_of fields_of headers_of headers_fit
  header-tokens =
      let os = others ts in
      let front-is : take (length os) (map header_of os ++ drop (length (map header_of os)) (replicate 8 (header_text [] []))) ≡ map header_of os = take_at (map header_of os) _ (length os) (length-map os header_of) in
      others-looked-up ts (keys-differ s k.frame)
      ∙ sym (ap (map header_token) front-is ∙ headers-whole os (ap (every header) (sym front-is) ∙ each (headers_of os) (items-eight s ok) rule.headers-rule) (and_right (length os ≤? 8) _ k.fit))

  dst-is : look ts key_dst ≡ dst_token m
  unfolding line_of fields_of
  dst-is = sym (ap (token key_dst) (address-whole (value key_dst ts) rule.dst-rule))

  tokens-are : ts ≡ tokens_of m ++ (look ts key_chk ∷ [])
  unfolding tokens_of
  tokens-are =
      let hs = header_tokens m.fields.headers in
      sym (looked-up ts (keys-differ s k.frame))
      ∙ ap (map (look ts)) ordered
      ∙ map-append (look ts) (present_among ts first_keys) (keys (others ts) ++ (key_dst ∷ key_chk ∷ []))
      ∙ ap (λ (l : List Token). map (look ts) (present_among ts first_keys) ++ l) (map-append (look ts) (keys (others ts)) (key_dst ∷ key_chk ∷ []))
      ∙ rw (choices, header-tokens, dst-is)
      (sym (append_assoc (chosen (choices_of m)) (hs ++ (dst_token m ∷ [])) (look ts key_chk ∷ [])
      ∙ ap (λ (l : List Token). chosen (choices_of m) ++ l) (append_assoc hs (dst_token m ∷ []) (look ts key_chk ∷ []))))

  chk-there : present key_chk ts ≡ true
  unfolding present
  chk-there =
      ap (some (same key_chk)) ordered
      ∙ some_right (same key_chk) (present_among ts first_keys) (keys (others ts) ++ (key_dst ∷ key_chk ∷ [])) (some_right (same key_chk) (keys (others ts)) (key_dst ∷ key_chk ∷ []) refl)

  abbrev digits : List ℕ
  digits = value key_chk ts

  line-is : s ≡ body_of m ++ spaced (word_of (token key_chk digits) ∷ [])
  unfolding line_of fields_of
  line-is =
      line-joined s k.frame
      ∙ ap (λ (w : List ℕ). ihave ++ spaced (w ∷ map word_of ts)) (sym (hex-forth 7 (id_word s) (id-hex s k.frame)))
      ∙ ap (λ (l : List Token). ihave ++ spaced (hex_digits 7 hexed ∷ map word_of l)) tokens-are
      ∙ sym (body-print m (token key_chk digits))

  covered : take (length s - 9) s ≡ body_of m
  covered =
      let d = eqb-true (length digits) 4 (and_left (length digits =? 4) _ (chk-good chk-there)) in
      let n : length (spaced (word_of (token key_chk digits) ∷ [])) ≡ 9 = ap (λ (l : List ℕ). length (space ∷ (key_chk ++ (equals ∷ l)))) (append-nil digits) ∙ omega arith in
      let a = ap length line-is ∙ length-append (body_of m) (spaced (word_of (token key_chk digits) ∷ [])) in
      let l : length (body_of m) ≡ length s - 9 = omega arith in
      ap (take (length s - 9)) line-is ∙ take_at (body_of m) (spaced (word_of (token key_chk digits) ∷ [])) (length s - 9) l

  chk-is : chk_token (body_of m) ≡ token key_chk digits
  unfolding chk_right
  chk-is =
      let c = eqb-true (crc16 (take (length s - 9) s)) (hex_value digits) (sym (if_yes _ _ _ chk-there) ∙ k.right) in
      ap (λ (n : ℕ). token key_chk (hex_digits 4 n)) (ap crc16 (sym covered) ∙ c) ∙ ap (token key_chk) (hex-forth 4 digits (chk-good chk-there))

  pub printed-again : print_of m ≡ s
  unfolding print_of
  printed-again = ap (λ (t : Token). body_of m ++ spaced (word_of t ∷ [])) chk-is ∙ sym line-is
