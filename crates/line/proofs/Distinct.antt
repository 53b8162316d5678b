-- A line is well formed where its head, its words, its groups and its fields are good. That no key stands twice is tested of the reserved keys
-- among the words and of the others among the fields, which hold them as headers.
use Rattle.std.specs.Prelude.{if◌then◌else◌}
use Prim.Native.Nat.{ℕ, ◌≤◌}
use mathlib.Core.Path.{◌≡◌, refl, ap, sym, ◌∙◌}
use mathlib.Core.Bool.{Bool, true, false}
use mathlib.Core.List.{List, [], ◌∷◌, ◌++◌, map}
use native.Mathlib.Omega.{arith}
use lib.ListN.{length, take, drop, replicate, length-map}
use lib.Seq.{take_at}
use Rattle.octets.specs.Words.{◌and◌, ◌or◌, no, ◌≤?◌, every, some}
use Rattle.octets.specs.Bytes.{same}
use Rattle.octets.proofs.Lists.{same-eq}
use Rattle.octets.proofs.Tests.{and_left, and_right, and_both, inside-low, true-not-false}
use Rattle.text.specs.Hex.{is_hex, hex_value}
use Rattle.names.specs.Reserved.{reserved, key_chk}
use Rattle.names.specs.Texts.{id_text, header_key}
use Rattle.headers.specs.Keys.{all_differ, key_of, keys_of}
use Rattle.headers.specs.Rule.{header, headers}
use Rattle.headers.specs.declared.Header.{Header}
use Rattle.envelope.specs.Texts.{fitted, padded, header_text}
use Rattle.envelope.specs.Rules.{envelope, if_some, id_in, ttl_in, call_in}
use Rattle.envelope.specs.Rules as rules
use Rattle.envelope.specs.declared.Envelope.{Envelope}
use Rattle.tokens.specs.Cuts.{has}
use Rattle.tokens.specs.Tokens.{Token, words, tokens, keys, others, last_only, keyed, equals}
use Rattle.line_groups.specs.Rules.{payload_good, singles_good, fragment_good, stream_good}
use Rattle.line_places.specs.Headers.{headers_fit, header_of, headers_of}
use Rattle.line_places.specs.Places.{reserved_among, places_good}
use Rattle.line_fields.specs.Fields.{fields_of, groups_good}
use Rattle.line.specs.Reading.{ihave, verb_word, id_word, rest_of, is_text, framed, values_good, well_formed}

-- ---- keys that differ

same-reserved : (k x : List ℕ) (b : Bool) → same k x ≡ b → (c : Bool) → reserved x ≡ c → reserved k ≡ no c → b ≡ false
same-reserved k x false e c p q = refl
same-reserved k x true e true p q = true-not-false (reserved k) (ap reserved (same-eq k x e) ∙ p) q
same-reserved k x true e false p q = true-not-false (reserved k) q (ap reserved (same-eq k x e) ∙ p)

-- a key comes again among those that are reserved as it is
some-reserved : (k : List ℕ) (ts : List Token) → reserved k ≡ true → some (same k) (keys ts) ≡ some (same k) (reserved_among (keys ts))
unfolding reserved_among
some-reserved k [] e = refl
some-reserved k (t ∷ ts) e = go (reserved t.key) refl (some-reserved k ts e)
  where
    go : (c : Bool) → reserved t.key ≡ c → some (same k) (keys ts) ≡ some (same k) (reserved_among (keys ts))
        → same k t.key or some (same k) (keys ts) ≡ some (same k) (if c then (t.key ∷ reserved_among (keys ts)) else reserved_among (keys ts))
    go true p h = ap (λ (b : Bool). same k t.key or b) h
    go false p h = ap (λ (b : Bool). b or some (same k) (keys ts)) (same-reserved k t.key (same k t.key) refl false p e) ∙ h

some-other : (k : List ℕ) (ts : List Token) → reserved k ≡ false → some (same k) (keys ts) ≡ some (same k) (keys (others ts))
unfolding others
some-other k [] e = refl
some-other k (t ∷ ts) e = go (reserved t.key) refl (some-other k ts e)
  where
    go : (c : Bool) → reserved t.key ≡ c → some (same k) (keys ts) ≡ some (same k) (keys (others ts))
        → same k t.key or some (same k) (keys ts) ≡ some (same k) (keys (if c then others ts else (t ∷ others ts)))
    go false p h = ap (λ (b : Bool). same k t.key or b) h
    go true p h = ap (λ (b : Bool). b or some (same k) (keys ts)) (same-reserved k t.key (same k t.key) refl true p e) ∙ h

turn-left : (n a b : Bool) → n and (a and b) ≡ (n and a) and b
turn-left true a b = refl
turn-left false a b = refl

turn-right : (n a b : Bool) → n and (a and b) ≡ a and (n and b)
turn-right true a b = refl
turn-right false true b = refl
turn-right false false b = refl

pub differ-apart : (ts : List Token) → all_differ (keys ts) ≡ all_differ (reserved_among (keys ts)) and all_differ (keys (others ts))
unfolding all_differ reserved_among others
differ-apart [] = refl
differ-apart (t ∷ ts) = go (reserved t.key) refl (differ-apart ts)
  where
    go : (c : Bool) → reserved t.key ≡ c → all_differ (keys ts) ≡ all_differ (reserved_among (keys ts)) and all_differ (keys (others ts))
        → no (some (same t.key) (keys ts)) and all_differ (keys ts)
        ≡ all_differ (if c then (t.key ∷ reserved_among (keys ts)) else reserved_among (keys ts)) and all_differ (keys (if c then others ts else (t ∷ others ts)))
    go true p h = rw (h, some-reserved t.key ts p) (turn-left (no (some (same t.key) (reserved_among (keys ts)))) (all_differ (reserved_among (keys ts))) (all_differ (keys (others ts))))
    go false p h = rw (h, some-other t.key ts p) (turn-right (no (some (same t.key) (keys (others ts)))) (all_differ (reserved_among (keys ts))) (all_differ (keys (others ts))))

-- ---- the keys of headers are those of the tokens

-- a key that is good was not too long for its array
key-held : (t : Token) → header (header_of t) ≡ true → key_of (header_of t) ≡ t.key
unfolding header header_key id_text key_of padded fitted
key-held t e = go (length t.key ≤? 32) (inside-low 1 32 _ (and_left _ _ (and_left _ _ (and_left _ _ (and_right (length (fitted 128 t.value) ≤? 128) _ (and_right (length (fitted 32 t.key) ≤? 32) _ e))))))
  where
    go : (b : Bool) → 1 ≤ length (take (length (if b then t.key else [])) ((if b then t.key else []) ++ drop (length (if b then t.key else [])) (replicate 32 0)))
        → take (length (if b then t.key else [])) ((if b then t.key else []) ++ drop (length (if b then t.key else [])) (replicate 32 0)) ≡ t.key
    go true l = take_at t.key _ (length t.key) refl
    go false l = absurd (omega arith)

keys-held : (os : List Token) → every header (map header_of os) ≡ true → map key_of (map header_of os) ≡ keys os
keys-held [] e = refl
keys-held (t ∷ os) e = rw (key-held t (and_left (header (header_of t)) _ e)) (ap (λ (l : List (List ℕ)). t.key ∷ l) (keys-held os (and_right (header (header_of t)) _ e)))

pub headers-differ : (os : List Token) → headers (headers_of os) ≡ true → all_differ (keys os) ≡ true
unfolding headers headers_of keys_of
headers-differ os e =
    let n = length-map os header_of in
    let k : take (length os) (map header_of os ++ drop (length (map header_of os)) (replicate 8 (header_text [] []))) ≡ map header_of os = take_at (map header_of os) _ (length os) n in
    let h = and_right (length os ≤? 8) _ e in
    let f : every header (map header_of os) ≡ true = ap (every header) (sym k) ∙ and_left _ _ h in
    ap all_differ (sym (keys-held os f)) ∙ ap (λ (l : List Header). all_differ (map key_of l)) (sym k) ∙ and_right (every header (take (length os) (map header_of os ++ drop (length (map header_of os)) (replicate 8 (header_text [] []))))) _ h

-- ---- all rules together

agree : (a b : Bool) → (a ≡ true → b ≡ true) → (b ≡ true → a ≡ true) → a ≡ b
agree true b f g = sym (f refl)
agree false true f g = g refl
agree false false f g = refl

envelope-headers : (e : Envelope) → envelope e ≡ true → headers e.headers ≡ true
unfolding envelope
envelope-headers e h =
    and_left _ _ (and_right (if_some rules.stream_good e.stream) _ (and_right (if_some rules.fragment_good e.fragment) _
    (and_right (if_some call_in e.src) _ (and_right (if_some ttl_in e.ttl) _ (and_right (id_in e.id) _ h)))))

-- the rules in the definition's order, and in the code's: that the other keys differ follows from the last two
module _ (T W I E R O L P S F M H N : Bool) (apart : H ≡ true → N ≡ true → O ≡ true) where
  abbrev defined : Bool
  defined = T and ((W and (I and (E and ((R and O) and L)))) and ((P and (S and (F and (M and H)))) and N))

  abbrev tested : Bool
  tested = (T and (W and I)) and (((E and (R and (L and H))) and (P and (S and (F and M)))) and N)

  forth : defined ≡ true → tested ≡ true
  forth e =
      let a = and_right T _ e in
      let frame = and_left (W and (I and (E and ((R and O) and L)))) _ a in
      let rest = and_right (W and (I and (E and ((R and O) and L)))) _ a in
      let b = and_right W _ frame in
      let c = and_right I _ b in
      let d = and_right E _ c in
      let groups = and_left (P and (S and (F and (M and H)))) N rest in
      let g = and_right P _ groups in
      let h = and_right S _ g in
      let i = and_right F _ h in
      and_both (T and (W and I)) _ (and_both T _ (and_left T _ e) (and_both W I (and_left W _ frame) (and_left I _ b)))
      (and_both ((E and (R and (L and H))) and (P and (S and (F and M)))) N
      (and_both (E and (R and (L and H))) _
      (and_both E _ (and_left E _ c) (and_both R _ (and_left R O (and_left (R and O) L d)) (and_both L H (and_right (R and O) L d) (and_right M H i))))
      (and_both P _ (and_left P _ groups) (and_both S _ (and_left S _ g) (and_both F M (and_left F _ h) (and_left M H i)))))
      (and_right (P and (S and (F and (M and H)))) N rest))

  back : tested ≡ true → defined ≡ true
  back e =
      let head = and_left (T and (W and I)) _ e in
      let rest = and_right (T and (W and I)) _ e in
      let both = and_left ((E and (R and (L and H))) and (P and (S and (F and M)))) N rest in
      let valid = and_right ((E and (R and (L and H))) and (P and (S and (F and M)))) N rest in
      let places = and_left (E and (R and (L and H))) _ both in
      let groups = and_right (E and (R and (L and H))) _ both in
      let c = and_right E _ places in
      let d = and_right R _ c in
      let g = and_right P _ groups in
      let h = and_right S _ g in
      let fit = and_right L H d in
      and_both T _ (and_left T _ head)
      (and_both (W and (I and (E and ((R and O) and L)))) _
      (and_both W _ (and_left W I (and_right T _ head)) (and_both I _ (and_right W I (and_right T _ head)) (and_both E _ (and_left E _ places)
      (and_both (R and O) L (and_both R O (and_left R _ c) (apart fit valid)) (and_left L H d)))))
      (and_both (P and (S and (F and (M and H)))) N
      (and_both P _ (and_left P _ groups) (and_both S _ (and_left S _ g) (and_both F _ (and_left F M h) (and_both M H (and_right F M h) fit)))) valid))

  agreed : defined ≡ tested
  agreed = agree defined tested forth back

abbrev pub head_good : List ℕ → Bool
head_good s = is_text s and (same (verb_word s) ihave and is_hex 7 (id_word s))

pub well-is : (s : List ℕ) → well_formed s ≡ head_good s and ((places_good (rest_of s) and groups_good (tokens (rest_of s))) and envelope (fields_of (hex_value (id_word s)) (tokens (rest_of s))))
unfolding well_formed framed keyed values_good places_good groups_good fields_of
well-is s =
    let t = rest_of s in
    let ts = tokens t in
    let e = fields_of (hex_value (id_word s)) ts in
    ap (λ (d : Bool). is_text s and ((same (verb_word s) ihave and (is_hex 7 (id_word s) and (every (has equals) (words t) and (d and last_only key_chk (keys ts))))) and (values_good ts and envelope e))) (differ-apart ts)
    ∙ agreed (is_text s) (same (verb_word s) ihave) (is_hex 7 (id_word s)) (every (has equals) (words t)) (all_differ (reserved_among (keys ts))) (all_differ (keys (others ts))) (last_only key_chk (keys ts))
    (payload_good ts) (singles_good ts) (fragment_good ts) (stream_good ts) (headers_fit ts) (envelope e) (λ h n. headers-differ (others ts) (envelope-headers e n))
