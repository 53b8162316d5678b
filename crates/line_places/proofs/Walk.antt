-- The pass over the words: what was kept of those behind, and the words from a place on, decide.
use Rattle.std.specs.Prelude.{Option, Some, None, if◌then◌else◌}
use Rattle.std.specs.Option.{is_some}
use Prim.Native.Nat.{ℕ, zero, suc, ◌+◌, ◌<◌}
use mathlib.Core.Path.{◌≡◌, refl, ap, sym, ◌∙◌}
use mathlib.Core.Bool.{Bool, true, false}
use mathlib.Core.List.{List, [], ◌∷◌, map}
use native.Mathlib.Omega.{arith}
use lib.ListN.{length, get_or, set, replicate, length-set, length-map, length-replicate, get_or-replicate, get_or-eq_default}
use lib.Seq.{get_or-set_same, get_or-set_other, ext_get_or}
use borrow.Author.Tests.{ltb-true, ltb-false, eqb-true, eqb-false}
use Rattle.octets.specs.Words.{◌and◌, ◌or◌, no, ◌=?◌, ◌<?◌, every, some}
use Rattle.octets.specs.Bytes.{same}
use Rattle.octets.proofs.Lists.{same-eq, same_refl}
use Rattle.octets.proofs.Tests.{if_yes, if_no, and_both, and-next, and-true, and-not-left, and-not-right, no_true, no_false, true-not-false}
use Rattle.names.specs.Reserved.{reserved, reserved_keys, key_place, key_chk}
use Rattle.names.proofs.Reserved.{reserved-place, key-at, place-back, counts}
use Rattle.headers.specs.Keys.{all_differ}
use Rattle.headers.specs.declared.Headers.{Headers}
use Rattle.envelope.specs.Texts.{no_headers, with_header}
use Rattle.tokens.specs.Cuts.{has, before, after}
use Rattle.tokens.specs.Tokens.{token_of, words, tokens, keys, others, none, last_only, equals}
use Rattle.line_places.specs.Headers.{short_value, header_of, headers_fit, headers_of}
use Rattle.line_places.specs.Places.{no_place, place_from, reserved_among, place_at, places_good, places_of}
use Rattle.line_places.specs.Steps.{Gathered, fitting, unfit, push_of, gather, gathered_of}
use Rattle.line_places.specs.declared.Place.{Place}
use Rattle.line_places.proofs.Gathered.{gather-stays, all-gathered}

abbrev key_at : ℕ → List ℕ
key_at i = get_or reserved_keys i []

abbrev keys_in : List (List ℕ) → List (List ℕ)
keys_in ws = keys (map token_of ws)

-- the slot of a key was not taken yet; that of every key, and no key comes again
unfoldable pub free : List (Option Place) → List ℕ → Bool
free slots k = no (is_some (get_or slots (key_place k) no_place))

abbrev fresh : List (Option Place) → List (List ℕ) → Bool
fresh slots ks = every (free slots) ks and all_differ ks

-- once `chk` was seen, nothing may follow
abbrev last_in : Bool → List (List ℕ) → Bool
last_in seen ks = if seen then none ks else last_only key_chk ks

-- what was found, else what is still to be found
abbrev found : Option Place → Option Place → Option Place
found p q = if (is_some p) then p else q

-- of all words: what the slots and the headers have, and the words ws, of which the first begins at `at`, decide every rule
pub record Walked (all : List (List ℕ)) (slots : List (Option Place)) (h : Headers) (at : ℕ) (ws : List (List ℕ)) : Type 0 where
  pub long : length slots ≡ 13
  pub slot : (i : ℕ) → i < 13 → place_from 0 all (key_at i) ≡ found (get_or slots i no_place) (place_from at ws (key_at i))
  pub assigned : every (has equals) all ≡ every (has equals) ws
  pub once : all_differ (reserved_among (keys_in all)) ≡ fresh slots (reserved_among (keys_in ws))
  pub last : last_only key_chk (keys_in all) ≡ last_in (is_some (get_or slots 5 no_place)) (keys_in ws)
  pub heads : gathered_of (map token_of all) ≡ gather (fitting h) (map token_of ws)

-- ---- the start

all-free : (ks : List (List ℕ)) → every (free (replicate 13 no_place)) ks ≡ true
unfolding free
all-free [] = refl
all-free (k ∷ ks) = and_both (free (replicate 13 no_place) k) _ (no_false _ (go (key_place k <? 13) refl)) (all-free ks)
  where
    go : (b : Bool) → (key_place k <? 13) ≡ b → (is_some (get_or (replicate 13 no_place) (key_place k) no_place)) ≡ false
    go true e = ap (λ (p : Option Place). (is_some p)) (get_or-replicate 13 (key_place k) no_place no_place (ltb-true (key_place k) 13 e))
    go false e = ap (λ (p : Option Place). (is_some p)) (get_or-eq_default (replicate 13 no_place) no_place {n = key_place k} (omega (arith, length-replicate 13 no_place, ltb-false (key_place k) 13 e)))

pub walk_start : (all : List (List ℕ)) (h : Headers) → h ≡ no_headers → Walked all (replicate 13 no_place) h 0 all
walk_start all h is-h = rw is-h (record {
  long = length-replicate 13 no_place;
  slot = λ i l. ap (λ (p : Option Place). found p (place_from 0 all (key_at i))) (sym (get_or-replicate 13 i no_place no_place l));
  assigned = refl;
  once = ap (λ (b : Bool). b and all_differ (reserved_among (keys_in all))) (sym (all-free (reserved_among (keys_in all))));
  last = refl;
  heads = sym (all-gathered (map token_of all));
})

-- ---- a word more

swap : (a b c d : Bool) → (a and no b) and (c and no d) ≡ (a and c) and no (b or d)
swap false b c d = refl
swap true false c d = refl
swap true true false d = refl
swap true true true d = refl

regroup : (a b c : Bool) → (true and a) and (b and c) ≡ (a and b) and c
regroup true b c = refl
regroup false b c = refl

-- a text with nothing behind `chk`
none_last : (ks : List (List ℕ)) → none ks and last_only key_chk ks ≡ none ks
unfolding last_only
none_last [] = refl
none_last (k ∷ ks) = refl

unfit-told : (b : Bool) (h : Headers) → (if b then fitting h else unfit) ≡ unfit → b ≡ false
unfit-told true h e = ap (λ (x : Gathered). x.fit) e
unfit-told false h e = refl

fit-told : (b : Bool) (g h : Headers) → (if b then fitting g else unfit) ≡ fitting h → (b ≡ true) × (g ≡ h)
fit-told true g h e = (refl, ap (λ (x : Gathered). x.headers) e)
fit-told false g h e = true-not-false false (ap (λ (x : Gathered). x.fit) e) refl

-- the key at a place is no other key
at-differs : (i : ℕ) (k : List ℕ) → i < 13 → (key_place k ≡ i → ⊥) → same (key_at i) k ≡ false
at-differs i k l d = go (same (key_at i) k) refl
  where
    go : (b : Bool) → same (key_at i) k ≡ b → b ≡ false
    go false e = refl
    go true e = absurd (d (ap key_place (sym (same-eq (key_at i) k e)) ∙ place-back i l))

module _ (all : List (List ℕ)) (slots : List (Option Place)) (h : Headers) (at : ℕ) (w : List ℕ) (ws : List (List ℕ)) (r : Walked all slots h at (w ∷ ws)) where
  abbrev key : List ℕ
  key = before equals w

  abbrev next : ℕ
  next = at + length w + 1

  -- the rules that a word breaks
  pub bare-word : has equals w ≡ false → every (has equals) all ≡ false
  bare-word e = r.assigned ∙ and-not-left _ _ e

  pub chk-before : (is_some (get_or slots 5 no_place)) ≡ true → last_only key_chk (keys_in all) ≡ false
  chk-before e = r.last ∙ if_yes _ _ _ e

  pub key-again : reserved key ≡ true → (is_some (get_or slots (key_place key) no_place)) ≡ true → all_differ (reserved_among (keys_in all)) ≡ false
  unfolding reserved_among free
  key-again e f = r.once ∙ rw e (and-not-left _ _ (and-not-left _ _ (no_true _ f)))

  pub header-unfit : reserved key ≡ false → h.count <? 8 and short_value (token_of w) ≡ false → headers_fit (map token_of all) ≡ false
  unfolding gather push_of gathered_of
  header-unfit e f =
      let g = r.heads ∙ ap (λ (x : Gathered). gather x (map token_of ws)) (if_no _ _ _ e ∙ if_no _ _ _ f) ∙ gather-stays unfit (map token_of ws) refl in
      unfit-told (headers_fit (map token_of all)) (headers_of (others (map token_of all))) g

  -- what stays as it was, where the word's key is not the one asked for
  place-past : (i : ℕ) → i < 13 → (key_place key ≡ i → ⊥) → place_from at (w ∷ ws) (key_at i) ≡ place_from next ws (key_at i)
  unfolding place_from
  place-past i l d = if_no _ _ _ (at-differs i key l d)

  last-past : (key_place key ≡ 5 → ⊥) → last_only key_chk (keys_in (w ∷ ws)) ≡ last_only key_chk (keys_in ws)
  unfolding last_only reserved_keys
  last-past d = rw (at-differs 5 key (omega arith) d)

  module _ (a : has equals w ≡ true) (c : (is_some (get_or slots 5 no_place)) ≡ false) where
    assigned-past : every (has equals) all ≡ every (has equals) ws
    assigned-past = r.assigned ∙ and-next _ _ a

    -- a header more
    pub walk-header : reserved key ≡ false → h.count <? 8 and short_value (token_of w) ≡ true → (g : Headers) → g ≡ with_header h (header_of (token_of w)) → Walked all slots g next ws
    unfolding reserved_among gather push_of
    walk-header e f g is-g =
        let past = ltb-false (key_place key) 13 (sym (reserved-place key) ∙ e) in
        record {
          long = r.long;
          slot = λ i l. r.slot i l ∙ ap (found (get_or slots i no_place)) (place-past i l (λ q. omega arith));
          assigned = assigned-past;
          once = r.once ∙ ap (fresh slots) (if_no _ _ _ e);
          last = r.last ∙ rw c (last-past (λ q. omega arith));
          heads = r.heads ∙ ap (λ (x : Gathered). gather x (map token_of ws)) (if_no _ _ _ e ∙ if_yes _ _ _ f ∙ ap fitting (sym is-g));
        }

    -- a reserved key more
    module _ (e : reserved key ≡ true) (f : (is_some (get_or slots (key_place key) no_place)) ≡ false) where
      abbrev here : Option Place
      here = place_at (at + length key + 1) (length (after equals w))

      abbrev more : List (Option Place)
      more = set slots (key_place key) here

      inside : key_place key < 13
      inside = ltb-true (key_place key) 13 (sym (reserved-place key) ∙ e)

      more-here : get_or more (key_place key) no_place ≡ here
      more-here = get_or-set_same slots (key_place key) here no_place (omega (arith, r.long, inside))

      more-other : (i : ℕ) → (key_place key ≡ i → ⊥) → get_or more i no_place ≡ get_or slots i no_place
      more-other i d = get_or-set_other slots (key_place key) i here no_place (λ q. d (sym q))

      more-slot : (i : ℕ) → i < 13 → (b : Bool) → (key_place key =? i) ≡ b → place_from 0 all (key_at i) ≡ found (get_or more i no_place) (place_from next ws (key_at i))
      unfolding place_from
      more-slot i l true q =
          let s = eqb-true (key_place key) i q in
          let k : key_at i ≡ key = ap key_at (sym s) ∙ key-at key inside in
          r.slot i l
          ∙ if_no _ _ _ (ap (λ (j : ℕ). (is_some (get_or slots j no_place))) (sym s) ∙ f)
          ∙ if_yes _ _ _ (ap (λ (x : List ℕ). same x key) k ∙ same_refl key)
          ∙ sym (ap (λ (j : ℕ). found (get_or more j no_place) (place_from next ws (key_at i))) (sym s) ∙ ap (λ (p : Option Place). found p (place_from next ws (key_at i))) more-here)
      more-slot i l false q =
          let d = eqb-false (key_place key) i q in
          r.slot i l ∙ ap (found (get_or slots i no_place)) (place-past i l d) ∙ ap (λ (p : Option Place). found p (place_from next ws (key_at i))) (sym (more-other i d))

      free_more : (x : List ℕ) → free more x ≡ free slots x and no (same key x)
      unfolding free
      free_more x = go (same key x) refl
        where
          go : (b : Bool) → same key x ≡ b → no (is_some (get_or more (key_place x) no_place)) ≡ no (is_some (get_or slots (key_place x) no_place)) and no b
          go true q =
              ap (λ (k : List ℕ). no (is_some (get_or more (key_place k) no_place))) (sym (same-eq key x q))
              ∙ ap (λ (p : Option Place). no (is_some p)) more-here
              ∙ sym (and-not-right (no (is_some (get_or slots (key_place x) no_place))) false refl)
          go false q =
              let d : key_place key ≡ key_place x → ⊥ = λ s. true-not-false (same key x) (ap (same key) (sym (key-at x (rw s at inside)) ∙ ap key_at (sym s) ∙ key-at key inside) ∙ same_refl key) q in
              ap (λ (p : Option Place). no (is_some p)) (more-other (key_place x) d) ∙ sym (and-true (no (is_some (get_or slots (key_place x) no_place))))

      every_more : (ks : List (List ℕ)) → every (free more) ks ≡ every (free slots) ks and no (some (same key) ks)
      every_more [] = refl
      every_more (x ∷ ks) = ap (λ (b : Bool). b and every (free more) ks) (free_more x) ∙ ap (λ (b : Bool). (free slots x and no (same key x)) and b) (every_more ks) ∙ swap (free slots x) (same key x) (every (free slots) ks) (some (same key) ks)

      key-free : free slots key ≡ true
      unfolding free
      key-free = no_false _ f

      once_more : (ks : List (List ℕ)) → fresh slots (key ∷ ks) ≡ fresh more ks
      unfolding all_differ
      once_more ks =
          ap (λ (b : Bool). (b and every (free slots) ks) and (no (some (same key) ks) and all_differ ks)) key-free
          ∙ regroup (every (free slots) ks) (no (some (same key) ks)) (all_differ ks)
          ∙ ap (λ (b : Bool). b and all_differ ks) (sym (every_more ks))

      last_more : (b : Bool) → (key_place key =? 5) ≡ b → last_only key_chk (keys_in (w ∷ ws)) ≡ last_in (is_some (get_or more 5 no_place)) (keys_in ws)
      unfolding last_only reserved_keys
      last_more true q =
          let s = eqb-true (key_place key) 5 q in
          let k : key_chk ≡ key = ap key_at (sym s) ∙ key-at key inside in
          ap (λ (x : List ℕ). (no (same x key) or none (keys_in ws)) and last_only key_chk (keys_in ws)) k
          ∙ ap (λ (b : Bool). (no b or none (keys_in ws)) and last_only key_chk (keys_in ws)) (same_refl key)
          ∙ none_last (keys_in ws)
          ∙ sym (if_yes _ _ _ (ap (λ (j : ℕ). (is_some (get_or more j no_place))) (sym s) ∙ ap (λ (p : Option Place). (is_some p)) more-here))
      last_more false q =
          let d = eqb-false (key_place key) 5 q in
          last-past d ∙ sym (if_no _ _ _ (ap (λ (p : Option Place). (is_some p)) (more-other 5 d) ∙ c))

      pub walk-reserved : Walked all more h next ws
      unfolding reserved_among gather push_of
      walk-reserved = record {
        long = length-set slots (key_place key) here ∙ r.long;
        slot = λ i l. more-slot i l (key_place key =? i) refl;
        assigned = assigned-past;
        once = r.once ∙ ap (fresh slots) (if_yes _ _ _ e) ∙ once_more (reserved_among (keys_in ws));
        last = r.last ∙ if_no _ _ _ c ∙ last_more (key_place key =? 5) refl;
        heads = r.heads ∙ ap (λ (x : Gathered). gather x (map token_of ws)) (if_yes _ _ _ e);
      }

-- ---- the end

pub map_at : {A B : Type 0} (f : A → B) (l : List A) (i : ℕ) (d : B) (e : A) → i < length l → get_or (map f l) i d ≡ f (get_or l i e)
map_at f [] i d e h = absurd (omega arith)
map_at f (x ∷ l) zero d e h = refl
map_at f (x ∷ l) (suc i) d e h = map_at f l i d e (omega arith)

-- a slot that nothing is to be found for any more
settled : (p : Option Place) → p ≡ found p no_place
settled None = refl
settled (Some q) = refl

module _ (t : List ℕ) where
  bad : places_good t ≡ false → None ≡ places_of t
  unfolding places_of
  bad e = sym (if_no _ _ _ e)

  pub bad-word : every (has equals) (words t) ≡ false → None ≡ places_of t
  unfolding places_good
  bad-word e = bad (and-not-left _ _ e)

  pub bad-once : all_differ (reserved_among (keys (tokens t))) ≡ false → None ≡ places_of t
  unfolding places_good
  bad-once e = bad (and-not-right (every (has equals) (words t)) _ (and-not-left _ _ e))

  pub bad_last : last_only key_chk (keys (tokens t)) ≡ false → None ≡ places_of t
  unfolding places_good
  bad_last e = bad (and-not-right (every (has equals) (words t)) _ (and-not-right (all_differ (reserved_among (keys (tokens t)))) _ (and-not-left _ _ e)))

  pub bad-headers : headers_fit (tokens t) ≡ false → None ≡ places_of t
  unfolding places_good
  bad-headers e = bad (and-not-right (every (has equals) (words t)) _ (and-not-right (all_differ (reserved_among (keys (tokens t)))) _ (and-not-right (last_only key_chk (keys (tokens t))) _ e)))

  pub walk_end : (slots : List (Option Place)) (h : Headers) (at : ℕ) → Walked (words t) slots h at [] → Some (record { slots = slots; headers = h }) ≡ places_of t
  unfolding places_of places_good place_from reserved_among all_differ last_only gather gathered_of
  walk_end slots h at r =
      let f = fit-told (headers_fit (tokens t)) (headers_of (others (tokens t))) h r.heads in
      let e = and_both _ _ r.assigned (and_both _ _ r.once (and_both _ _ (r.last ∙ nothing (is_some (get_or slots 5 no_place))) f.0)) in
      let s : slots ≡ map (place_from 0 (words t)) reserved_keys = ext_get_or no_place slots (map (place_from 0 (words t)) reserved_keys) (r.long ∙ sym (length-map reserved_keys (place_from 0 (words t)) ∙ counts.1))
      (λ i l. let k : i < 13 = omega (arith, r.long) in settled (get_or slots i no_place) ∙ sym (at_key i k ∙ r.slot i k)) in
      rw (s, sym f.1) (sym (if_yes _ _ _ e))
    where
      nothing : (b : Bool) → (if b then true else true) ≡ true
      nothing true = refl
      nothing false = refl

      at_key : (i : ℕ) → i < 13 → get_or (map (place_from 0 (words t)) reserved_keys) i no_place ≡ place_from 0 (words t) (key_at i)
      at_key i l = map_at (place_from 0 (words t)) reserved_keys i no_place [] (omega (arith, counts.1))
