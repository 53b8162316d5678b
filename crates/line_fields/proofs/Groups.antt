-- The groups of a line's keys together: the first that is not good decides, and the fields are those that the tokens say.
use Rattle.std.specs.Prelude.{Option, Some, None, if◌then◌else◌}
use Rattle.std.specs.Option.{is_some, option_map}
use Prim.Native.Nat.{ℕ, ◌<◌}
use mathlib.Core.Path.{◌≡◌, refl, ap, sym, ◌∙◌}
use mathlib.Core.Bool.{Bool, true, false}
use mathlib.Core.List.{List, [], map}
use lib.ListN.{get_or}
use native.Mathlib.Omega.{arith}
use Rattle.octets.specs.Words.{◌and◌}
use Rattle.octets.proofs.Tests.{if_yes, if_no, and_both, and-not-left, and-not-right}
use Rattle.text.specs.Decimal.{number, signed}
use Rattle.text.specs.Hex.{hex_value}
use Rattle.names.specs.Reserved.{reserved_keys, key_len, key_fmt, key_s, key_clen, key_dst, key_chk, key_ttl, key_src, key_mid, key_frag, key_sid, key_sn, key_gt}
use Rattle.headers.specs.declared.Headers.{Headers}
use Rattle.envelope.specs.declared.Fragment.{Fragment}
use Rattle.envelope.specs.declared.Stream.{Stream}
use Rattle.envelope.specs.declared.Envelope.{Envelope}
use Rattle.tokens.specs.Tokens.{Token, tokens, words, present, value, given, others}
use Rattle.tokens.proofs.Lookups.{value-missing}
use Rattle.line_values.specs.Values.{text_of}
use Rattle.line_groups.specs.Rules.{deflated, payload_good, singles_good, fragment_good, stream_good}
use Rattle.line_groups.specs.Answers.{len_of, fragment_at, stream_at, payload_by, singles_by, fragment_by, stream_by}
use Rattle.line_groups.specs.declared.Payload.{Payload}
use Rattle.line_groups.specs.declared.Singles.{Singles}
use Rattle.line_places.specs.Headers.{headers_of}
use Rattle.line_places.specs.Places.{place_from, places_good, places_of}
use Rattle.line_places.specs.declared.Place.{Place}
use Rattle.line_places.specs.declared.Places.{Places}
use Rattle.line_places.proofs.Found.{slot-value}
use Rattle.line_fields.specs.Fields.{fields_of, groups_good, good_values, values_of}
use Rattle.line_fields.specs.Steps.{slot_value, gather_of}

-- ---- a choice, told from what was chosen

pub chosen : {A : Type 0} (b : Bool) (a r : A) → (if b then Some a else None) ≡ Some r → (b ≡ true) × (a ≡ r)
chosen true a r e = (refl, cc)
chosen false a r e = cc

pub refused : {A : Type 0} (b : Bool) (a : A) → (if b then Some a else None) ≡ None → b ≡ false
refused true a e = cc
refused false a e = refl

-- ---- a value that may be missing

module _ (k : List ℕ) (ts : List Token) where
  pub given-some : is_some (given k ts) ≡ present k ts
  given-some = go (present k ts)
    where
      go : (b : Bool) → is_some (if b then Some (value k ts) else None) ≡ b
      go true = refl
      go false = refl

  pub given-text : text_of (given k ts) ≡ value k ts
  given-text = go (present k ts) refl
    where
      go : (b : Bool) → present k ts ≡ b → text_of (if b then Some (value k ts) else None) ≡ value k ts
      go true e = refl
      go false e = sym (value-missing k ts e)

module _ (t : List ℕ) where
  abbrev ts : List Token
  ts = tokens t

  -- ---- what each group answers where it is good

  abbrev payload-all : Payload
  payload-all = record { len = len_of ts; deflated = deflated ts }

  abbrev singles-all : Singles
  singles-all = record { salt = option_map signed (given key_s ts); ttl = option_map number (given key_ttl ts); chk = option_map hex_value (given key_chk ts) }

  abbrev fragment-all : Option Fragment
  fragment-all = option_map (λ m. fragment_at m (value key_frag ts)) (given key_mid ts)

  abbrev stream-all : Option Stream
  stream-all = option_map (λ s. stream_at s (value key_sn ts) (value key_gt ts)) (given key_sid ts)

  module _ (slots : List (Option Place)) (e : slots ≡ map (place_from 0 (words t)) reserved_keys) where
    v : (i : ℕ) → i < 13 → (k : List ℕ) → get_or reserved_keys i [] ≡ k → slot_value t slots i ≡ given k ts
    v i l k is_key = slot-value t k slots e i l is_key

    payload-is : payload_by (slot_value t slots 0) (slot_value t slots 1) (slot_value t slots 3) ≡ (if payload_good ts then Some payload-all else None)
    unfolding reserved_keys payload_by payload_good
    payload-is =
        rw (v 0 (omega arith) key_len refl, v 1 (omega arith) key_fmt refl, v 3 (omega arith) key_clen refl)
        (rw (given-text key_len ts, given-text key_fmt ts, given-some key_clen ts, given-text key_clen ts) refl)

    singles-are : singles_by (slot_value t slots 2) (slot_value t slots 6) (slot_value t slots 5) ≡ (if singles_good ts then Some singles-all else None)
    unfolding reserved_keys singles_by singles_good
    singles-are =
        rw (v 2 (omega arith) key_s refl, v 6 (omega arith) key_ttl refl, v 5 (omega arith) key_chk refl)
        (rw (given-some key_s ts, given-text key_s ts, given-some key_ttl ts, given-text key_ttl ts, given-some key_chk ts, given-text key_chk ts) refl)

    fragment-is : fragment_by (slot_value t slots 8) (slot_value t slots 9) ≡ (if fragment_good ts then Some fragment-all else None)
    unfolding reserved_keys fragment_by fragment_good
    fragment-is =
        rw (v 8 (omega arith) key_mid refl, v 9 (omega arith) key_frag refl)
        (rw (given-some key_mid ts, given-text key_mid ts, given-some key_frag ts, given-text key_frag ts) refl)

    stream-is : stream_by (slot_value t slots 10) (slot_value t slots 11) (slot_value t slots 12) ≡ (if stream_good ts then Some stream-all else None)
    unfolding reserved_keys stream_by stream_good
    stream-is =
        rw (v 10 (omega arith) key_sid refl, v 11 (omega arith) key_sn refl, v 12 (omega arith) key_gt refl)
        (rw (given-some key_sid ts, given-some key_sn ts, given-text key_sn ts, given-some key_gt ts, given-text key_gt ts) refl)

    texts : (id : ℕ) (h : Headers) → h ≡ headers_of (others ts) → gather_of id t slots singles-all fragment-all stream-all h ≡ fields_of id ts
    unfolding reserved_keys gather_of fields_of
    texts id h is-h = rw (is-h, v 7 (omega arith) key_src refl, v 4 (omega arith) key_dst refl) (rw (given-text key_dst ts) refl)

  -- ---- all groups

  module _ (id : ℕ) where
    no-values : places_good t and groups_good ts ≡ false → None ≡ values_of id t
    unfolding values_of
    no-values e = sym (if_no _ _ _ e)

    pub values-places : places_of t ≡ None → None ≡ values_of id t
    unfolding places_of
    values-places e = no-values (and-not-left _ _ (refused _ _ e))

    module _ (a : Places) (is-a : places_of t ≡ Some a) where
      abbrev slots : List (Option Place)
      slots = a.slots

      places-told : (places_good t ≡ true) × (record { slots = map (place_from 0 (words t)) reserved_keys; headers = headers_of (others ts) } ≡ a)
      unfolding places_of
      places-told = chosen _ _ _ is-a

      slots-are : slots ≡ map (place_from 0 (words t)) reserved_keys
      slots-are = sym (ap (λ (x : Places). x.slots) places-told.1)

      pub values-payload : payload_by (slot_value t slots 0) (slot_value t slots 1) (slot_value t slots 3) ≡ None → None ≡ values_of id t
      unfolding groups_good
      values-payload e = no-values (and-not-right (places_good t) _ (and-not-left _ _ (refused _ _ (sym (payload-is slots slots-are) ∙ e))))

      module _ (p : Payload) (is-p : payload_by (slot_value t slots 0) (slot_value t slots 1) (slot_value t slots 3) ≡ Some p) where
        p-told : (payload_good ts ≡ true) × (payload-all ≡ p)
        p-told = chosen _ _ _ (sym (payload-is slots slots-are) ∙ is-p)

        pub values-singles : singles_by (slot_value t slots 2) (slot_value t slots 6) (slot_value t slots 5) ≡ None → None ≡ values_of id t
        unfolding groups_good
        values-singles e = no-values (and-not-right (places_good t) _ (and-not-right (payload_good ts) _ (and-not-left _ _ (refused _ _ (sym (singles-are slots slots-are) ∙ e)))))

        module _ (q : Singles) (is-q : singles_by (slot_value t slots 2) (slot_value t slots 6) (slot_value t slots 5) ≡ Some q) where
          q-told : (singles_good ts ≡ true) × (singles-all ≡ q)
          q-told = chosen _ _ _ (sym (singles-are slots slots-are) ∙ is-q)

          pub values-fragment : fragment_by (slot_value t slots 8) (slot_value t slots 9) ≡ None → None ≡ values_of id t
          unfolding groups_good
          values-fragment e =
              no-values (and-not-right (places_good t) _ (and-not-right (payload_good ts) _ (and-not-right (singles_good ts) _ (and-not-left _ _ (refused _ _ (sym (fragment-is slots slots-are) ∙ e))))))

          module _ (f : Option Fragment) (is_f : fragment_by (slot_value t slots 8) (slot_value t slots 9) ≡ Some f) where
            f-told : (fragment_good ts ≡ true) × (fragment-all ≡ f)
            f-told = chosen _ _ _ (sym (fragment-is slots slots-are) ∙ is_f)

            pub values-stream : stream_by (slot_value t slots 10) (slot_value t slots 11) (slot_value t slots 12) ≡ None → None ≡ values_of id t
            unfolding groups_good
            values-stream e =
                no-values (and-not-right (places_good t) _ (and-not-right (payload_good ts) _ (and-not-right (singles_good ts) _ (and-not-right (fragment_good ts) _ (refused _ _ (sym (stream-is slots slots-are) ∙ e))))))

            module _ (m : Option Stream) (is_m : stream_by (slot_value t slots 10) (slot_value t slots 11) (slot_value t slots 12) ≡ Some m) where
              m-told : (stream_good ts ≡ true) × (stream-all ≡ m)
              m-told = chosen _ _ _ (sym (stream-is slots slots-are) ∙ is_m)

              all-good : places_good t and groups_good ts ≡ true
              unfolding groups_good
              all-good = and_both _ _ places-told.0 (and_both _ _ p-told.0 (and_both _ _ q-told.0 (and_both _ _ f-told.0 m-told.0)))

              pub values-all : (e : Envelope) → e ≡ gather_of id t slots q f m a.headers → Some (record { len = p.len; deflated = p.deflated; chk = q.chk; fields = e }) ≡ values_of id t
              unfolding values_of good_values
              values-all e is-e =
                  let is-fields = texts slots slots-are id a.headers (sym (ap (λ (x : Places). x.headers) places-told.1)) in
                  rw (is-e, sym p-told.1, sym q-told.1, sym f-told.1, sym m-told.1) (rw is-fields (sym (if_yes _ _ _ all-good)))
