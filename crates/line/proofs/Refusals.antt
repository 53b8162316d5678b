-- What reading a line answers, test by test: the lowest number that refuses it, or the line.
use Rattle.std.specs.Prelude.{◌-◌, length, take, Some, None, Ok, Err, if◌then◌else◌}
use Rattle.std.specs.Option.{option_map_or, option_map}
use Prim.Native.Nat.{ℕ, zero, suc}
use mathlib.Core.Path.{◌≡◌, refl, ap, sym, ◌∙◌}
use mathlib.Core.Bool.{Bool, true, false, not}
use mathlib.Core.List.{List}
use Rattle.octets.specs.Words.{◌and◌, no, ◌=?◌}
use Rattle.octets.proofs.Tests.{if_yes, and-next, and-not-left, and-not-right, no_false}
use Rattle.refusals.specs.declared.Refusal.{Refusal}
use Rattle.refusals.specs.Refusals.{number_of}
use Rattle.refusals.proofs.Told.{not-0}
use Rattle.text.specs.Hex.{hex_value}
use Rattle.names.specs.Reserved.{key_chk}
use Rattle.crc16.specs.Crc.{crc16}
use Rattle.envelope.specs.Rules.{envelope}
use Rattle.envelope.specs.declared.Envelope.{Envelope}
use Rattle.tokens.specs.Tokens.{Token, tokens, present, value}
use Rattle.line_groups.specs.Rules.{deflated}
use Rattle.line_places.specs.Places.{places_good}
use Rattle.line_refusals.specs.Order.{refuses_reading}
use Rattle.line_fields.specs.Fields.{fields_of, groups_good, good_values, values_of}
use Rattle.line_fields.specs.declared.Values.{Values}
use Rattle.line_fields.proofs.Groups.{chosen, refused}
use Rattle.line_frame.specs.Frame.{line_head}
use Rattle.line_frame.proofs.Frames.{head_none, head_some}
use Rattle.line.specs.Reading.{id_word, rest_of, line_of, well_formed, chk_right, refusal_of, Outcome, Read, says, read_as, read_of}
use Rattle.line.specs.Steps.{right_chk}
use Rattle.line.proofs.Distinct.{head_good, well-is}

not_is : (b : Bool) → not b ≡ no b
not_is true = refl
not_is false = refl

module _ (s : List ℕ) where
  abbrev id-is : ℕ
  id-is = hex_value (id_word s)

  abbrev ts : List Token
  ts = tokens (rest_of s)

  -- ---- one test after the other

  refuses : (r : Refusal) → refusal_of s ≡ number_of r → says (Err r) ≡ read_of s
  unfolding read_of
  refuses r e = go (number_of r) refl ∙ ap (λ (k : ℕ). read_as k (line_of s)) (sym e)
    where
      go : (n : ℕ) → number_of r ≡ n → says (Err r) ≡ read_as (number_of r) (line_of s)
      go zero f = absurd (not-0 r f)
      go (suc k) f = rw f refl

  malformed : well_formed s ≡ false → says (Err Refusal.LineMalformed) ≡ read_of s
  unfolding refusal_of
  malformed e = refuses Refusal.LineMalformed (if_yes _ _ _ (no_false _ e))

  pub line-head : line_head s ≡ None → says (Err Refusal.LineMalformed) ≡ read_of s
  line-head e = malformed (well-is s ∙ and-not-left _ _ (head_none s e))

  module _ (id : ℕ) (is-id : line_head s ≡ Some id) (t : List ℕ) (is-t : t ≡ rest_of s) where
    values-are : values_of id t ≡ values_of id-is (rest_of s)
    values-are = rw (is-t, (head_some s id is-id).1) refl

    pub line-values : values_of id t ≡ None → says (Err Refusal.LineMalformed) ≡ read_of s
    unfolding values_of
    line-values e = malformed (well-is s ∙ and-not-right (head_good s) _ (and-not-left _ _ (refused _ _ (sym values-are ∙ e))))

    module _ (v : Values) (is-v : values_of id t ≡ Some v) where
      told : (places_good (rest_of s) and groups_good ts ≡ true) × (good_values id-is ts ≡ v)
      unfolding values_of
      told = chosen _ _ _ (sym values-are ∙ is-v)

      fields-are : v.fields ≡ fields_of id-is ts
      unfolding good_values
      fields-are = sym (ap (λ (y : Values). y.fields) told.1)

      -- ---- the tests that the numbers go by

      well : (b : Bool) → b ≡ envelope v.fields → well_formed s ≡ b
      well b e = well-is s ∙ and-next _ _ (head_some s id is-id).0 ∙ and-next _ _ told.0 ∙ ap envelope (sym fields-are) ∙ sym e

      chk-told : chk_right s ts ≡ right_chk s (good_values id-is ts).chk
      unfolding chk_right right_chk good_values
      chk-told = go (present key_chk ts)
        where
          go : (b : Bool) → (if b then crc16 (take (length s - 9) s) =? hex_value (value key_chk ts) else true)
              ≡ option_map_or (λ c. crc16 (take (length s - 9) s) =? c) (option_map hex_value (if b then Some (value key_chk ts) else None)) true
          go true = refl
          go false = refl

      chk-is : (b : Bool) → b ≡ right_chk s v.chk → chk_right s ts ≡ b
      chk-is b e = chk-told ∙ ap (λ (y : Values). right_chk s y.chk) told.1 ∙ sym e

      fmt-is : deflated ts ≡ v.deflated
      unfolding good_values
      fmt-is = ap (λ (y : Values). y.deflated) told.1

      len_is : v.len ≡ (line_of s).len
      unfolding good_values line_of
      len_is = sym (ap (λ (y : Values). y.len) told.1)

      module _ (b : Bool) (is_b : b ≡ envelope v.fields) (c : Bool) (is_c : c ≡ right_chk s v.chk) where
        number_is : refusal_of s ≡ refuses_reading (not b) (not c) v.deflated v.len
        unfolding refusal_of line_of
        number_is =
            ap (λ (w : Bool). refuses_reading (no w) (no (chk_right s ts)) (deflated ts) (line_of s).len) (well b is_b)
            ∙ ap (λ (w : Bool). refuses_reading (no b) (no w) (deflated ts) (line_of s).len) (chk-is c is_c)
            ∙ ap (λ (w : Bool). refuses_reading (no b) (no c) w (line_of s).len) fmt-is
            ∙ ap (λ (k : ℕ). refuses_reading (no b) (no c) v.deflated k) (sym len_is)
            ∙ ap (λ (w : Bool). refuses_reading w (no c) v.deflated v.len) (sym (not_is b))
            ∙ ap (λ (w : Bool). refuses_reading (not b) w v.deflated v.len) (sym (not_is c))

        pub line_refused : (r : Refusal) → number_of r ≡ refuses_reading (not b) (not c) v.deflated v.len → says (Err r) ≡ read_of s
        line_refused r e = refuses r (number_is ∙ sym e)

        line_same : (a k : ℕ) (e f : Envelope) → a ≡ k → e ≡ f → ◌≡◌ {A = Outcome} (record { reading = Read; line = record { len = a; fields = e } }) (record { reading = Read; line = record { len = k; fields = f } })
        line_same a k e f p q = rw (p, q)

        pub line_read : 0 ≡ refuses_reading (not b) (not c) v.deflated v.len → says (Ok (record { len = v.len; fields = v.fields })) ≡ read_of s
        unfolding read_of line_of
        line_read e = line_same v.len (line_of s).len v.fields (line_of s).fields len_is fields-are ∙ ap (λ (k : ℕ). read_as k (line_of s)) (e ∙ sym number_is)
