-- The body as the code puts it together is the message's.
use Rattle.std.specs.Prelude.{Some, if◌then◌else◌}
use Rattle.std.specs.Option.{option_map, option_to_list}
use Prim.Native.Nat.{ℕ, ◌+◌, ◌≤◌, ◌<◌}
use mathlib.Core.Path.{◌≡◌, refl, sym, ap, ◌∙◌}
use mathlib.Core.Bool.{Bool, true, false}
use mathlib.Core.List.{List, [], ◌∷◌, ◌++◌, append_assoc}
use native.Mathlib.Omega.{arith}
use lib.ListN.{length, drop, replicate, length-replicate}
use borrow.Author.Tests.{le-leb, lt-leb, leb-true, leb-false}
use Rattle.octets.specs.Words.{◌≤?◌}
use Rattle.octets.specs.Bytes.{placed, front}
use Rattle.octets.proofs.Lists.{placed-in}
use Rattle.text.specs.Decimal.{decimal, signed_decimal}
use Rattle.text.specs.Hex.{hex_digits}
use Rattle.names.specs.Reserved.{key_len, key_fmt, key_s, key_ttl, key_src, key_mid, key_frag, key_sid, key_sn, key_gt}
use Rattle.envelope.specs.Rules.{call_bytes}
use Rattle.tokens.specs.Tokens.{Token, token, space}
use Rattle.line_groups.specs.Rules.{'p'}
use Rattle.line.specs.Reading.{ihave}
use Rattle.line.specs.Writing.{Choice, choice, chosen, mid_text, part_text, sid_text, sn_text, gt_text, choices_of, header_tokens, dst_token, tokens_of, body_of}
use Rattle.line.specs.declared.Line.{Line}
use Rattle.line_draft.specs.Drafts.{no_draft, full_draft, draft, added, Adds}
use Rattle.line_draft.specs.declared.Draft.{Draft}
use Rattle.line_draft.proofs.Drafts.{added-fits, added_full, add-append, in_place, past_end}
use Rattle.line_body.specs.Held.{body_held}
use Rattle.line_body.specs.Steps.{key_part, add_pair, add_tokens}
use Rattle.line_body.proofs.Drafts.{tokens_append, tokens-text}

-- ---- the tokens, group by group

chosen-append : (a b : List Choice) → chosen a ++ chosen b ≡ chosen (a ++ b)
unfolding chosen
chosen-append [] b = refl
chosen-append (c ∷ a) b =
    append_assoc (option_to_list (option_map (token c.key) c.text)) (chosen a) (chosen b)
    ∙ ap (λ (l : List Token). option_to_list (option_map (token c.key) c.text) ++ l) (chosen-append a b)

choices-next : (a b : List Choice) (d : Draft) → add_tokens (chosen b) (add_tokens (chosen a) d) ≡ add_tokens (chosen (a ++ b)) d
choices-next a b d = tokens_append (chosen a) (chosen b) d ∙ ap (λ (ts : List Token). add_tokens ts d) (chosen-append a b)

module _ (m : Line) where
  abbrev payload : List Choice
  payload = choice key_len (Some (decimal m.len)) ∷ choice key_fmt (Some 'p') ∷ []

  abbrev salt : List Choice
  salt = choice key_s (option_map signed_decimal m.fields.salt) ∷ []

  abbrev ttl : List Choice
  ttl = choice key_ttl (option_map decimal m.fields.ttl) ∷ []

  abbrev src : List Choice
  src = choice key_src (option_map call_bytes m.fields.src) ∷ []

  abbrev fragment : List Choice
  fragment = choice key_mid (option_map mid_text m.fields.fragment) ∷ choice key_frag (option_map part_text m.fields.fragment) ∷ []

  abbrev stream : List Choice
  stream =
      choice key_sid (option_map sid_text m.fields.stream)
      ∷ choice key_sn (option_map sn_text m.fields.stream)
      ∷ choice key_gt (option_map gt_text m.fields.stream)
      ∷ []

  all-choices : (d : Draft)
      → add_tokens (chosen stream) (add_tokens (chosen fragment) (add_tokens (chosen src) (add_tokens (chosen ttl) (add_tokens (chosen salt) (add_tokens (chosen payload) d))))) ≡ add_tokens (chosen (choices_of m)) d
  unfolding choices_of
  all-choices d =
      choices-next fragment stream _
      ∙ choices-next src (fragment ++ stream) _
      ∙ choices-next ttl (src ++ (fragment ++ stream)) _
      ∙ choices-next salt (ttl ++ (src ++ (fragment ++ stream))) _
      ∙ choices-next payload (salt ++ (ttl ++ (src ++ (fragment ++ stream)))) d

  all-tokens : (d : Draft) → add_tokens (dst_token m ∷ []) (add_tokens (header_tokens m.fields.headers) (add_tokens (chosen (choices_of m)) d)) ≡ add_tokens (tokens_of m) d
  unfolding tokens_of
  all-tokens d =
      tokens_append (header_tokens m.fields.headers) (dst_token m ∷ []) (add_tokens (chosen (choices_of m)) d)
      ∙ tokens_append (chosen (choices_of m)) (header_tokens m.fields.headers ++ (dst_token m ∷ [])) d

  body-by : (d : Draft) → add_tokens (tokens_of m) (added (hex_digits 7 m.fields.id) (added (ihave ++ (space ∷ [])) d)) ≡ added (body_of m) d
  unfolding body_of
  body-by d =
      ap (add_tokens (tokens_of m)) (add-append (ihave ++ (space ∷ [])) (hex_digits 7 m.fields.id) d)
      ∙ tokens-text (tokens_of m) ((ihave ++ (space ∷ [])) ++ hex_digits 7 m.fields.id) d

  -- group by group, as the code puts them
  pub body-whole : (d : Draft)
      → add_tokens (dst_token m ∷ []) (add_tokens (header_tokens m.fields.headers) (add_tokens (chosen stream) (add_tokens (chosen fragment) (add_tokens (chosen src) (add_tokens (chosen ttl) (add_tokens (chosen salt)
      (add_tokens (chosen payload) (added (hex_digits 7 m.fields.id) (added (ihave ++ (space ∷ [])) d))))))))) ≡ added (body_of m) d
  body-whole d = ap (λ (x : Draft). add_tokens (dst_token m ∷ []) (add_tokens (header_tokens m.fields.headers) x)) (all-choices _) ∙ all-tokens _ ∙ body-by d

  pub payload-step : (d : Draft) → added (key_part key_fmt ++ 'p') (add_pair (key_part key_len) (decimal m.len) d) ≡ add_tokens (chosen payload) d
  unfolding chosen add_tokens
  payload-step d = sym (add-append (key_part key_fmt) 'p' (added (decimal m.len) (added (key_part key_len) d)))

  -- the body that was put into an empty draft, as it is held
  pub held : added (body_of m) no_draft ≡ body_held m
  unfolding body_held
  held = go (length (body_of m) ≤? 512) refl
    where
      w : List ℕ
      w = body_of m

      blank : List ℕ
      blank = replicate 512 0

      go : (t : Bool) → (length w ≤? 512) ≡ t → added w no_draft ≡ (if t then record { bytes = front w blank; len = length w } else full_draft)
      go true f =
          let k = leb-true (length w) 512 f in
          let n : 0 + length w ≡ length w = omega arith in
          let b : placed w 0 blank ≡ front w blank = placed-in w 0 blank (omega (arith, length-replicate {A = ℕ} 512 0)) ∙ ap (λ (i : ℕ). w ++ drop i blank) n in
          added-fits w no_draft (le-leb (0 + length w) (length blank) (omega (arith, length-replicate {A = ℕ} 512 0))) ∙ (λ i. record { bytes = b i; len = n i })
      go false f =
          let k = leb-false (length w) 512 f in
          added_full w no_draft (lt-leb (0 + length w) (length blank) (omega (arith, length-replicate {A = ℕ} 512 0)))

  -- the body that was put, as it is answered: blank, past the array's end
  module _ {start : Draft} (none : start ≡ no_draft) {r : ℕ} {x : List ℕ} (a : Adds (added (body_of m)) start.bytes start.len r x) where
    as-held : draft x r ≡ body_held m
    unfolding draft
    as-held =
        a.draft-is (ap (λ (d : Draft). length d.bytes) none ∙ length-replicate {A = ℕ} 512 0)
        ∙ ap (λ (d : Draft). added (body_of m) (draft d.bytes d.len)) none
        ∙ held

    pub body-long : 512 < r → full_draft ≡ body_held m
    body-long h = sym (past_end x r h) ∙ as-held

    pub body-short : r ≤ 512 → record { bytes = x; len = r } ≡ body_held m
    body-short h = sym (in_place x r h) ∙ as-held
