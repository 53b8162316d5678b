-- Tokens added to a draft one after the other: they are added as one text.
use Rattle.std.specs.Prelude.{Option, Some, None}
use Rattle.std.specs.Option.{option_map}
use Prim.Native.Nat.{ℕ, ◌+◌, ◌<◌, min}
use mathlib.Core.Path.{◌≡◌, refl, sym, ap, ◌∙◌}
use mathlib.Core.List.{List, [], ◌∷◌, ◌++◌, append_assoc, append-nil, map}
use native.Mathlib.Omega.{arith}
use lib.ListN.{length, take, drop, get_or, length-map, length-take, get_or-map}
use lib.Seq.{drop-length, get_or-take}
use Rattle.octets.proofs.Lists.{drop-next}
use Rattle.names.specs.Reserved.{key_mid, key_frag}
use Rattle.envelope.specs.declared.Fragment.{Fragment}
use Rattle.tokens.specs.Tokens.{Token, word_of, spaced, space, equals}
use Rattle.headers.specs.declared.Headers.{Headers}
use Rattle.headers.proofs.Pairs.{no_header}
use Rattle.line.specs.Writing.{choice, chosen, mid_text, part_text, header_token, header_tokens}
use Rattle.line_draft.specs.Drafts.{draft, added, Adds}
use Rattle.line_draft.specs.declared.Draft.{Draft}
use Rattle.line_draft.proofs.Drafts.{add-three}
use Rattle.line_body.specs.Steps.{key_part, add_pair, add_tokens}

-- ---- tokens

pub tokens_append : (a b : List Token) (d : Draft) → add_tokens b (add_tokens a d) ≡ add_tokens (a ++ b) d
unfolding add_tokens
tokens_append [] b d = refl
tokens_append (t ∷ a) b d = tokens_append a b (added t.value (added (key_part t.key) d))

token-text : (t : Token) (s : List ℕ) → key_part t.key ++ (t.value ++ s) ≡ space ∷ (word_of t ++ s)
token-text t s =
    ap (λ (l : List ℕ). space ∷ l)
    (append_assoc t.key (equals ∷ []) (t.value ++ s) ∙ sym (append_assoc t.key (equals ∷ t.value) s))

pub tokens-text : (ts : List Token) (w : List ℕ) (d : Draft) → add_tokens ts (added w d) ≡ added (w ++ spaced (map word_of ts)) d
unfolding add_tokens
tokens-text [] w d = ap (λ (s : List ℕ). added s d) (sym (append-nil w))
tokens-text (t ∷ ts) w d =
    ap (add_tokens ts) (add-three w (key_part t.key) t.value d)
    ∙ tokens-text ts (w ++ (key_part t.key ++ t.value)) d
    ∙ ap (λ (s : List ℕ). added s d)
    (append_assoc w (key_part t.key ++ t.value) (spaced (map word_of ts))
    ∙ ap (λ (s : List ℕ). w ++ s) (append_assoc (key_part t.key) t.value (spaced (map word_of ts)) ∙ token-text t (spaced (map word_of ts))))

-- ---- the tokens of a fragment that is there, and one token

pub fragment-put : (o : Option Fragment) (f : Fragment) (d : Draft) → o ≡ Some f
    → add_pair (key_part key_frag) (part_text f) (add_pair (key_part key_mid) (mid_text f) d) ≡ add_tokens (chosen (choice key_mid (option_map mid_text o) ∷ choice key_frag (option_map part_text o) ∷ [])) d
unfolding chosen add_tokens
fragment-put o f d e = rw e refl

pub one_token : (t : Token) (d : Draft) → added t.value (added (key_part t.key) d) ≡ add_tokens (t ∷ []) d
unfolding add_tokens
one_token t d = refl

-- ---- a field that is not there

pub absent : {A : Type 0} (o : Option A) → ((x : A) → o ≡ Some x → ⊥) → o ≡ None
absent None n = refl
absent (Some x) n = absurd (n x refl)

-- ---- headers, one after the other

module _ (h : Headers) (room : length h.items ≡ 8) (i : ℕ) where
  counted : length (header_tokens h) ≡ min h.count 8
  counted = length-map (take h.count h.items) header_token ∙ length-take h.count h.items ∙ ap (min h.count) room

  header-next : i < min h.count 8 → (d : Draft) → add_tokens (drop i (header_tokens h)) d ≡ add_tokens (drop (i + 1) (header_tokens h)) (add_tokens (header_token (get_or h.items i no_header) ∷ []) d)
  header-next l d =
      let k : i < length (header_tokens h) = omega (arith, counted) in
      let m : i < h.count = omega (arith, counted) in
      let f : get_or (header_tokens h) i (header_token no_header) ≡ header_token (get_or h.items i no_header)
      = get_or-map header_token (take h.count h.items) i no_header ∙ ap header_token (get_or-take h.count h.items i no_header m) in
      ap (λ (ts : List Token). add_tokens ts d) (drop-next (header_tokens h) i (header_token no_header) k ∙ ap (λ (t : Token). t ∷ drop (i + 1) (header_tokens h)) f)
      ∙ sym (tokens_append (header_token (get_or h.items i no_header) ∷ []) (drop (i + 1) (header_tokens h)) d)

  header-end : i ≡ min h.count 8 → (d : Draft) → add_tokens (drop i (header_tokens h)) d ≡ d
  unfolding add_tokens
  header-end e d =
      let k : drop i (header_tokens h) ≡ [] = ap (λ (n : ℕ). drop n (header_tokens h)) (e ∙ sym counted) ∙ drop-length (header_tokens h) in
      ap (λ (ts : List Token). add_tokens ts d) k

-- the headers from the place i on are still to be added: what the loop keeps
pub record Headed (h : Headers) (l : List ℕ) (at i next : ℕ) (x : List ℕ) : Type 0 where
  pub rest-is : length l ≡ 512 → add_tokens (header_tokens h) (draft l at) ≡ add_tokens (drop i (header_tokens h)) (draft x next)
  pub same : length x ≡ length l

module _ (h : Headers) (l : List ℕ) (at : ℕ) where
  pub headed-start : Headed h l at 0 at l
  headed-start = record { rest-is = λ e. refl; same = refl }

  module _ (room : length h.items ≡ 8) (i : ℕ) where
    pub headed-next : i < min h.count 8 → {next r : ℕ} {x y : List ℕ} → Headed h l at i next x → Adds (add_tokens (header_token (get_or h.items i no_header) ∷ [])) x next r y → Headed h l at (i + 1) r y
    headed-next k {next} {r} {x} {y} g a = record {
      rest-is = λ e. g.rest-is e ∙ header-next h room i k (draft x next) ∙ ap (add_tokens (drop (i + 1) (header_tokens h))) (sym (a.draft-is (g.same ∙ e)));
      same = a.long ∙ g.same;
    }

    pub headed-end : i ≡ min h.count 8 → {next : ℕ} {x : List ℕ} → Headed h l at i next x → Adds (add_tokens (header_tokens h)) l at next x
    headed-end k {next} {x} g = record { draft-is = λ e. sym (g.rest-is e ∙ header-end h room i k (draft x next)); long = g.same }
