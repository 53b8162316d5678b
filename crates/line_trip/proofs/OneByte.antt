-- Document 01, "The ihave line": a line with one byte of the covered part changed is never accepted with the same `chk`.
use Rattle.std.specs.Prelude.{if◌then◌else◌}
use Prim.Native.Nat.{ℕ, ◌-◌, ◌<◌}
use mathlib.Core.Path.{◌≡◌, refl, ap, sym, ◌∙◌}
use mathlib.Core.Bool.{Bool, true, false}
use mathlib.Core.List.{List, [], ◌∷◌, ◌++◌, map}
use native.Mathlib.Omega.{arith}
use lib.ListN.{length, take, length-append}
use lib.Seq.{take_at}
use borrow.Author.Tests.{eq-eqb, eqb-true}
use Rattle.octets.specs.Words.{◌or◌, no, ◌<?◌, ◌=?◌, every}
use Rattle.octets.specs.Bytes.{Bytes, same}
use Rattle.octets.proofs.Tests.{if_yes, if_no, and_left, and_right, or-next, or_no, true-not-false}
use Rattle.refusals.specs.Numbers.{line_malformed, chk_differs, format_d, payload_too_long, longest_payload}
use Rattle.text.specs.Digits.{is_digit}
use Rattle.text.specs.Hex.{is_hex, hex_value}
use Rattle.names.specs.Reserved.{key_chk}
use Rattle.headers.specs.Keys.{all_differ}
use Rattle.crc16.specs.Crc.{crc16}
use Rattle.crc16.proofs.Laws.{one_byte}
use Rattle.std.specs.List.{onto_first}
use Rattle.tokens.specs.Cuts.{has, before, after, split}
use Rattle.tokens.proofs.Parts.{after-cons}
use Rattle.tokens.specs.Tokens.{Token, token, token_of, words, tokens, keys, present, value, none, last_only, keyed, word_of, space, equals}
use Rattle.line_groups.specs.Rules.{deflated}
use Rattle.line_groups.specs.Answers.{len_of}
use Rattle.line.specs.Reading.{ihave, verb_word, id_word, rest_of, is_text, framed, well_formed, chk_right, refusal_of}
use Rattle.line_trip.proofs.Cuts.{has-not, map-append, after-at, split-end}

-- ` chk=` and its digits
abbrev pub chk_part : List ℕ → List ℕ
chk_part d = space ∷ word_of (token key_chk d)

-- ---- the last word

onto-append : (x : ℕ) (a b : List (List ℕ)) → 0 < length a → onto_first x (a ++ b) ≡ onto_first x a ++ b
onto-append x [] b h = absurd (omega arith)
onto-append x (w ∷ a) b h = refl

onto-some : (x : ℕ) (a : List (List ℕ)) → 0 < length (onto_first x a)
onto-some x [] = omega arith
onto-some x (w ∷ a) = omega arith

module _ (c : ℕ) where
  split-some : (s : List ℕ) → 0 < length (split c s)
  unfolding split
  split-some [] = omega arith
  split-some (x ∷ s) = go (x =? c)
    where
      go : (t : Bool) → 0 < length (if t then ([] ∷ split c s) else onto_first x (split c s))
      go true = omega arith
      go false = onto-some x (split c s)

  split-append : (s t : List ℕ) → split c (s ++ (c ∷ t)) ≡ split c s ++ split c t
  unfolding split
  split-append [] t = if_yes _ _ _ (eq-eqb c c refl)
  split-append (x ∷ s) t = go (x =? c) (split-append s t)
    where
      go : (b : Bool) → split c (s ++ (c ∷ t)) ≡ split c s ++ split c t
          → (if b then ([] ∷ split c (s ++ (c ∷ t))) else onto_first x (split c (s ++ (c ∷ t)))) ≡ (if b then ([] ∷ split c s) else onto_first x (split c s)) ++ split c t
      go true h = ap (λ (l : List (List ℕ)). [] ∷ l) h
      go false h = ap (onto_first x) h ∙ onto-append x (split c s) (split c t) (split-some s)

  after-append : (u t : List ℕ) → has c u ≡ true → after c (u ++ t) ≡ after c u ++ t
  unfolding has after
  after-append [] t h = true-not-false false h refl
  after-append (x ∷ u) t h = rw (after-cons c x (u ++ t), after-cons c x u) (go (x =? c) h (after-append u t))
    where
      go : (b : Bool) → b or has c u ≡ true → (has c u ≡ true → after c (u ++ t) ≡ after c u ++ t) → (if b then u ++ t else after c (u ++ t)) ≡ (if b then u else after c u) ++ t
      go true h f = refl
      go false h f = f h

  after_none : (w : List ℕ) → has c w ≡ false → after c w ≡ []
  unfolding has after
  after_none [] h = refl
  after_none (x ∷ w) h = let e = or_no (x =? c) (has c w) h in after-cons c x w ∙ if_no _ _ _ e.0 ∙ after_none w e.1

-- ---- `chk` among the tokens

none_last : (ts : List Token) (t : Token) → none (keys (ts ++ (t ∷ []))) ≡ false
none_last [] t = refl
none_last (u ∷ ts) t = refl

or-false : (a b : Bool) → no a or b ≡ true → b ≡ false → a ≡ false
or-false true b e f = true-not-false b e f
or-false false b e f = refl

module _ (d : List ℕ) where
  abbrev last : List Token
  last = token key_chk d ∷ []

  last-value : (ts : List Token) → last_only key_chk (keys (ts ++ last)) ≡ true → (present key_chk (ts ++ last) ≡ true) × (value key_chk (ts ++ last) ≡ d)
  unfolding present value last_only
  last-value [] e = (refl, refl)
  last-value (t ∷ ts) e =
      let n = or-false (same key_chk t.key) (none (keys (ts ++ last))) (and_left _ _ e) (none_last ts (token key_chk d)) in
      let ih = last-value ts (and_right (no (same key_chk t.key) or none (keys (ts ++ last))) _ e) in
      (or-next _ _ n ∙ ih.0, if_no _ _ _ n ∙ ih.1)

-- ---- a line that is accepted

module _ (u d : List ℕ) (hex : is_hex 4 d ≡ true) where
  abbrev line : List ℕ
  line = u ++ chk_part d

  word-bare : has space (word_of (token key_chk d)) ≡ false
  unfolding has
  word-bare = has-not space (is_digit 16) refl d (and_right (length d =? 4) _ hex)

  word-token : token_of (word_of (token key_chk d)) ≡ token key_chk d
  unfolding has before after
  word-token = refl

  alone : tokens (word_of (token key_chk d)) ≡ last d
  alone = ap (map token_of) (split-end space (word_of (token key_chk d)) word-bare) ∙ ap (λ (t : Token). t ∷ []) word-token

  -- the last token is `chk`, unless the line has no tokens
  found : keyed (rest_of line) ≡ true → (ts : List Token) × (tokens (rest_of line) ≡ ts ++ last d)
  unfolding keyed has split after
  found k = go (has space u) refl (has space (after space u)) refl
    where
      go : (p : Bool) → has space u ≡ p → (q : Bool) → has space (after space u) ≡ q → (ts : List Token) × (tokens (rest_of line) ≡ ts ++ last d)
      go false p q f = true-not-false (keyed (rest_of line)) k (ap keyed (ap (after space) (after-at space u (word_of (token key_chk d)) p) ∙ after_none space (word_of (token key_chk d)) word-bare))
      go true p false f = ([], ap tokens (ap (after space) (after-append space u (chk_part d) p) ∙ after-at space (after space u) (word_of (token key_chk d)) f) ∙ alone)
      go true p true f =
          let r = after space (after space u) in (
            tokens r,
            ap tokens (ap (after space) (after-append space u (chk_part d) p) ∙ after-append space (after space u) (chk_part d) f)
                ∙ ap (map token_of) (split-append space r (word_of (token key_chk d)))
                ∙ map-append token_of (split space r) (split space (word_of (token key_chk d)))
                ∙ ap (λ (l : List Token). tokens r ++ l) alone,
          )

  formed : refusal_of line ≡ 0 → (well_formed line ≡ true) × (chk_right line (tokens (rest_of line)) ≡ true)
  unfolding refusal_of
  formed e = go (well_formed line) (chk_right line (tokens (rest_of line))) (if deflated (tokens (rest_of line)) then format_d else if longest_payload <? len_of (tokens (rest_of line)) then payload_too_long else 0) e
    where
      go : (w c : Bool) (n : ℕ) → (if no w then line_malformed else if no c then chk_differs else n) ≡ 0 → (w ≡ true) × (c ≡ true)
      go true true n h = (refl, refl)
      go true false n h = absurd (omega arith)
      go false c n h = absurd (omega arith)

  line-keyed : well_formed line ≡ true → keyed (rest_of line) ≡ true
  unfolding well_formed framed
  line-keyed w =
      let f = and_left (framed line) _ (and_right (is_text line) _ w) in
      and_right (is_hex 7 (id_word line)) _ (and_right (same (verb_word line) ihave) _ f)

  chk-last : keyed (rest_of line) ≡ true → last_only key_chk (keys (tokens (rest_of line))) ≡ true
  unfolding keyed
  chk-last k = and_right (all_differ (keys (tokens (rest_of line)))) _ (and_right (every (has equals) (words (rest_of line))) _ k)

  covered : take (length line - 9) line ≡ u
  covered = take_at u (chk_part d) (length line - 9) (omega (arith, length-append u (chk_part d), eqb-true (length d) 4 (and_left _ _ hex)))

  -- its check is that of the bytes before the space that precedes `chk=`
  pub accepted-chk : refusal_of line ≡ 0 → crc16 u ≡ hex_value d
  unfolding chk_right
  accepted-chk e =
      let f = formed e in
      let k = line-keyed f.0 in
      let t = found k in
      let v = last-value d t.0 (ap (λ (l : List Token). last_only key_chk (keys l)) (sym t.1) ∙ chk-last k) in
      let g = ap (present key_chk) t.1 ∙ v.0 in
      ap crc16 (sym covered)
      ∙ eqb-true (crc16 (take (length line - 9) line)) (hex_value (value key_chk (tokens (rest_of line)))) (sym (if_yes _ _ _ g) ∙ f.1)
      ∙ ap hex_value (ap (value key_chk) t.1 ∙ v.1)

-- two lines that differ in one byte before the space that precedes `chk=`, by one bit or more, are not both accepted
pub one-byte-refused : (a s d : List ℕ) (x y : ℕ) → Bytes s → x < 256 → y < 256 → is_hex 4 d ≡ true
    → refusal_of ((a ++ (x ∷ s)) ++ chk_part d) ≡ 0 → refusal_of ((a ++ (y ∷ s)) ++ chk_part d) ≡ 0 → x ≡ y
one-byte-refused a s d x y bytes hx hy hex p q =
    one_byte a s x y bytes hx hy (accepted-chk (a ++ (x ∷ s)) d hex p ∙ sym (accepted-chk (a ++ (y ∷ s)) d hex q))
