-- Words that are written are found again: a text cut at its spaces, and each word at its `=`.
use Prim.Native.Nat.{ℕ}
use native.Mathlib.Omega.{arith}
use mathlib.Core.Path.{◌≡◌, refl, ap, ◌∙◌}
use mathlib.Core.Bool.{Bool, true, false}
use mathlib.Core.List.{List, [], ◌∷◌, ◌++◌, append_assoc, append-nil, map}
use borrow.Author.Tests.{eq-eqb, ne_eqb, le-leb, leb-true}
use Rattle.octets.specs.Words.{◌and◌, ◌or◌, no, ◌≤?◌, ◌=?◌, every}
use Rattle.octets.proofs.Tests.{and_left, and_right, and_both, or_left, true-not-false, or_no}
use Rattle.utf8.specs.Utf8.{utf8, run}
use Rattle.names.specs.Texts.{text_byte, ruled}
use Rattle.tokens.specs.Cuts.{has, before, after, split}
use Rattle.tokens.proofs.Parts.{before-cons, after-cons}
use Rattle.tokens.specs.Tokens.{Token, token_of, word_of, spaced, space, equals}
use Rattle.line.specs.Reading.{plain}
use Rattle.line_trip.proofs.Texts.{every_append, every-by, utf8_append}

-- ---- a text cut at a byte

module _ (c : ℕ) where
  pub split-end : (w : List ℕ) → has c w ≡ false → split c w ≡ w ∷ []
  unfolding has split
  split-end [] h = refl
  split-end (x ∷ w) h = let e = or_no (x =? c) (has c w) h in rw (e.0, split-end w e.1)

  split_at : (w r : List ℕ) → has c w ≡ false → split c (w ++ (c ∷ r)) ≡ w ∷ split c r
  unfolding has split
  split_at [] r h = rw (eq-eqb c c refl)
  split_at (x ∷ w) r h = let e = or_no (x =? c) (has c w) h in rw (e.0, split_at w r e.1)

  pub before_at : (w r : List ℕ) → has c w ≡ false → before c (w ++ (c ∷ r)) ≡ w
  unfolding has before
  before_at [] r h = rw (eq-eqb c c refl)
  before_at (x ∷ w) r h = let e = or_no (x =? c) (has c w) h in rw (before-cons c x (w ++ (c ∷ r)), e.0, before_at w r e.1)

  pub after-at : (w r : List ℕ) → has c w ≡ false → after c (w ++ (c ∷ r)) ≡ r
  unfolding has after
  after-at [] r h = rw (eq-eqb c c refl)
  after-at (x ∷ w) r h = let e = or_no (x =? c) (has c w) h in rw (after-cons c x (w ++ (c ∷ r)), e.0, after-at w r e.1)

  pub has-at : (w r : List ℕ) → has c (w ++ (c ∷ r)) ≡ true
  unfolding has
  has-at [] r = or_left _ _ (eq-eqb c c refl)
  has-at (x ∷ w) r = go (x =? c) (has-at w r)
    where
      go : (t : Bool) → has c (w ++ (c ∷ r)) ≡ true → t or has c (w ++ (c ∷ r)) ≡ true
      go true h = refl
      go false h = h

  -- a byte that no byte of the text can be
  pub has-not : (p : ℕ → Bool) → p c ≡ false → (w : List ℕ) → every p w ≡ true → has c w ≡ false
  unfolding has
  has-not p h [] e = refl
  has-not p h (x ∷ w) e =
      rw (ne_eqb x c (λ q. true-not-false (p c) (rw q at (and_left (p x) (every p w) e)) h)) (has-not p h w (and_right (p x) (every p w) e))

-- ---- words

abbrev pub visible : List ℕ → Bool
visible w = ruled true w

pub spaceless : (w : List ℕ) → visible w ≡ true → has space w ≡ false
unfolding ruled text_byte
spaceless w e = has-not space (text_byte true) refl w (and_right (utf8 w) _ e)

pub words_back : (w : List ℕ) (ws : List (List ℕ)) → visible w ≡ true → every visible ws ≡ true → split space (w ++ spaced ws) ≡ w ∷ ws
words_back w [] e f = rw (append-nil w) (split-end space w (spaceless w e))
words_back w (v ∷ ws) e f =
    split_at space w (v ++ spaced ws) (spaceless w e)
    ∙ ap (λ (l : List (List ℕ)). w ∷ l) (words_back v ws (and_left (visible v) (every visible ws) f) (and_right (visible v) (every visible ws) f))

visible_plain : (x : ℕ) → text_byte true x ≡ true → plain x ≡ true
unfolding text_byte plain
visible_plain x e = let f = and_right (0x21 ≤? x) _ e in
    and_both (0x20 ≤? x) _ (le-leb 0x20 x (omega (arith, leb-true 0x21 x (and_left _ _ e)))) (and_left (no (x =? 0x7F)) _ f)

-- texts of a line: each word behind a space
pub spaced-plain : (ws : List (List ℕ)) → every visible ws ≡ true → every plain (spaced ws) ≡ true
unfolding plain ruled
spaced-plain [] f = refl
spaced-plain (v ∷ ws) f =
    every_append plain v (spaced ws) (every-by (text_byte true) plain visible_plain v (and_right (utf8 v) _ (and_left (visible v) (every visible ws) f)))
    (spaced-plain ws (and_right (visible v) (every visible ws) f))

pub spaced-utf8 : (ws : List (List ℕ)) → every visible ws ≡ true → utf8 (spaced ws) ≡ true
unfolding run ruled
spaced-utf8 [] f = refl
spaced-utf8 (v ∷ ws) f =
    utf8_append (space ∷ []) (v ++ spaced ws) refl
    (utf8_append v (spaced ws) (and_left (utf8 v) _ (and_left (visible v) (every visible ws) f)) (spaced-utf8 ws (and_right (visible v) (every visible ws) f)))

pub spaced-append : (us vs : List (List ℕ)) → spaced us ++ spaced vs ≡ spaced (us ++ vs)
spaced-append [] vs = refl
spaced-append (u ∷ us) vs = ap (λ (l : List ℕ). space ∷ l) (append_assoc u (spaced us) (spaced vs) ∙ ap (λ (l : List ℕ). u ++ l) (spaced-append us vs))

pub map-append : {A B : Type 0} (f : A → B) (s t : List A) → map f (s ++ t) ≡ map f s ++ map f t
map-append f [] t = refl
map-append f (x ∷ s) t = ap (λ l. f x ∷ l) (map-append f s t)

-- ---- tokens

-- a key without `=`, and a value
unfoldable pub sound : Token → Bool
sound t = ruled false t.key and ruled true t.value

text-visible : (x : ℕ) → text_byte false x ≡ true → text_byte true x ≡ true
unfolding text_byte
text-visible x e = let f = and_right (0x21 ≤? x) _ e in
    and_both (0x21 ≤? x) _ (and_left _ _ e) (and_both (no (x =? 0x7F)) true (and_left _ _ f) refl)

pub ruled-visible : (s : List ℕ) → ruled false s ≡ true → visible s ≡ true
unfolding ruled
ruled-visible s e = and_both (utf8 s) _ (and_left _ _ e) (every-by (text_byte false) (text_byte true) text-visible s (and_right (utf8 s) _ e))

word-visible : (t : Token) → sound t ≡ true → visible (word_of t) ≡ true
unfolding sound ruled text_byte run
word-visible t e =
    let k = ruled-visible t.key (and_left (ruled false t.key) (ruled true t.value) e) in
    let v = and_right (ruled false t.key) (ruled true t.value) e in
    and_both (utf8 (word_of t)) _
    (utf8_append t.key (equals ∷ t.value) (and_left (utf8 t.key) _ k) (utf8_append (equals ∷ []) t.value refl (and_left (utf8 t.value) _ v)))
    (every_append (text_byte true) t.key (equals ∷ t.value) (and_right (utf8 t.key) _ k) (and_right (utf8 t.value) _ v))

pub words-visible : (ts : List Token) → every sound ts ≡ true → every visible (map word_of ts) ≡ true
words-visible [] e = refl
words-visible (t ∷ ts) e =
    and_both (visible (word_of t)) (every visible (map word_of ts))
    (word-visible t (and_left (sound t) (every sound ts) e)) (words-visible ts (and_right (sound t) (every sound ts) e))

key-bare : (t : Token) → sound t ≡ true → has equals t.key ≡ false
unfolding sound ruled text_byte
key-bare t e = has-not equals (text_byte false) refl t.key (and_right (utf8 t.key) _ (and_left (ruled false t.key) (ruled true t.value) e))

token_back : (t : Token) → sound t ≡ true → token_of (word_of t) ≡ t
token_back t e = rw (before_at equals t.key t.value (key-bare t e), after-at equals t.key t.value (key-bare t e))

pub tokens-back : (ts : List Token) → every sound ts ≡ true → map token_of (map word_of ts) ≡ ts
tokens-back [] e = refl
tokens-back (t ∷ ts) e = rw (token_back t (and_left (sound t) (every sound ts) e), tokens-back ts (and_right (sound t) (every sound ts) e))

pub all-equals : (ts : List Token) → every (has equals) (map word_of ts) ≡ true
all-equals [] = refl
all-equals (t ∷ ts) = and_both (has equals (word_of t)) (every (has equals) (map word_of ts)) (has-at equals t.key t.value) (all-equals ts)
