-- A turn of the pass as the code takes it: the word at a place, its key and its value as parts of the text.
use Rattle.std.specs.Prelude.{Option, Some, None}
use Rattle.std.specs.Option.{is_some}
use Prim.Native.Nat.{ℕ, ◌+◌, ◌-◌, ◌≤◌, ◌<◌}
use mathlib.Core.Path.{◌≡◌, refl, ap, sym, ◌∙◌}
use mathlib.Core.Bool.{Bool, true, false}
use mathlib.Core.List.{List, ◌∷◌}
use native.Mathlib.Omega.{arith}
use lib.ListN.{length, get_or, set, take, drop, replicate}
use borrow.Author.Tests.{ltb-true, lt-ltb, le-ltb, eqb-true, eqb-false, lt-leb}
use Rattle.octets.specs.Words.{◌and◌, no, ◌=?◌, ◌<?◌, ◌≤?◌}
use Rattle.octets.proofs.Tests.{if_no, and_left, true-not-false}
use Rattle.names.specs.Reserved.{reserved, key_place}
use Rattle.names.proofs.Reserved.{reserved-place}
use Rattle.headers.specs.declared.Header.{Header}
use Rattle.headers.specs.declared.Headers.{Headers}
use Rattle.envelope.specs.Texts.{header_text, no_headers, with_header}
use Rattle.tokens.specs.Cuts.{has, before, after}
use Rattle.tokens.specs.Tokens.{words, space, equals}
use Rattle.tokens.specs.Steps.{words_from}
use Rattle.tokens.proofs.Parts.{has-before, part-before, part-after, before-short}
use Rattle.tokens.proofs.Words.{word-is, words-start, words-next, words-end}
use Rattle.line_places.specs.Places.{no_place, place_at, places_of}
use Rattle.line_places.specs.declared.Place.{Place}
use Rattle.line_places.proofs.Walk.{Walked, walk_start, bare-word, chk-before, key-again, header-unfit, walk-header, walk-reserved, bad-word, bad-once, bad_last, bad-headers, walk_end}

pub turns-start : (t : List ℕ) (h : Headers) → h ≡ no_headers → Walked (words t) (replicate 13 no_place) h 0 (words_from 0 t)
turns-start t h f = rw (sym (words-start t)) (walk_start (words t) h f)

pub turns-end : (t : List ℕ) (slots : List (Option Place)) (h : Headers) (at : ℕ) → Walked (words t) slots h at (words_from at t) → length t < at → Some (record { slots = slots; headers = h }) ≡ places_of t
turns-end t slots h at r l = walk_end t slots h at (rw (words-end t at l) at r)

-- the first n bytes of a word, said as a part of it
pub front-part : (w : List ℕ) (n : ℕ) (x : List ℕ) → x ≡ take n w → x ≡ take (n - 0) (drop 0 w)
front-part w n x e = let z : n ≡ n - 0 = omega arith in e ∙ ap (λ (i : ℕ). take i w) z

lt_of : (x y : ℕ) → x ≤ y → (x ≡ y → ⊥) → x < y
lt_of x y p d = omega arith

told : (a b : Bool) → no a and no b ≡ true → (a ≡ false) × (b ≡ false)
told true b e = true-not-false false e refl
told false true e = true-not-false false e refl
told false false e = (refl, refl)

module _ (t : List ℕ) (slots : List (Option Place)) (h : Headers) (at : ℕ) (r : Walked (words t) slots h at (words_from at t)) (l : at ≤ length t)
    (w : List ℕ) (is_IsWord : w ≡ before space (take (length t - at) (drop at t))) (n : ℕ) (is-n : n ≡ length (before equals w))
    (z : Bool) (is-z : z ≡ is_some (get_or slots 5 no_place)) (b : Bool) (tested : b ≡ no z and no (n =? length w)) where
  is_b : b ≡ no (is_some (get_or slots 5 no_place)) and no (n =? length w)
  is_b = tested ∙ ap (λ (g : Bool). no g and no (n =? length w)) is-z

  abbrev rest : List (List ℕ)
  rest = words_from (at + length w + 1) t

  here : Walked (words t) slots h at (w ∷ rest)
  here = rw (word-is t at w is_IsWord) (rw (words-next t at l) at r)

  bare : (n =? length w) ≡ true → has equals w ≡ false
  bare e = has-before equals w ∙ le-ltb (length (before equals w)) (length w) (omega (arith, eqb-true n (length w) e))

  cut : (n =? length w) ≡ false → has equals w ≡ true
  cut e = has-before equals w ∙ lt-ltb (length (before equals w)) (length w) (lt_of (length (before equals w)) (length w) (before-short equals w) (λ q. eqb-false n (length w) e (is-n ∙ q)))

  pub turn-bad : b ≡ false → None ≡ places_of t
  turn-bad e = go (is_some (get_or slots 5 no_place)) refl (n =? length w) refl
    where
      go : (x : Bool) → (is_some (get_or slots 5 no_place)) ≡ x → (y : Bool) → (n =? length w) ≡ y → None ≡ places_of t
      go true p y q = bad_last t (chk-before (words t) slots h at w rest here p)
      go false p true q = bad-word t (bare-word (words t) slots h at w rest here (bare q))
      go false p false q = true-not-false b (is_b ∙ rw (p, q)) e

  pub turn-cut : b ≡ true → n < length w
  turn-cut good = lt_of n (length w) (omega (arith, before-short equals w)) (eqb-false n (length w) (told (is_some (get_or slots 5 no_place)) (n =? length w) (sym is_b ∙ good)).1)

  module _ (good : b ≡ true) (x : List ℕ) (is_key : x ≡ take (n - 0) (drop 0 w)) (k : ℕ) (is-k : k ≡ key_place x) where
    both : ((is_some (get_or slots 5 no_place)) ≡ false) × ((n =? length w) ≡ false)
    both = told (is_some (get_or slots 5 no_place)) (n =? length w) (sym is_b ∙ good)

    key-is : x ≡ before equals w
    key-is = is_key ∙ part-before equals w n is-n

    place_is : k ≡ key_place (before equals w)
    place_is = is-k ∙ ap key_place key-is

    module _ (m : k < 13) where
      is-reserved : reserved (before equals w) ≡ true
      is-reserved = reserved-place (before equals w) ∙ ap (λ (i : ℕ). i <? 13) (sym place_is) ∙ lt-ltb k 13 m

      pub turn-again : (is_some (get_or slots k no_place)) ≡ true → None ≡ places_of t
      turn-again e = bad-once t (key-again (words t) slots h at w rest here is-reserved (ap (λ (i : ℕ). (is_some (get_or slots i no_place))) (sym place_is) ∙ e))

      pub turn-kept : (is_some (get_or slots k no_place)) ≡ false → (v : List ℕ) → v ≡ take (length w - (n + 1)) (drop (n + 1) w) → (p : Option Place) → p ≡ place_at (at + n + 1) (length v)
          → Walked (words t) (set slots k p) h (at + length w + 1) rest
      turn-kept e v is-v p is-p =
          rw (is-p, is-n, place_is, is-v ∙ part-after equals w n is-n)
          (walk-reserved (words t) slots h at w rest here (cut both.1) both.0 is-reserved (ap (λ (i : ℕ). (is_some (get_or slots i no_place))) (sym place_is) ∙ e))

    module _ (m : 13 ≤ k) (v : List ℕ) (is-v : v ≡ take (length w - (n + 1)) (drop (n + 1) w)) (f : Bool) (is_f : f ≡ h.count <? 8 and length v ≤? 128) where
      is-other : reserved (before equals w) ≡ false
      is-other = reserved-place (before equals w) ∙ ap (λ (i : ℕ). i <? 13) (sym place_is) ∙ le-ltb k 13 m

      value-is : v ≡ after equals w
      value-is = is-v ∙ part-after equals w n is-n

      fit_is : h.count <? 8 and length (after equals w) ≤? 128 ≡ f
      fit_is = ap (λ (u : List ℕ). h.count <? 8 and length u ≤? 128) (sym value-is) ∙ sym is_f

      pub turn-unfit : f ≡ false → None ≡ places_of t
      turn-unfit e = bad-headers t (header-unfit (words t) slots h at w rest here is-other (fit_is ∙ e))

      -- there is room for one header more, and it stands behind the others
      pub turn-room : f ≡ true → h.count < 8
      turn-room e = ltb-true h.count 8 (and_left (h.count <? 8) (length v ≤? 128) (sym is_f ∙ e))

      pub turn-header : f ≡ true → (y : List ℕ) → y ≡ take (n - 0) (drop 0 w) → (g : Header) → g ≡ header_text y v
          → Walked (words t) slots (record { items = set h.items h.count g; count = h.count + 1 }) (at + length w + 1) rest
      unfolding with_header
      turn-header e y is_y g is-g =
          walk-header (words t) slots h at w rest here (cut both.1) both.0 is-other (fit_is ∙ e) _
          (rw (is-g, is_y ∙ part-before equals w n is-n, value-is) (sym (if_no _ _ _ (lt-leb 8 h.count (turn-room e)))))
