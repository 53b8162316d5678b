-- What stands at the place of a key is the key's value.
use Rattle.std.specs.Prelude.{Option, Some, None, if◌then◌else◌}
use Prim.Native.Nat.{ℕ, zero, suc, ◌+◌, ◌-◌, ◌<◌}
use mathlib.Core.Path.{◌≡◌, refl, ap, sym, ◌∙◌}
use mathlib.Core.Bool.{Bool, true, false}
use mathlib.Core.List.{List, [], ◌∷◌, map}
use native.Mathlib.Omega.{arith}
use lib.ListN.{length, get_or, take, drop, length-drop}
use lib.Seq.{drop-drop, take_all}
use borrow.Author.Tests.{leb-true, leb-false}
use Rattle.octets.specs.Words.{◌or◌, ◌≤?◌}
use Rattle.octets.specs.Bytes.{same}
use Rattle.names.specs.Reserved.{reserved_keys}
use Rattle.names.proofs.Reserved.{counts}
use Rattle.tokens.specs.Cuts.{before, after}
use Rattle.tokens.specs.Tokens.{token_of, words, tokens, present, value, given, space, equals}
use Rattle.tokens.specs.Steps.{words_from, word_at}
use Rattle.tokens.proofs.Parts.{before-take, after-drop}
use Rattle.tokens.proofs.Words.{words-start, words-next, words-end}
use Rattle.line_places.specs.Places.{no_place, place_at, place_from, value_at}
use Rattle.line_places.specs.declared.Place.{Place}
use Rattle.line_places.proofs.Walk.{map_at}

drop-take : (m n : ℕ) (l : List ℕ) → drop m (take n l) ≡ take (n - m) (drop m l)
drop-take zero n l = let z : n - 0 ≡ n = omega arith in rw z
drop-take (suc m) zero l = let z : 0 - suc m ≡ 0 = omega arith in rw z
drop-take (suc m) (suc n) [] = sym (take_all (suc n - suc m) [] (omega arith))
drop-take (suc m) (suc n) (x ∷ l) = drop-take m n l ∙ let z : n - m ≡ suc n - suc m = omega arith in rw z

-- the value of the word at a place
value_there : (t : List ℕ) (at : ℕ) (w : List ℕ) → w ≡ word_at at t → take (length (after equals w)) (drop (at + length (before equals w) + 1) t) ≡ after equals w
value_there t at w e =
    let b = suc (length (before equals w)) in
    let f : w ≡ take (length w) (drop at t) = e ∙ before-take space (drop at t) ∙ ap (λ (x : List ℕ). take (length x) (drop at t)) (sym e) in
    let g : after equals w ≡ drop b w = after-drop equals w in
    let n : length (after equals w) ≡ length w - b = ap length g ∙ length-drop b w in
    let z : at + b ≡ at + length (before equals w) + 1 = omega arith in
    ap (λ (i : ℕ). take i (drop (at + length (before equals w) + 1) t)) n
    ∙ ap (λ (i : ℕ). take (length w - b) (drop i t)) (sym z)
    ∙ ap (take (length w - b)) (sym (drop-drop b at t))
    ∙ sym (drop-take b (length w) (drop at t))
    ∙ ap (drop b) (sym f)
    ∙ sym g

module _ (t k : List ℕ) where
  -- a word that stands at the place, and those behind it
  there : (w : List ℕ) (ws : List (List ℕ)) (at : ℕ) → words_from at t ≡ w ∷ ws → (b : Bool) → (at ≤? length t) ≡ b → (w ≡ word_at at t) × (words_from (at + length w + 1) t ≡ ws)
  there w ws at e true q =
      let f = sym (words-next t at (leb-true at (length t) q)) ∙ e in
      let g : word_at at t ≡ w = cc in
      let h : words_from (at + length (word_at at t) + 1) t ≡ ws = cc in
      (sym g, ap (λ (x : List ℕ). words_from (at + length x + 1) t) (sym g) ∙ h)
  there w ws at e false q =
      let f = sym (words-end t at (leb-false at (length t) q)) ∙ e in
      let z : ◌≡◌ {A = ℕ} 0 1 = cc in absurd (omega arith)

  value-from : (ws : List (List ℕ)) (at : ℕ) → words_from at t ≡ ws → value_at t (place_from at ws k) ≡ given k (map token_of ws)
  unfolding place_from present value
  value-from [] at e = refl
  value-from (w ∷ ws) at e =
      let f = there w ws at e (at ≤? length t) refl in
      go (same k (before equals w)) f.0 (value-from ws (at + length w + 1) f.1)
    where
      go : (b : Bool) → w ≡ word_at at t → value_at t (place_from (at + length w + 1) ws k) ≡ given k (map token_of ws)
          → value_at t (if b then place_at (at + length (before equals w) + 1) (length (after equals w)) else place_from (at + length w + 1) ws k) ≡ (if b or present k (map token_of ws) then Some (if b then after equals w else value k (map token_of ws)) else None)
      go true f h = ap Some (value_there t at w f)
      go false f h = h

  pub place-value : value_at t (place_from 0 (words t) k) ≡ given k (tokens t)
  place-value = value-from (words t) 0 (sym (words-start t))

  -- as the table of places has them
  module _ (slots : List (Option Place)) (e : slots ≡ map (place_from 0 (words t)) reserved_keys) (i : ℕ) (l : i < 13) (is_key : get_or reserved_keys i [] ≡ k) where
    slot_is : get_or slots i no_place ≡ place_from 0 (words t) k
    slot_is =
        ap (λ (p : List (Option Place)). get_or p i no_place) e
        ∙ map_at (place_from 0 (words t)) reserved_keys i no_place [] (omega (arith, counts.1))
        ∙ ap (place_from 0 (words t)) is_key

    pub slot-value : value_at t (get_or slots i no_place) ≡ given k (tokens t)
    slot-value = ap (value_at t) slot_is ∙ place-value
