-- The bytes of one kind that a text begins with, and what follows them: the text without them.
use Rattle.std.specs.Prelude.{if◌then◌else◌}
use Prim.Native.Nat.{ℕ, ◌+◌, ◌-◌}
use mathlib.Core.Path.{◌≡◌, refl, sym, ◌∙◌}
use mathlib.Core.Bool.{Bool, true, false}
use mathlib.Core.List.{List, [], ◌∷◌}
use native.Mathlib.Omega.{arith}
use lib.ListN.{length, take, drop, length-drop}
use lib.Seq.{take_all}
use Rattle.std.proofs.lemmas.List.Sums.{take_while-cons}
use Rattle.callsigns.specs.Runs.{run, rest}

-- the rest of a text as the code lends it
pub tail-part : (s : List ℕ) (n : ℕ) → take (length s - n) (drop n s) ≡ drop n s
tail-part s n = take_all (length s - n) (drop n s) (omega (arith, length-drop n s))

module _ (p : ℕ → Bool) where
  pub run-rest : (s : List ℕ) → length s ≡ length (run p s) + length (rest p s)
  unfolding run rest
  run-rest [] = refl
  run-rest (x ∷ s) = rw (take_while-cons p x s) (go (run-rest s) (p x))
    where
      go : length s ≡ length (run p s) + length (rest p s) → (b : Bool) → length (x ∷ s) ≡ length (if b then x ∷ run p s else []) + length (if b then rest p s else (x ∷ s))
      go e true = omega arith
      go e false = omega arith

  pub rest-drop : (s : List ℕ) → rest p s ≡ drop (length (run p s)) s
  unfolding run rest
  rest-drop [] = refl
  rest-drop (x ∷ s) = rw (take_while-cons p x s) (go (rest-drop s) (p x))
    where
      go : rest p s ≡ drop (length (run p s)) s → (b : Bool) → (if b then rest p s else (x ∷ s)) ≡ drop (length (if b then x ∷ run p s else [])) (x ∷ s)
      go e true = e
      go e false = refl

  pub rest_part : (s : List ℕ) (n : ℕ) → n ≡ length (run p s) → take (length s - n) (drop n s) ≡ rest p s
  rest_part s n e = tail-part s n ∙ rw e (sym (rest-drop s))
