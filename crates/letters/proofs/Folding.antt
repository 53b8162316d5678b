-- Folding, of a byte and of a text: folding twice is folding once, and the length stays.
use Prim.Native.Nat.{ℕ, zero, suc, ◌-◌, ◌≤◌, ◌<◌}
use mathlib.Core.Path.{◌≡◌, refl, ap}
use mathlib.Core.Bool.{Bool, true, false}
use mathlib.Core.List.{List, [], ◌∷◌}
use native.Mathlib.Omega.{arith}
use lib.ListN.{length, get_or, length-map}
use Rattle.octets.specs.Words.{between}
use Rattle.octets.proofs.Tests.{if_yes, if_no, below, inside-low, inside-high}
use Rattle.letters.specs.Letters.{upper, folded}

-- one of a to z becomes the capital 32 below it; any other byte is itself
pub small-upper : (x : ℕ) → between 97 122 x ≡ true → upper x ≡ x - 32
unfolding upper
small-upper x e = if_yes _ _ _ e

pub other-upper : (x : ℕ) → between 97 122 x ≡ false → upper x ≡ x
unfolding upper
other-upper x e = if_no _ _ _ e

-- what holds of the small letters, and of every other byte, holds of all
module _ (P : ℕ → Type 0) (letter : (x : ℕ) → 97 ≤ x → x ≤ 122 → upper x ≡ x - 32 → P x) (other : (x : ℕ) → upper x ≡ x → P x) where
  pub each : (x : ℕ) → P x
  each x = go (between 97 122 x) refl
    where
      go : (b : Bool) → between 97 122 x ≡ b → P x
      go true e = letter x (inside-low 97 122 x e) (inside-high 97 122 x e) (small-upper x e)
      go false e = other x (other-upper x e)

pub upper-twice : (x : ℕ) → upper (upper x) ≡ upper x
upper-twice =
    each (λ x. upper (upper x) ≡ upper x)
    (λ x p q e. rw e (other-upper (x - 32) (below 97 122 (x - 32) (omega arith))))
    (λ x e. ap upper e)

pub folded-twice : (s : List ℕ) → folded (folded s) ≡ folded s
folded-twice [] = refl
folded-twice (x ∷ s) = let p = upper-twice x in let q = folded-twice s in cc

pub length-folded : (s : List ℕ) → length (folded s) ≡ length s
length-folded s = length-map s upper

pub folded-at : (s : List ℕ) (i : ℕ) → i < length s → get_or (folded s) i 0 ≡ upper (get_or s i 0)
folded-at [] i h = absurd (omega arith)
folded-at (x ∷ s) zero h = refl
folded-at (x ∷ s) (suc i) h = folded-at s i (omega arith)
