-- The mark of a stream id: the sum of its bytes, which is small, and the last of them.
use Rattle.std.specs.Prelude.{Option, Some, None}
use Rattle.std.specs.List.{fold, sum, slice_get}
use Rattle.std.proofs.lemmas.Option.{slice_get-get_or}
use mathlib.Core.Path.{◌≡◌, refl, ap, ◌∙◌}
use mathlib.Core.List.{List, [], ◌∷◌}
use Prim.Native.Nat.{ℕ, zero, suc, ◌+◌, ◌*◌, ◌-◌, ◌<◌, ◌≤◌}
use native.Mathlib.Omega.{arith}
use lib.ListN.{length, get_or}
use Rattle.keys.specs.Key.{mark_of}

sum_from : (a : ℕ) (s : List ℕ) → ((i : ℕ) → get_or s i 0 < 256) → fold (λ n x. n + x) a s ≤ a + 255 * length s
sum_from a [] b = omega arith
sum_from a (x ∷ s) b = omega (arith, b zero, sum_from (a + x) s (λ i. b (suc i)))

pub sum-le : (s : List ℕ) → ((i : ℕ) → get_or s i 0 < 256) → sum s ≤ 255 * length s
sum-le s b = omega (arith, sum_from 0 s b)

last-at : (s : List ℕ) → 0 < length s → slice_get s (length s - 1) ≡ Some (get_or s (length s - 1) 0)
last-at s h = slice_get-get_or s (length s - 1) 0 (omega arith)

pub mark-none : (s : List ℕ) → None ≡ slice_get s (length s - 1) → 0 ≡ mark_of s
unfolding mark_of
mark-none [] e = refl
mark-none (x ∷ s) e = let f : ◌≡◌ {A = Option ℕ} None (Some (get_or (x ∷ s) (length (x ∷ s) - 1) 0)) = e ∙ last-at (x ∷ s) (omega arith) in cc

pub mark-last : (s : List ℕ) (n x : ℕ) → n ≡ sum s → Some x ≡ slice_get s (length s - 1) → n * 256 + x ≡ mark_of s
unfolding mark_of
mark-last [] n x p e = cc
mark-last (y ∷ s) n x p e =
    let f : Some x ≡ Some (get_or (y ∷ s) (length (y ∷ s) - 1) 0) = e ∙ last-at (y ∷ s) (omega arith) in
    let g : x ≡ get_or (y ∷ s) (length (y ∷ s) - 1) 0 = cc in
    ap (λ (k : ℕ). k * 256 + x) p ∙ ap (λ (k : ℕ). sum (y ∷ s) * 256 + k) g
