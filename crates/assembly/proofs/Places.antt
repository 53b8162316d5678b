-- A part of a buffer after bytes were placed in it: what was placed, where they were placed; elsewhere as it was.
use mathlib.Core.Path.{◌≡◌, sym, ap, ◌∙◌}
use Prim.Native.Nat.{ℕ, ◌+◌, ◌-◌, ◌≤◌}
use native.Mathlib.Omega.{arith}
use mathlib.Core.List.{List, ◌++◌}
use lib.ListN.{length, take, drop, length-drop, take-append-drop}
use lib.Seq.{take-append_seam, take-append-le, drop-append-le, drop-append-add, drop_at, drop-drop, length-take-le}
use Rattle.octets.specs.Bytes.{placed}
use Rattle.octets.proofs.Lists.{placed-in}

-- a part that lies in the first of two lists
part_left : (a r : List ℕ) (from len : ℕ) → from + len ≤ length a → take len (drop from (a ++ r)) ≡ take len (drop from a)
part_left a r from len h = ap (take len) (drop-append-le from a r (omega arith)) ∙ take-append-le len (drop from a) r (rw length-drop (omega arith))

module _ (w : List ℕ) (at : ℕ) (l : List ℕ) (h : at + length w ≤ length l) where
  front_length : length (take at l) ≡ at
  front_length = length-take-le at l (omega arith)

  pub placed-here : take (length w) (drop at (placed w at l)) ≡ w
  placed-here =
      ap (λ (s : List ℕ). take (length w) (drop at s)) (placed-in w at l h)
      ∙ ap (take (length w)) (drop_at (take at l) (w ++ drop (at + length w) l) at front_length)
      ∙ take-append_seam w (drop (at + length w) l)

  module _ (from len : ℕ) where
    pub placed-before : from + len ≤ at → take len (drop from (placed w at l)) ≡ take len (drop from l)
    placed-before k =
        let n = front_length in
        ap (λ (s : List ℕ). take len (drop from s)) (placed-in w at l h)
        ∙ part_left (take at l) (w ++ drop (at + length w) l) from len (omega arith)
        ∙ sym (part_left (take at l) (drop at l) from len (omega arith))
        ∙ ap (λ (s : List ℕ). take len (drop from s)) (take-append-drop at l)

    pub placed-behind : at + length w ≤ from → take len (drop from (placed w at l)) ≡ take len (drop from l)
    placed-behind k =
        let n = front_length in
        let d = from - (at + length w) in
        let a : from ≡ length (take at l) + (length w + d) = omega arith in
        let b : at + length w + d ≡ from = omega arith in
        ap (λ (s : List ℕ). take len (drop from s)) (placed-in w at l h)
        ∙ ap (λ (m : ℕ). take len (drop m (take at l ++ (w ++ drop (at + length w) l)))) a
        ∙ ap (take len) (drop-append-add (take at l) (w ++ drop (at + length w) l) (length w + d) ∙ drop-append-add w (drop (at + length w) l) d ∙ drop-drop d (at + length w) l)
        ∙ ap (λ (m : ℕ). take len (drop m l)) b
