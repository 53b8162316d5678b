-- Texts held in arrays: what the copy left is the text, then what stood there.
use Prim.Native.Nat.{ℕ, ◌+◌}
use mathlib.Core.Path.{◌≡◌, ap, sym, ◌∙◌}
use mathlib.Core.Bool.{Bool, true, false}
use mathlib.Core.List.{List, []}
use native.Mathlib.Omega.{arith}
use lib.ListN.{length}
use borrow.Author.Tests.{le-leb, lt-leb, leb-true, leb-false}
use Rattle.octets.specs.Bytes.{front, fits, placed}
use Rattle.octets.proofs.Tests.{if_yes, if_no}
use Rattle.octets.proofs.Lists.{placed-in, placed-out}
use Rattle.held_texts.specs.Texts.{fitted}

module _ (s l out : List ℕ) (t : Bool) (fit : t ≡ fits s 0 l) (left : out ≡ placed s 0 l) where
  -- a text that fits is held whole
  pub held_all : t ≡ true → (length s ≡ length (fitted (length l) s)) × (out ≡ front (fitted (length l) s) l)
  unfolding fitted
  held_all e =
      let h = leb-true (0 + length s) (length l) (sym fit ∙ e) in
      let z : 0 + length s ≡ length s = omega arith in
      let w : fitted (length l) s ≡ s = if_yes _ _ _ (le-leb (length s) (length l) (omega arith)) in
      (sym (ap length w), left ∙ placed-in s 0 l h ∙ rw z (sym (ap (λ h. front h l) w)))

  -- one that does not is held as none
  pub held_none : t ≡ false → (0 ≡ length (fitted (length l) s)) × (out ≡ front (fitted (length l) s) l)
  unfolding fitted
  held_none e =
      let h = leb-false (0 + length s) (length l) (sym fit ∙ e) in
      let w : fitted (length l) s ≡ [] = if_no _ _ _ (lt-leb (length s) (length l) (omega arith)) in
      (sym (ap length w), left ∙ placed-out s 0 l h ∙ sym (ap (λ h. front h l) w))
