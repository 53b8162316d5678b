-- The first n elements of an array: those from a place on decide whether every one passes a test.
use Prim.Native.Nat.{ℕ, ◌+◌, ◌≤◌, ◌<◌}
use mathlib.Core.Path.{◌≡◌, ap, ◌∙◌}
use mathlib.Core.Bool.{Bool, true, false}
use mathlib.Core.List.{List}
use native.Mathlib.Omega.{arith}
use lib.ListN.{length, get_or, take, drop}
use lib.Seq.{length-take-le, get_or-take}
use Rattle.octets.specs.Words.{every}
use Rattle.octets.proofs.Lists.{every-next, every-not, every-end}

module _ {A : Type 0} (p : A → Bool) (l : List A) (n i : ℕ) (room : n ≤ length l) where
  pub item-next : (d : A) → i < n → p (get_or l i d) ≡ true → every p (drop i (take n l)) ≡ every p (drop (i + 1) (take n l))
  item-next d h e = every-next p (take n l) i d (omega (arith, length-take-le n l room)) (ap p (get_or-take n l i d h) ∙ e)

  pub item-not : (d : A) → i < n → p (get_or l i d) ≡ false → every p (drop i (take n l)) ≡ false
  item-not d h e = every-not p (take n l) i d (omega (arith, length-take-le n l room)) (ap p (get_or-take n l i d h) ∙ e)

  pub item-end : i ≡ n → every p (drop i (take n l)) ≡ true
  item-end e = every-end p (take n l) i (omega (arith, length-take-le n l room))
