-- As many elements as a length says, of an array that may have fewer, as the code lends them.
use Prim.Native.Nat.{ℕ, ◌-◌, min}
use mathlib.Core.Path.{◌≡◌, refl, sym, ◌∙◌}
use mathlib.Core.Bool.{Bool, true, false}
use mathlib.Core.List.{List}
use native.Mathlib.Omega.{arith}
use borrow.Author.Tests.{leb-true, leb-false}
use lib.Dec.{leb}
use lib.ListN.{length, take, drop}
use lib.Seq.{take_all}

pub take-cut : {A : Type 0} (n : ℕ) (l : List A) (room : ℕ) → length l ≡ room → take (min n room) l ≡ take n l
take-cut n l room h = go (leb n room) refl
  where
    go : (b : Bool) → leb n room ≡ b → take (min n room) l ≡ take n l
    go true e = let z : min n room ≡ n = omega (arith, leb-true n room e) in rw z
    go false e =
        let k = leb-false n room e in
        take_all (min n room) l (omega arith) ∙ sym (take_all n l (omega arith))

pub part-front : (n : ℕ) (l : List ℕ) → take (n - 0) (drop 0 l) ≡ take n l
part-front n l = let z : n - 0 ≡ n = omega arith in rw z
