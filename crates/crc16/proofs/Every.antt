-- What one computed test says of every number below a bound.
use mathlib.Core.Path.{◌≡◌}
use mathlib.Core.Bool.{Bool, true}
use Prim.Native.Nat.{ℕ, zero, suc, ◌<◌}
use native.Mathlib.Decide.{dec_lt}
use native.Mathlib.Omega.{arith}
use borrow.Author.Tests.{eqb-true}
use Rattle.octets.specs.Words.{◌and◌, ◌=?◌}
use Rattle.octets.proofs.Tests.{and_left, and_right}

-- f and g agree at every number below n
abbrev pub agree : (ℕ → ℕ) → (ℕ → ℕ) → ℕ → Bool
agree f g zero = true
agree f g (suc n) = f n =? g n and agree f g n

pub agreed : (f g : ℕ → ℕ) (n : ℕ) → agree f g n ≡ true → (k : ℕ) → k < n → f k ≡ g k
agreed f g zero t k h = absurd (omega arith)
agreed f g (suc n) t k h = by (agreed f g n (and_right (f n =? g n) (agree f g n) t) k) (dec_lt k n)
  where
    by : (k < n → f k ≡ g k) → Dec (k < n) → f k ≡ g k
    by before (yes p) = before p
    by before (no p) =
        let e : k ≡ n = omega arith in
        rw e (eqb-true (f n) (g n) (and_left (f n =? g n) (agree f g n) t))
