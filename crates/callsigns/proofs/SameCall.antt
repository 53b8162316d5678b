-- Equality of callsigns is an equivalence. Callers use these laws and not what it is made of.
use Prim.Native.Nat.{ℕ}
use mathlib.Core.Path.{◌≡◌}
use mathlib.Core.Bool.{true}
use mathlib.Core.List.{List}
use Rattle.octets.proofs.Lists.{same_refl, same-sym, same-trans}
use Rattle.callsigns.specs.Callsign.{same_call}

pub same_call-refl : (a : List ℕ) → same_call a a ≡ true
unfolding same_call
same_call-refl a = same_refl a

pub same_call-sym : (a b : List ℕ) → same_call a b ≡ true → same_call b a ≡ true
unfolding same_call
same_call-sym a b e = same-sym a b e

pub same_call-trans : (a b c : List ℕ) → same_call a b ≡ true → same_call b c ≡ true → same_call a c ≡ true
unfolding same_call
same_call-trans a b c e f = same-trans a b c e f
