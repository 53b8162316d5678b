-- Tests: what a choice comes to where its test is known, and what `and`, `or` and `no` say of their parts.
use Rattle.std.specs.Prelude.{if◌then◌else◌}
use mathlib.Core.Path.{◌≡◌, refl}
use mathlib.Core.Bool.{Bool, true, false}
use Prim.Native.Nat.{ℕ, ◌≤◌, ◌<◌}
use native.Mathlib.Omega.{arith}
use borrow.Author.Tests.{le-leb, lt-leb, leb-true}
use Rattle.octets.specs.Words.{◌and◌, ◌or◌, no, between, ◌≤?◌}

pub if_yes : {A : Type 0} (t : Bool) (a b : A) → t ≡ true → (if t then a else b) ≡ a
if_yes t a b e = rw e

pub if_no : {A : Type 0} (t : Bool) (a b : A) → t ≡ false → (if t then a else b) ≡ b
if_no t a b e = rw e

pub true-not-false : {A : Type 0} (t : Bool) → t ≡ true → t ≡ false → A
true-not-false t p q = let z : ◌≡◌ {A = ℕ} 0 1 = cc in absurd (omega arith)

pub and_left : (a b : Bool) → a and b ≡ true → a ≡ true
and_left true b e = refl
and_left false b e = e

pub and_right : (a b : Bool) → a and b ≡ true → b ≡ true
and_right true b e = e
and_right false b e = true-not-false false e refl

pub and_both : (a b : Bool) → a ≡ true → b ≡ true → a and b ≡ true
and_both a b p q = rw (p, q)

pub and-not-left : (a b : Bool) → a ≡ false → a and b ≡ false
and-not-left a b e = rw e

pub and-not-right : (a b : Bool) → b ≡ false → a and b ≡ false
and-not-right true b e = e
and-not-right false b e = refl

pub and-next : (a b : Bool) → a ≡ true → a and b ≡ b
and-next a b e = rw e

pub and-true : (a : Bool) → a and true ≡ a
and-true true = refl
and-true false = refl

pub and_assoc : (a b c : Bool) → a and (b and c) ≡ (a and b) and c
and_assoc true b c = refl
and_assoc false b c = refl

pub or_left : (a b : Bool) → a ≡ true → a or b ≡ true
or_left a b e = rw e

pub or-next : (a b : Bool) → a ≡ false → a or b ≡ b
or-next a b e = rw e

pub or_no : (a b : Bool) → a or b ≡ false → (a ≡ false) × (b ≡ false)
or_no true b e = true-not-false true refl e
or_no false b e = (refl, e)

pub no_true : (t : Bool) → t ≡ true → no t ≡ false
no_true t e = rw e

pub no_false : (t : Bool) → t ≡ false → no t ≡ true
no_false t e = rw e

-- a number between its bounds, or outside them
pub inside : (low high x : ℕ) → low ≤ x → x ≤ high → between low high x ≡ true
inside low high x p q = and_both _ _ (le-leb low x p) (le-leb x high q)

pub below : (low high x : ℕ) → x < low → between low high x ≡ false
below low high x p = and-not-left _ _ (lt-leb low x p)

pub above : (low high x : ℕ) → high < x → between low high x ≡ false
above low high x p = and-not-right (low ≤? x) _ (lt-leb x high p)

pub inside-low : (low high x : ℕ) → between low high x ≡ true → low ≤ x
inside-low low high x e = leb-true low x (and_left _ _ e)

pub inside-high : (low high x : ℕ) → between low high x ≡ true → x ≤ high
inside-high low high x e = leb-true x high (and_right (low ≤? x) _ e)
