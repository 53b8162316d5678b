-- An answer that a test chose between two: where it is not the one, the test is known, and it is the other.
use Rattle.std.specs.Prelude.{if◌then◌else◌}
use mathlib.Core.Path.{◌≡◌, refl}
use mathlib.Core.Bool.{Bool, true, false}

pub chosen : {A : Type 0} (t : Bool) (a b c : A) → (if t then a else b) ≡ c → (b ≡ c → ⊥) → (t ≡ true) × (a ≡ c)
chosen true a b c e n = (refl, e)
chosen false a b c e n = absurd (n e)

pub unchosen : {A : Type 0} (t : Bool) (a b c : A) → (if t then a else b) ≡ c → (a ≡ c → ⊥) → t ≡ false
unchosen true a b c e n = absurd (n e)
unchosen false a b c e n = refl
