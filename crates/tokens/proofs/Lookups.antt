-- A key that is not there has no value.
use Prim.Native.Nat.{ℕ}
use mathlib.Core.Path.{◌≡◌, refl, ◌∙◌}
use mathlib.Core.Bool.{false}
use mathlib.Core.List.{List, [], ◌∷◌}
use Rattle.octets.specs.Bytes.{same}
use Rattle.octets.proofs.Tests.{if_no, or_no}
use Rattle.tokens.specs.Tokens.{Token, present, value}

pub value-missing : (k : List ℕ) (ts : List Token) → present k ts ≡ false → value k ts ≡ []
unfolding present value
value-missing k [] e = refl
value-missing k (t ∷ ts) e =
    let f = or_no (same k t.key) (present k ts) e in
    if_no (same k t.key) t.value (value k ts) f.0 ∙ value-missing k ts f.1
