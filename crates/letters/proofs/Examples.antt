-- A worked case, computed.
use mathlib.Core.Path.{◌≡◌, refl}
use mathlib.Core.List.{[], ◌∷◌}
use Rattle.letters.specs.Letters.{upper, folded}

-- a, z, A and Z, with the bytes beside each; `-`, digits, and a byte above 127: only a and z are folded
letters-alone : folded (96 ∷ 97 ∷ 122 ∷ 123 ∷ 64 ∷ 65 ∷ 90 ∷ 91 ∷ 45 ∷ 48 ∷ 57 ∷ 225 ∷ []) ≡ 96 ∷ 65 ∷ 90 ∷ 123 ∷ 64 ∷ 65 ∷ 90 ∷ 91 ∷ 45 ∷ 48 ∷ 57 ∷ 225 ∷ []
unfolding upper
letters-alone = refl
