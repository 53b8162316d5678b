-- A name begins with bytes of one kind, and something follows them: both parts, for any kind of byte.
use Rattle.std.specs.Prelude.{ℕ, Bool, List, [], ◌∷◌, if◌then◌else◌}
use Rattle.std.specs.List.{take_while}

-- the bytes of the kind p that s begins with
unfoldable pub run : (ℕ → Bool) → List ℕ → List ℕ
run p s = take_while p s

-- what follows them
unfoldable pub rest : (ℕ → Bool) → List ℕ → List ℕ
rest p [] = []
rest p (x ∷ s) = if p x then rest p s else (x ∷ s)
