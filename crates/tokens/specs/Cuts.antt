-- A text cut at a byte.
use Rattle.std.specs.Prelude.{ℕ, Bool, List}
use Rattle.std.specs.List.{before_first, after_first, slice_split}
use Rattle.octets.specs.Words.{◌=?◌, some}

-- the byte c stands in the text
unfoldable pub has : ℕ → List ℕ → Bool
has c s = some (λ x. x =? c) s

-- what stands before the first c, and what stands behind it
unfoldable pub before : ℕ → List ℕ → List ℕ
before c s = before_first (λ x. x =? c) s

unfoldable pub after : ℕ → List ℕ → List ℕ
after c s = after_first (λ x. x =? c) s

-- the texts between the c's, one more than there are c's
unfoldable pub split : ℕ → List ℕ → List (List ℕ)
split c s = slice_split (λ x. x =? c) s
