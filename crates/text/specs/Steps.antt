-- What the private functions promise one another; no public promise speaks of it.
use Rattle.std.specs.Prelude.{ℕ, zero, suc, ◌≤◌, List, ℤ, negsuc, Option, Some, None, if◌then◌else◌}
use Rattle.octets.specs.Words.{◌and◌, ◌≤?◌, every}
use Rattle.text.specs.Digits.{worth, is_digit, value}

-- what a digit of the base is worth
abbrev pub worth_in : ℕ → ℕ → Option ℕ
worth_in base b = if is_digit base b then Some (worth b) else None

-- the number up to the limit that the digits of a base spell
abbrev pub spelled : ℕ → ℕ → List ℕ → Option ℕ
spelled base limit s = if every (is_digit base) s and value base s ≤? limit then Some (value base s) else None

-- a number that was read is not above the limit
abbrev pub at_most : ℕ → Option ℕ → Type 0
at_most limit None = Unit
at_most limit (Some m) = m ≤ limit

-- what an unsigned number becomes behind a minus, where 0 is malformed
abbrev pub negated : Option ℕ → Option ℤ
negated None = None
negated (Some zero) = None
negated (Some (suc m)) = Some (negsuc m)
