-- The words in which every definition is written: tests that compute, a choice by a test, and tests of every element of a list.
use Rattle.std.specs.Prelude.{ℕ, Bool, List, ltb, leb, eqb, ◌&&◌, ◌||◌, not}
use Rattle.std.specs.List.{list_all, list_any}

infixr 30 ◌and◌
infixr 25 ◌or◌
infix 40 ◌<?◌
infix 40 ◌≤?◌
infix 40 ◌=?◌
abbrev pub ◌and◌ : Bool → Bool → Bool
a and b = a && b

abbrev pub ◌or◌ : Bool → Bool → Bool
a or b = a || b

abbrev pub no : Bool → Bool
no b = not b

abbrev pub ◌<?◌ : ℕ → ℕ → Bool
a <? b = ltb a b

abbrev pub ◌≤?◌ : ℕ → ℕ → Bool
a ≤? b = leb a b

abbrev pub ◌=?◌ : ℕ → ℕ → Bool
a =? b = eqb a b

-- x is one of the numbers from low to high
abbrev pub between : ℕ → ℕ → ℕ → Bool
between low high x = low ≤? x and x ≤? high

-- every element passes the test
abbrev pub every : {A : Type 0} → (A → Bool) → List A → Bool
every p l = list_all p l

-- some element passes the test
abbrev pub some : {A : Type 0} → (A → Bool) → List A → Bool
some p l = list_any p l
