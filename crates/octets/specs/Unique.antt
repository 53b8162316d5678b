-- What every public contract must show: it leaves one outcome only, and it asks nothing of its caller.
-- Both speak of the contract as the check itself reads it (the modules `Kinds` and `Reads` that the check makes for each function).
use Rattle.std.specs.Prelude.{◌≡◌, List, ℕ}
use contract.Lifetimes.{Lfts}
use denote.Triple.Clauses.{Lasts, at_exit}
use borrow.Fn.Kinds.{ParamKind, ResultKind, In, Out, Dens, res_t, ended_of}

-- any two outcomes that the contract allows for the same arguments coincide: the result, and what stands behind each `&mut` at the end
-- (n is the number of the signature's lifetimes)
abbrev pub One : (n : ℕ) (ps : List (ParamKind n)) (r : ResultKind n) → Out n ps r → Type 0
One n ps r P =
    (κs : Lfts n) (a : Dens κs ps) (x y : (res_t r κs).Denot) (v w : Lasts (ended_of n ps r) κs a)
    → P κs a x (at_exit (ended_of n ps r) κs a v) → P κs a y (at_exit (ended_of n ps r) κs a w) → (x ≡ y) × (v ≡ w)

-- the same of a function that returns a part of what it was lent: any two outcomes coincide in what is seen of the result
-- (where a part lies in memory is no part of an outcome)
abbrev pub OneSeen : (n : ℕ) (ps : List (ParamKind n)) (r : ResultKind n) {B : Type 0} → ((κs : Lfts n) → (res_t r κs).Denot → B) → Out n ps r → Type 0
OneSeen n ps r see P =
    (κs : Lfts n) (a : Dens κs ps) (x y : (res_t r κs).Denot) (v w : Lasts (ended_of n ps r) κs a)
    → P κs a x (at_exit (ended_of n ps r) κs a v) → P κs a y (at_exit (ended_of n ps r) κs a w) → (see κs x ≡ see κs y) × (v ≡ w)

-- the contract has no `requires`
abbrev pub Free : (n : ℕ) (ps : List (ParamKind n)) → In n ps → Type 0
Free n ps P = (κs : Lfts n) (a : Dens κs ps) → P κs a
