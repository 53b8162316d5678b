-- Every public function leaves one outcome and asks nothing.
use mathlib.Core.Path.{◌≡◌, refl, sym, ap, ◌∙◌}
use Rattle.octets.specs.Unique.{One, Free}
use Rattle.std.specs.Prelude.{ℕ, Result, Ok, Err}
use Rattle.refusals.specs.declared.Refusal.{Refusal}
use Rattle.refusals.specs.Refusals.{number_of}
use Rattle.refusals.proofs.Told.{one-refusal}
use Rattle.groupcalls.specs.declared.Collected.{Collected}
use Rattle.groupcalls.specs.declared.Served.{Served}
use Rattle.groupcalls.specs.declared.Standing.{Standing}
use Rattle.groupcalls.specs.Answer.{Said, added, gathered, done, refused, saying, says, standing_says, Outcome}
use Rattle.groupcalls.proofs.add.Kinds as add-kinds
use Rattle.groupcalls.proofs.add.Reads as add-reads
use Rattle.groupcalls.proofs.collect.Kinds as collect-kinds
use Rattle.groupcalls.proofs.collect.Reads as collect-reads
use Rattle.groupcalls.proofs.sweep_groups.Kinds as sweep-groups-kinds
use Rattle.groupcalls.proofs.sweep_groups.Reads as sweep-groups-reads
use Rattle.groupcalls.proofs.standing_of.Kinds as standing-of-kinds
use Rattle.groupcalls.proofs.standing_of.Reads as standing-of-reads

-- what an answer says is said by that answer only, where `f` says different things of different values, and no refusal
module _ (A : Type 0) (f : A → Said) (one : (x y : A) → f x ≡ f y → x ≡ y) (other : (x : A) (n : ℕ) → f x ≡ refused n → ⊥) where
  one_answer : (x y : Result A Refusal) → saying f x ≡ saying f y → x ≡ y
  one_answer (Ok x) (Ok y) e = ap {B = Result A Refusal} (λ (v : A). Ok v) (one x y e)
  one_answer (Ok x) (Err r) e = absurd (other x (number_of r) e)
  one_answer (Err r) (Ok y) e = absurd (other y (number_of r) (sym e))
  one_answer (Err r) (Err s) e = let n : number_of r ≡ number_of s = cc in ap {B = Result A Refusal} (λ (v : Refusal). Err v) (one-refusal r s n)

  one-served : (x y : Served A) → says f x ≡ says f y → x ≡ y
  one-served x y e = let a = one_answer x.answer y.answer (ap (λ (o : Outcome). o.answer) e) in λ i. record { answer = a i; groups = (e i).after }

pub one-added : (x y : Served ℕ) → says added x ≡ says added y → x ≡ y
one-added = one-served ℕ (λ g. added g) (λ m n e. cc) (λ x n e. cc)

pub one-gathered : (x y : Served Collected) → says gathered x ≡ says gathered y → x ≡ y
one-gathered = one-served Collected gathered (λ x y e. one-collected x y e) (λ x n e. cc)
  where
    one-collected : (x y : Collected) → gathered x ≡ gathered y → x ≡ y
    one-collected x y e = let g : x.group ≡ y.group = cc in let n : x.len ≡ y.len = cc in λ i. record { group = g i; len = n i }

pub one-done : (x y : Served (Unit {0})) → says done x ≡ says done y → x ≡ y
one-done = one-served (Unit {0}) done (λ x y e. refl) (λ x n e. cc)

one-standing : (x y : Result Standing Refusal) → standing_says x ≡ standing_says y → x ≡ y
one-standing (Ok Standing.Complete) (Ok Standing.Complete) e = refl
one-standing (Ok Standing.Complete) (Ok Standing.Incomplete) e = cc
one-standing (Ok Standing.Complete) (Err r) e = cc
one-standing (Ok Standing.Incomplete) (Ok Standing.Complete) e = cc
one-standing (Ok Standing.Incomplete) (Ok Standing.Incomplete) e = refl
one-standing (Ok Standing.Incomplete) (Err r) e = cc
one-standing (Err r) (Ok Standing.Complete) e = cc
one-standing (Err r) (Ok Standing.Incomplete) e = cc
one-standing (Err r) (Err s) e = let n : number_of r ≡ number_of s = cc in ap {B = Result Standing Refusal} (λ (v : Refusal). Err v) (one-refusal r s n)

pub add-one : One 1 add-kinds.ps add-kinds.r add-reads.Post
add-one κs a x y v w p q = (one-added x y (p ∙ sym q), refl)

pub add-free : Free 1 add-kinds.ps add-reads.Pre
add-free κs a = tt

pub collect-one : One 1 collect-kinds.ps collect-kinds.r collect-reads.Post
collect-one κs a x y v w p q = (one-gathered x y (p ∙ sym q), refl)

pub collect-free : Free 1 collect-kinds.ps collect-reads.Pre
collect-free κs a = tt

pub sweep-groups-one : One 0 sweep-groups-kinds.ps sweep-groups-kinds.r sweep-groups-reads.Post
sweep-groups-one κs a x y v w p q = (one-done x y (p ∙ sym q), refl)

pub sweep-groups-free : Free 0 sweep-groups-kinds.ps sweep-groups-reads.Pre
sweep-groups-free κs a = tt

pub standing-of-one : One 0 standing-of-kinds.ps standing-of-kinds.r standing-of-reads.Post
standing-of-one κs a x y v w p q = (one-standing x y (p ∙ sym q), refl)

pub standing-of-free : Free 0 standing-of-kinds.ps standing-of-reads.Pre
standing-of-free κs a = tt
