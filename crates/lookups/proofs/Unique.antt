-- Every public function leaves one outcome and asks nothing.
use Rattle.std.specs.Prelude.{Result, Ok, Err}
use mathlib.Core.Path.{◌≡◌, refl, sym, ap, ◌∙◌}
use Prim.Native.Nat.{ℕ}
use Rattle.octets.specs.Unique.{One, Free}
use Rattle.refusals.specs.declared.Refusal.{Refusal}
use Rattle.refusals.specs.Refusals.{number_of}
use Rattle.refusals.proofs.Told.{one-refusal}
use Rattle.lookups.specs.Lookup.{target_says, number_says}
use Rattle.lookups.proofs.known.Kinds as known-kinds
use Rattle.lookups.proofs.known.Reads as known-reads
use Rattle.lookups.proofs.known_or_free.Kinds as known-or-free-kinds
use Rattle.lookups.proofs.known_or_free.Reads as known-or-free-reads
use Rattle.lookups.proofs.known_by_number.Kinds as known-by-number-kinds
use Rattle.lookups.proofs.known_by_number.Reads as known-by-number-reads
use Rattle.lookups.proofs.known_or_free_by_number.Kinds as known-or-free-by-number-kinds
use Rattle.lookups.proofs.known_or_free_by_number.Reads as known-or-free-by-number-reads

-- what an answer says is said by that answer only
one-target : (a b : Result ℕ Refusal) → target_says a ≡ target_says b → a ≡ b
one-target (Ok i) (Ok j) e = let p : i ≡ j = cc in cc
one-target (Ok i) (Err n) e = cc
one-target (Err m) (Ok j) e = cc
one-target (Err m) (Err n) e = let p : number_of m ≡ number_of n = cc in ap (λ (r : Refusal). Err r) (one-refusal m n p)

pub known-one : One 0 known-kinds.ps known-kinds.r known-reads.Post
known-one κs a x y v w p q = (one-target x y (p ∙ sym q), refl)

pub known-free : Free 0 known-kinds.ps known-reads.Pre
known-free κs a = tt

pub known-or-free-one : One 0 known-or-free-kinds.ps known-or-free-kinds.r known-or-free-reads.Post
known-or-free-one κs a x y v w p q = (one-target x y (p ∙ sym q), refl)

pub known-or-free-free : Free 0 known-or-free-kinds.ps known-or-free-reads.Pre
known-or-free-free κs a = tt

one-number : (a b : Result ℕ ℕ) → number_says a ≡ number_says b → a ≡ b
one-number (Ok i) (Ok j) e = let p : i ≡ j = cc in cc
one-number (Ok i) (Err n) e = cc
one-number (Err m) (Ok j) e = cc
one-number (Err m) (Err n) e = let p : m ≡ n = cc in cc

pub known-by-number-one : One 0 known-by-number-kinds.ps known-by-number-kinds.r known-by-number-reads.Post
known-by-number-one κs a x y v w p q = (one-number x y (p ∙ sym q), refl)

pub known-by-number-free : Free 0 known-by-number-kinds.ps known-by-number-reads.Pre
known-by-number-free κs a = tt

pub known-or-free-by-number-one : One 0 known-or-free-by-number-kinds.ps known-or-free-by-number-kinds.r known-or-free-by-number-reads.Post
known-or-free-by-number-one κs a x y v w p q = (one-number x y (p ∙ sym q), refl)

pub known-or-free-by-number-free : Free 0 known-or-free-by-number-kinds.ps known-or-free-by-number-reads.Pre
known-or-free-by-number-free κs a = tt
