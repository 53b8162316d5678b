-- Every public function leaves one outcome and asks nothing.
use mathlib.Core.Path.{◌≡◌, refl, sym, ap, ◌∙◌}
use Rattle.octets.specs.Unique.{One, Free}
use Rattle.std.specs.Prelude.{ℕ, Result, Ok, Err}
use Rattle.refusals.specs.declared.Refusal.{Refusal}
use Rattle.refusals.specs.Refusals.{number_of}
use Rattle.refusals.proofs.Told.{one-refusal}
use Rattle.rows.proofs.Unique.{one-accepting}
use Rattle.image.specs.declared.Loaded.{Loaded}
use Rattle.image.specs.Answer.{SaveOutcome, saving, loaded_says}
use Rattle.image.proofs.save.Kinds as save-kinds
use Rattle.image.proofs.save.Reads as save-reads
use Rattle.image.proofs.load.Kinds as load-kinds
use Rattle.image.proofs.load.Reads as load-reads

-- what an answer says is said by that answer only
one-saved : (a b : Result ℕ Refusal) → saving a ≡ saving b → a ≡ b
one-saved (Ok m) (Ok n) e = cc
one-saved (Ok m) (Err n) e = cc
one-saved (Err m) (Ok n) e = cc
one-saved (Err m) (Err n) e = let p : number_of m ≡ number_of n = cc in ap (λ (r : Refusal). Err r) (one-refusal m n p)

one-loaded : (x y : Loaded) → loaded_says x ≡ loaded_says y → x ≡ y
one-loaded x y e = let a = one-accepting x.answer y.answer (ap (λ o. o.answer) e) in λ i. record { answer = a i; table = (e i).after }

pub save-one : One 1 save-kinds.ps save-kinds.r save-reads.Post
save-one κs a x y v w p q =
    let e = p ∙ sym q in
    (one-saved x y (ap (λ (o : SaveOutcome). o.answer) e), λ i. (tt, ((e i).buffer, tt)))

pub save-free : Free 1 save-kinds.ps save-reads.Pre
save-free κs a = tt

pub load-one : One 1 load-kinds.ps load-kinds.r load-reads.Post
load-one κs a x y v w p q = (one-loaded x y (p ∙ sym q), refl)

pub load-free : Free 1 load-kinds.ps load-reads.Pre
load-free κs a = tt
