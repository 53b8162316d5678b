-- Every public function leaves one outcome and asks nothing.
use Rattle.std.specs.Prelude.{Result, Ok, Err}
use mathlib.Core.Path.{◌≡◌, refl, ap, sym, ◌∙◌}
use Rattle.octets.specs.Unique.{One, Free}
use Rattle.refusals.specs.declared.Refusal.{Refusal}
use Rattle.refusals.specs.Refusals.{number_of}
use Rattle.refusals.proofs.Told.{one-refusal}
use Rattle.line.specs.Reading.{Read, Refused, Outcome, says}
use Rattle.line.specs.declared.Line.{Line}
use Rattle.line.proofs.read_line.Kinds as read-line-kinds
use Rattle.line.proofs.read_line.Reads as read-line-reads

-- answers that say the same are the same
says-one : (x y : Result Line Refusal) → says x ≡ says y → x ≡ y
says-one (Ok m) (Ok n) e = ap (λ (o : Outcome). Ok o.line) e
says-one (Ok m) (Err r) e = let p : Read ≡ Refused (number_of r) = ap (λ (o : Outcome). o.reading) e in cc
says-one (Err r) (Ok m) e = let p : Refused (number_of r) ≡ Read = ap (λ (o : Outcome). o.reading) e in cc
says-one (Err r) (Err q) e =
    let p : Refused (number_of r) ≡ Refused (number_of q) = ap (λ (o : Outcome). o.reading) e in
    let n : number_of r ≡ number_of q = cc in
    ap (λ (z : Refusal). Err z) (one-refusal r q n)

pub read-line-one : One 1 read-line-kinds.ps read-line-kinds.r read-line-reads.Post
read-line-one κs a x y v w p q = (says-one x y (p ∙ sym q), refl)

pub read-line-free : Free 1 read-line-kinds.ps read-line-reads.Pre
read-line-free κs a = tt
