-- The one public function leaves one outcome and asks nothing.
use mathlib.Core.Path.{refl, sym, ◌∙◌}
use Rattle.octets.specs.Unique.{One, Free}
use Rattle.refusals.proofs.Refusal.number.Kinds as number-kinds
use Rattle.refusals.proofs.Refusal.number.Reads as number-reads

pub number-one : One 0 number-kinds.ps number-kinds.r number-reads.Post
number-one κs a x y v w p q = (p ∙ sym q, refl)

pub number-free : Free 0 number-kinds.ps number-reads.Pre
number-free κs a = tt
