-- Every public function leaves one outcome and asks nothing.
use mathlib.Core.Path.{refl, sym, ◌∙◌}
use Rattle.octets.specs.Unique.{One, Free}
use Rattle.records.proofs.read.Kinds as read-kinds
use Rattle.records.proofs.read.Reads as read-reads

pub read-one : One 1 read-kinds.ps read-kinds.r read-reads.Post
read-one κs a x y v w p q = (p ∙ sym q, refl)

pub read-free : Free 1 read-kinds.ps read-reads.Pre
read-free κs a = tt
