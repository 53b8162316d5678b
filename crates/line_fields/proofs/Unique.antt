-- Every public function leaves one outcome and asks nothing.
use mathlib.Core.Path.{refl, sym, ◌∙◌}
use Rattle.octets.specs.Unique.{One, Free}
use Rattle.line_fields.proofs.read_values.Kinds as read-values-kinds
use Rattle.line_fields.proofs.read_values.Reads as read-values-reads

pub read-values-one : One 1 read-values-kinds.ps read-values-kinds.r read-values-reads.Post
read-values-one κs a x y v w p q = (p ∙ sym q, refl)

pub read-values-free : Free 1 read-values-kinds.ps read-values-reads.Pre
read-values-free κs a = tt
