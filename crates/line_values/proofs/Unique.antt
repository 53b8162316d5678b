-- Every public function leaves one outcome and asks nothing.
use mathlib.Core.Path.{refl, sym, ◌∙◌}
use Rattle.octets.specs.Unique.{One, Free}
use Rattle.line_values.proofs.read_part.Kinds as read-part-kinds
use Rattle.line_values.proofs.read_part.Reads as read-part-reads

pub read-part-one : One 1 read-part-kinds.ps read-part-kinds.r read-part-reads.Post
read-part-one κs a x y v w p q = (p ∙ sym q, refl)

pub read-part-free : Free 1 read-part-kinds.ps read-part-reads.Pre
read-part-free κs a = tt
