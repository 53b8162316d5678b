-- The public function leaves one outcome and asks nothing.
use mathlib.Core.Path.{refl, sym, ◌∙◌}
use Rattle.octets.specs.Unique.{One, Free}
use Rattle.image_rows.proofs.read_rows.Kinds as read-rows-kinds
use Rattle.image_rows.proofs.read_rows.Reads as read-rows-reads

pub read-rows-one : One 1 read-rows-kinds.ps read-rows-kinds.r read-rows-reads.Post
read-rows-one κs a x y v w p q = (p ∙ sym q, refl)

pub read-rows-free : Free 1 read-rows-kinds.ps read-rows-reads.Pre
read-rows-free κs a = tt
