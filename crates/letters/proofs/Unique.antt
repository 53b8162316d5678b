-- The public function leaves one outcome and asks nothing.
use mathlib.Core.Path.{refl, sym, ◌∙◌}
use Rattle.octets.specs.Unique.{One, Free}
use Rattle.letters.proofs.alike.Kinds as alike-kinds
use Rattle.letters.proofs.alike.Reads as alike-reads

pub alike-one : One 2 alike-kinds.ps alike-kinds.r alike-reads.Post
alike-one κs a x y v w p q = (p ∙ sym q, refl)

pub alike-free : Free 2 alike-kinds.ps alike-reads.Pre
alike-free κs a = tt
