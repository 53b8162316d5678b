-- Every public function leaves one outcome and asks nothing.
use mathlib.Core.Path.{refl, sym, ◌∙◌}
use Rattle.octets.specs.Unique.{One, Free}
use Rattle.utf8.proofs.well_formed.Kinds as well-formed-kinds
use Rattle.utf8.proofs.well_formed.Reads as well-formed-reads

pub well-formed-one : One 1 well-formed-kinds.ps well-formed-kinds.r well-formed-reads.Post
well-formed-one κs a x y v w p q = (p ∙ sym q, refl)

pub well-formed-free : Free 1 well-formed-kinds.ps well-formed-reads.Pre
well-formed-free κs a = tt
