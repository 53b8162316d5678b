-- Every public function leaves one outcome and asks nothing.
use mathlib.Core.Path.{refl, sym, ◌∙◌}
use Rattle.octets.specs.Unique.{One, Free}
use Rattle.phrases.proofs.kind_of.Kinds as kind-of-kinds
use Rattle.phrases.proofs.kind_of.Reads as kind-of-reads
use Rattle.phrases.proofs.is_data.Kinds as is-data-kinds
use Rattle.phrases.proofs.is_data.Reads as is-data-reads

pub kind-of-one : One 1 kind-of-kinds.ps kind-of-kinds.r kind-of-reads.Post
kind-of-one κs a x y v w p q = (p ∙ sym q, refl)

pub kind-of-free : Free 1 kind-of-kinds.ps kind-of-reads.Pre
kind-of-free κs a = tt

pub is-data-one : One 1 is-data-kinds.ps is-data-kinds.r is-data-reads.Post
is-data-one κs a x y v w p q = (p ∙ sym q, refl)

pub is-data-free : Free 1 is-data-kinds.ps is-data-reads.Pre
is-data-free κs a = tt
