-- Every public function leaves one outcome and asks nothing.
use mathlib.Core.Path.{refl, sym, ◌∙◌}
use Rattle.octets.specs.Unique.{One, Free}
use Rattle.layout.proofs.no_hops.Kinds as no-hops-kinds
use Rattle.layout.proofs.no_hops.Reads as no-hops-reads
use Rattle.layout.proofs.own_rules.Kinds as own-rules-kinds
use Rattle.layout.proofs.own_rules.Reads as own-rules-reads
use Rattle.layout.proofs.is_valid.Kinds as is-valid-kinds
use Rattle.layout.proofs.is_valid.Reads as is-valid-reads

pub no-hops-one : One 0 no-hops-kinds.ps no-hops-kinds.r no-hops-reads.Post
no-hops-one κs a x y v w p q = (p ∙ sym q, refl)

pub no-hops-free : Free 0 no-hops-kinds.ps no-hops-reads.Pre
no-hops-free κs a = tt

pub own-rules-one : One 1 own-rules-kinds.ps own-rules-kinds.r own-rules-reads.Post
own-rules-one κs a x y v w p q = (p ∙ sym q, refl)

pub own-rules-free : Free 1 own-rules-kinds.ps own-rules-reads.Pre
own-rules-free κs a = tt

pub is-valid-one : One 1 is-valid-kinds.ps is-valid-kinds.r is-valid-reads.Post
is-valid-one κs a x y v w p q = (p ∙ sym q, refl)

pub is-valid-free : Free 1 is-valid-kinds.ps is-valid-reads.Pre
is-valid-free κs a = tt
