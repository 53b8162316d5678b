-- Every public function leaves one outcome and asks nothing.
use mathlib.Core.Path.{refl, sym, ◌∙◌}
use Rattle.octets.specs.Unique.{One, Free}
use Rattle.groupsweep.proofs.sweep_all.Kinds as sweep-all-kinds
use Rattle.groupsweep.proofs.sweep_all.Reads as sweep-all-reads
use Rattle.groupsweep.proofs.stands_complete.Kinds as stands-complete-kinds
use Rattle.groupsweep.proofs.stands_complete.Reads as stands-complete-reads

pub sweep-all-one : One 0 sweep-all-kinds.ps sweep-all-kinds.r sweep-all-reads.Post
sweep-all-one κs a x y v w p q = (p ∙ sym q, refl)

pub sweep-all-free : Free 0 sweep-all-kinds.ps sweep-all-reads.Pre
sweep-all-free κs a = tt

pub stands-complete-one : One 0 stands-complete-kinds.ps stands-complete-kinds.r stands-complete-reads.Post
stands-complete-one κs a x y v w p q = (p ∙ sym q, refl)

pub stands-complete-free : Free 0 stands-complete-kinds.ps stands-complete-reads.Pre
stands-complete-free κs a = tt
