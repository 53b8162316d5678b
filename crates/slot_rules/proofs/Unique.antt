-- Every public function leaves one outcome and asks nothing.
use mathlib.Core.Path.{refl, sym, ◌∙◌}
use Rattle.octets.specs.Unique.{One, Free}
use Rattle.slot_rules.proofs.test.Kinds as test-kinds
use Rattle.slot_rules.proofs.test.Reads as test-reads

pub test-one : One 0 test-kinds.ps test-kinds.r test-reads.Post
test-one κs a x y v w p q = (p ∙ sym q, refl)

pub test-free : Free 0 test-kinds.ps test-reads.Pre
test-free κs a = tt
