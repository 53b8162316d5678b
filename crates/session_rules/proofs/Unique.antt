-- Every public function leaves one outcome and asks nothing.
use mathlib.Core.Path.{refl, sym, ◌∙◌}
use Rattle.octets.specs.Unique.{One, Free}
use Rattle.refusals.proofs.Told.{one-test}
use Rattle.session_rules.proofs.refusal.Kinds as refusal-kinds
use Rattle.session_rules.proofs.refusal.Reads as refusal-reads

pub refusal-one : One 1 refusal-kinds.ps refusal-kinds.r refusal-reads.Post
refusal-one κs a x y v w p q = (one-test x y (p ∙ sym q), refl)

pub refusal-free : Free 1 refusal-kinds.ps refusal-reads.Pre
refusal-free κs a = tt
