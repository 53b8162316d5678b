-- Every public function leaves one outcome and asks nothing.
use mathlib.Core.Path.{refl, sym, ◌∙◌}
use Rattle.octets.specs.Unique.{One, Free}
use Rattle.line_body.proofs.print_body.Kinds as print-body-kinds
use Rattle.line_body.proofs.print_body.Reads as print-body-reads

pub print-body-one : One 0 print-body-kinds.ps print-body-kinds.r print-body-reads.Post
print-body-one κs a x y v w p q = (p ∙ sym q, refl)

pub print-body-free : Free 0 print-body-kinds.ps print-body-reads.Pre
print-body-free κs a = tt
