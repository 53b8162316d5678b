-- Every public function leaves one outcome and asks nothing.
use mathlib.Core.Path.{refl, sym, ◌∙◌}
use Rattle.octets.specs.Unique.{One, OneSeen, Free}
use Rattle.line_frame.proofs.read_head.Kinds as read-head-kinds
use Rattle.line_frame.proofs.read_head.Reads as read-head-reads
use Rattle.line_frame.proofs.rest.Kinds as rest-kinds
use Rattle.line_frame.proofs.rest.Reads as rest-reads

pub read-head-one : One 1 read-head-kinds.ps read-head-kinds.r read-head-reads.Post
read-head-one κs a x y v w p q = (p ∙ sym q, refl)

pub read-head-free : Free 1 read-head-kinds.ps read-head-reads.Pre
read-head-free κs a = tt

pub rest-one : OneSeen 1 rest-kinds.ps rest-kinds.r (λ κs x. x.now) rest-reads.Post
rest-one κs a x y v w p q = (p ∙ sym q, refl)

pub rest-free : Free 1 rest-kinds.ps rest-reads.Pre
rest-free κs a = tt
