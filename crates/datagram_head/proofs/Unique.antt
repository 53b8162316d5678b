-- Every public function leaves one outcome and asks nothing.
use mathlib.Core.Path.{sym, ◌∙◌}
use Rattle.octets.specs.Unique.{One, Free}
use Rattle.datagram_head.proofs.write_head.Kinds as write-head-kinds
use Rattle.datagram_head.proofs.write_head.Reads as write-head-reads

pub write-head-one : One 1 write-head-kinds.ps write-head-kinds.r write-head-reads.Post
write-head-one κs a x y v w p q = (p.0 ∙ sym q.0, λ i. (tt, (tt, ((p.2 ∙ sym q.2) i, tt))))

pub write-head-free : Free 1 write-head-kinds.ps write-head-reads.Pre
write-head-free κs a = tt
