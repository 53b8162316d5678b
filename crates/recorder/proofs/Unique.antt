-- Every public function leaves one outcome and asks nothing.
use mathlib.Core.Path.{refl, sym, ◌∙◌}
use Rattle.octets.specs.Unique.{One, Free}
use Rattle.recorder.proofs.size.Kinds as size-kinds
use Rattle.recorder.proofs.size.Reads as size-reads
use Rattle.recorder.proofs.write.Kinds as write-kinds
use Rattle.recorder.proofs.write.Reads as write-reads

pub size-one : One 0 size-kinds.ps size-kinds.r size-reads.Post
size-one κs a x y v w p q = (p ∙ sym q, refl)

pub size-free : Free 0 size-kinds.ps size-reads.Pre
size-free κs a = tt

pub write-one : One 1 write-kinds.ps write-kinds.r write-reads.Post
write-one κs a x y v w p q = (p.0 ∙ sym q.0, λ i. (tt, (tt, ((p.1 ∙ sym q.1) i, (tt, tt)))))

pub write-free : Free 1 write-kinds.ps write-reads.Pre
write-free κs a = tt
