-- Every public function leaves one outcome and asks nothing.
use mathlib.Core.Path.{sym, ◌∙◌}
use Rattle.octets.specs.Unique.{One, Free}
use Rattle.replies.proofs.say.Kinds as say-kinds
use Rattle.replies.proofs.say.Reads as say-reads

pub say-one : One 2 say-kinds.ps say-kinds.r say-reads.Post
say-one κs a x y v w p q = (p.0 ∙ sym q.0, λ i. (tt, (tt, ((p.1 ∙ sym q.1) i, tt))))

pub say-free : Free 2 say-kinds.ps say-reads.Pre
say-free κs a = tt
