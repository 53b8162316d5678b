-- Every public function leaves one outcome and asks nothing.
use Rattle.std.proofs.Common.{sym, refl, ◌∙◌}
use Rattle.octets.specs.Unique.{One, Free}
use Rattle.sha1_block.proofs.taken.Kinds as taken-kinds
use Rattle.sha1_block.proofs.taken.Reads as taken-reads
use Rattle.sha1_block.proofs.chain.Kinds as chain-kinds
use Rattle.sha1_block.proofs.chain.Reads as chain-reads

pub taken-one : One 1 taken-kinds.ps taken-kinds.r taken-reads.Post
taken-one κs a x y v w p q = (p ∙ sym q, refl)

pub taken-free : Free 1 taken-kinds.ps taken-reads.Pre
taken-free κs a = tt

pub chain-one : One 1 chain-kinds.ps chain-kinds.r chain-reads.Post
chain-one κs a x y v w p q = (p ∙ sym q, refl)

pub chain-free : Free 1 chain-kinds.ps chain-reads.Pre
chain-free κs a = tt
