-- Every public function leaves one outcome and asks nothing.
use mathlib.Core.Path.{refl, sym, ◌∙◌}
use Rattle.octets.specs.Unique.{One, Free}
use Rattle.crc16.proofs.crc.Kinds as crc-kinds
use Rattle.crc16.proofs.crc.Reads as crc-reads

pub crc-one : One 1 crc-kinds.ps crc-kinds.r crc-reads.Post
crc-one κs a x y v w p q = (p ∙ sym q, refl)

pub crc-free : Free 1 crc-kinds.ps crc-reads.Pre
crc-free κs a = tt
