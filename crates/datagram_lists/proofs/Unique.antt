-- Every public function leaves one outcome and asks nothing.
use mathlib.Core.Path.{refl, sym, ◌∙◌}
use Rattle.octets.specs.Unique.{One, Free}
use Rattle.datagram_lists.proofs.read_way.Kinds as read-way-kinds
use Rattle.datagram_lists.proofs.read_way.Reads as read-way-reads
use Rattle.datagram_lists.proofs.read_headers.Kinds as read-headers-kinds
use Rattle.datagram_lists.proofs.read_headers.Reads as read-headers-reads

pub read-way-one : One 1 read-way-kinds.ps read-way-kinds.r read-way-reads.Post
read-way-one κs a x y v w p q = (p ∙ sym q, refl)

pub read-way-free : Free 1 read-way-kinds.ps read-way-reads.Pre
read-way-free κs a = tt

pub read-headers-one : One 1 read-headers-kinds.ps read-headers-kinds.r read-headers-reads.Post
read-headers-one κs a x y v w p q = (p ∙ sym q, refl)

pub read-headers-free : Free 1 read-headers-kinds.ps read-headers-reads.Pre
read-headers-free κs a = tt
