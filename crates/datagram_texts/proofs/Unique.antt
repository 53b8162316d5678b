-- Every public function leaves one outcome and asks nothing.
use mathlib.Core.Path.{refl, sym, ◌∙◌}
use Rattle.octets.specs.Unique.{One, Free}
use Rattle.datagram_texts.proofs.read_hop.Kinds as read-hop-kinds
use Rattle.datagram_texts.proofs.read_hop.Reads as read-hop-reads
use Rattle.datagram_texts.proofs.read_header.Kinds as read-header-kinds
use Rattle.datagram_texts.proofs.read_header.Reads as read-header-reads
use Rattle.datagram_texts.proofs.read_ends.Kinds as read-ends-kinds
use Rattle.datagram_texts.proofs.read_ends.Reads as read-ends-reads
use Rattle.datagram_texts.proofs.read_stream.Kinds as read-stream-kinds
use Rattle.datagram_texts.proofs.read_stream.Reads as read-stream-reads

pub read-hop-one : One 1 read-hop-kinds.ps read-hop-kinds.r read-hop-reads.Post
read-hop-one κs a x y v w p q = (p ∙ sym q, refl)

pub read-hop-free : Free 1 read-hop-kinds.ps read-hop-reads.Pre
read-hop-free κs a = tt

pub read-header-one : One 1 read-header-kinds.ps read-header-kinds.r read-header-reads.Post
read-header-one κs a x y v w p q = (p ∙ sym q, refl)

pub read-header-free : Free 1 read-header-kinds.ps read-header-reads.Pre
read-header-free κs a = tt

pub read-ends-one : One 1 read-ends-kinds.ps read-ends-kinds.r read-ends-reads.Post
read-ends-one κs a x y v w p q = (p ∙ sym q, refl)

pub read-ends-free : Free 1 read-ends-kinds.ps read-ends-reads.Pre
read-ends-free κs a = tt

pub read-stream-one : One 1 read-stream-kinds.ps read-stream-kinds.r read-stream-reads.Post
read-stream-one κs a x y v w p q = (p ∙ sym q, refl)

pub read-stream-free : Free 1 read-stream-kinds.ps read-stream-reads.Pre
read-stream-free κs a = tt
