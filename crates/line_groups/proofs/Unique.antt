-- Every public function leaves one outcome and asks nothing.
use mathlib.Core.Path.{refl, sym, ◌∙◌}
use Rattle.octets.specs.Unique.{One, Free}
use Rattle.line_groups.proofs.read_payload.Kinds as read-payload-kinds
use Rattle.line_groups.proofs.read_payload.Reads as read-payload-reads
use Rattle.line_groups.proofs.read_singles.Kinds as read-singles-kinds
use Rattle.line_groups.proofs.read_singles.Reads as read-singles-reads
use Rattle.line_groups.proofs.read_fragment.Kinds as read-fragment-kinds
use Rattle.line_groups.proofs.read_fragment.Reads as read-fragment-reads
use Rattle.line_groups.proofs.read_stream.Kinds as read-stream-kinds
use Rattle.line_groups.proofs.read_stream.Reads as read-stream-reads

pub read-payload-one : One 3 read-payload-kinds.ps read-payload-kinds.r read-payload-reads.Post
read-payload-one κs a x y v w p q = (p ∙ sym q, refl)

pub read-payload-free : Free 3 read-payload-kinds.ps read-payload-reads.Pre
read-payload-free κs a = tt

pub read-singles-one : One 3 read-singles-kinds.ps read-singles-kinds.r read-singles-reads.Post
read-singles-one κs a x y v w p q = (p ∙ sym q, refl)

pub read-singles-free : Free 3 read-singles-kinds.ps read-singles-reads.Pre
read-singles-free κs a = tt

pub read-fragment-one : One 2 read-fragment-kinds.ps read-fragment-kinds.r read-fragment-reads.Post
read-fragment-one κs a x y v w p q = (p ∙ sym q, refl)

pub read-fragment-free : Free 2 read-fragment-kinds.ps read-fragment-reads.Pre
read-fragment-free κs a = tt

pub read-stream-one : One 3 read-stream-kinds.ps read-stream-kinds.r read-stream-reads.Post
read-stream-one κs a x y v w p q = (p ∙ sym q, refl)

pub read-stream-free : Free 3 read-stream-kinds.ps read-stream-reads.Pre
read-stream-free κs a = tt
