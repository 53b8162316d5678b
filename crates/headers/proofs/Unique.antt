-- Every public function leaves one outcome and asks nothing.
use mathlib.Core.Path.{refl, sym, ◌∙◌}
use Rattle.octets.specs.Unique.{One, Free}
use Rattle.headers.proofs.keys_differ.Kinds as keys-differ-kinds
use Rattle.headers.proofs.keys_differ.Reads as keys-differ-reads
use Rattle.headers.proofs.are_headers.Kinds as are-headers-kinds
use Rattle.headers.proofs.are_headers.Reads as are-headers-reads

pub keys-differ-one : One 0 keys-differ-kinds.ps keys-differ-kinds.r keys-differ-reads.Post
keys-differ-one κs a x y v w p q = (p ∙ sym q, refl)

pub keys-differ-free : Free 0 keys-differ-kinds.ps keys-differ-reads.Pre
keys-differ-free κs a = tt

pub are-headers-one : One 0 are-headers-kinds.ps are-headers-kinds.r are-headers-reads.Post
are-headers-one κs a x y v w p q = (p ∙ sym q, refl)

pub are-headers-free : Free 0 are-headers-kinds.ps are-headers-reads.Pre
are-headers-free κs a = tt
