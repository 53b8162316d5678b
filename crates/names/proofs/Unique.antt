-- Every public function leaves one outcome and asks nothing.
use mathlib.Core.Path.{refl, sym, ◌∙◌}
use Rattle.octets.specs.Unique.{One, Free}
use Rattle.names.proofs.is_stream_id.Kinds as is-stream-id-kinds
use Rattle.names.proofs.is_stream_id.Reads as is-stream-id-reads
use Rattle.names.proofs.reserved_place.Kinds as reserved-place-kinds
use Rattle.names.proofs.reserved_place.Reads as reserved-place-reads
use Rattle.names.proofs.is_header_key.Kinds as is-header-key-kinds
use Rattle.names.proofs.is_header_key.Reads as is-header-key-reads
use Rattle.names.proofs.is_header_value.Kinds as is-header-value-kinds
use Rattle.names.proofs.is_header_value.Reads as is-header-value-reads

pub is-stream-id-one : One 1 is-stream-id-kinds.ps is-stream-id-kinds.r is-stream-id-reads.Post
is-stream-id-one κs a x y v w p q = (p ∙ sym q, refl)

pub is-stream-id-free : Free 1 is-stream-id-kinds.ps is-stream-id-reads.Pre
is-stream-id-free κs a = tt

pub reserved-place-one : One 1 reserved-place-kinds.ps reserved-place-kinds.r reserved-place-reads.Post
reserved-place-one κs a x y v w p q = (p ∙ sym q, refl)

pub reserved-place-free : Free 1 reserved-place-kinds.ps reserved-place-reads.Pre
reserved-place-free κs a = tt

pub is-header-key-one : One 1 is-header-key-kinds.ps is-header-key-kinds.r is-header-key-reads.Post
is-header-key-one κs a x y v w p q = (p ∙ sym q, refl)

pub is-header-key-free : Free 1 is-header-key-kinds.ps is-header-key-reads.Pre
is-header-key-free κs a = tt

pub is-header-value-one : One 1 is-header-value-kinds.ps is-header-value-kinds.r is-header-value-reads.Post
is-header-value-one κs a x y v w p q = (p ∙ sym q, refl)

pub is-header-value-free : Free 1 is-header-value-kinds.ps is-header-value-reads.Pre
is-header-value-free κs a = tt
