-- Every public function leaves one outcome and asks nothing.
use mathlib.Core.Path.{refl, sym, ◌∙◌}
use Rattle.octets.specs.Unique.{One, Free}
use Rattle.envelope.proofs.call_text.Kinds as call-text-kinds
use Rattle.envelope.proofs.call_text.Reads as call-text-reads
use Rattle.envelope.proofs.address_text.Kinds as address-text-kinds
use Rattle.envelope.proofs.address_text.Reads as address-text-reads
use Rattle.envelope.proofs.stream_text.Kinds as stream-text-kinds
use Rattle.envelope.proofs.stream_text.Reads as stream-text-reads
use Rattle.envelope.proofs.blank.Kinds as blank-kinds
use Rattle.envelope.proofs.blank.Reads as blank-reads
use Rattle.envelope.proofs.is_call.Kinds as is-call-kinds
use Rattle.envelope.proofs.is_call.Reads as is-call-reads
use Rattle.envelope.proofs.is_valid.Kinds as is-valid-kinds
use Rattle.envelope.proofs.is_valid.Reads as is-valid-reads

pub call-text-one : One 1 call-text-kinds.ps call-text-kinds.r call-text-reads.Post
call-text-one κs a x y v w p q = (p ∙ sym q, refl)

pub call-text-free : Free 1 call-text-kinds.ps call-text-reads.Pre
call-text-free κs a = tt

pub address-text-one : One 1 address-text-kinds.ps address-text-kinds.r address-text-reads.Post
address-text-one κs a x y v w p q = (p ∙ sym q, refl)

pub address-text-free : Free 1 address-text-kinds.ps address-text-reads.Pre
address-text-free κs a = tt

pub stream-text-one : One 1 stream-text-kinds.ps stream-text-kinds.r stream-text-reads.Post
stream-text-one κs a x y v w p q = (p ∙ sym q, refl)

pub stream-text-free : Free 1 stream-text-kinds.ps stream-text-reads.Pre
stream-text-free κs a = tt

pub blank-one : One 0 blank-kinds.ps blank-kinds.r blank-reads.Post
blank-one κs a x y v w p q = (p ∙ sym q, refl)

pub blank-free : Free 0 blank-kinds.ps blank-reads.Pre
blank-free κs a = tt

pub is-call-one : One 0 is-call-kinds.ps is-call-kinds.r is-call-reads.Post
is-call-one κs a x y v w p q = (p ∙ sym q, refl)

pub is-call-free : Free 0 is-call-kinds.ps is-call-reads.Pre
is-call-free κs a = tt

pub is-valid-one : One 0 is-valid-kinds.ps is-valid-kinds.r is-valid-reads.Post
is-valid-one κs a x y v w p q = (p ∙ sym q, refl)

pub is-valid-free : Free 0 is-valid-kinds.ps is-valid-reads.Pre
is-valid-free κs a = tt
