-- Every public function leaves one outcome and asks nothing.
use mathlib.Core.Path.{refl, sym, ◌∙◌}
use Rattle.octets.specs.Unique.{One, Free}
use Rattle.slots.proofs.Slot.free.Kinds as free-kinds
use Rattle.slots.proofs.Slot.free.Reads as free-reads
use Rattle.slots.proofs.Slot.open_keeps_rules.Kinds as open-keeps-rules-kinds
use Rattle.slots.proofs.Slot.open_keeps_rules.Reads as open-keeps-rules-reads
use Rattle.slots.proofs.Slot.free_keeps_rules.Kinds as free-keeps-rules-kinds
use Rattle.slots.proofs.Slot.free_keeps_rules.Reads as free-keeps-rules-reads
use Rattle.slots.proofs.Slot.has_key.Kinds as has-key-kinds
use Rattle.slots.proofs.Slot.has_key.Reads as has-key-reads
use Rattle.slots.proofs.Slot.is_alike.Kinds as is-alike-kinds
use Rattle.slots.proofs.Slot.is_alike.Reads as is-alike-reads
use Rattle.slots.proofs.Slot.for_key.Kinds as for-key-kinds
use Rattle.slots.proofs.Slot.for_key.Reads as for-key-reads

pub free-one : One 0 free-kinds.ps free-kinds.r free-reads.Post
free-one κs a x y v w p q = (p ∙ sym q, refl)

pub free-free : Free 0 free-kinds.ps free-reads.Pre
free-free κs a = tt

pub open-keeps-rules-one : One 0 open-keeps-rules-kinds.ps open-keeps-rules-kinds.r open-keeps-rules-reads.Post
open-keeps-rules-one κs a x y v w p q = (p ∙ sym q, refl)

pub open-keeps-rules-free : Free 0 open-keeps-rules-kinds.ps open-keeps-rules-reads.Pre
open-keeps-rules-free κs a = tt

pub free-keeps-rules-one : One 0 free-keeps-rules-kinds.ps free-keeps-rules-kinds.r free-keeps-rules-reads.Post
free-keeps-rules-one κs a x y v w p q = (p ∙ sym q, refl)

pub free-keeps-rules-free : Free 0 free-keeps-rules-kinds.ps free-keeps-rules-reads.Pre
free-keeps-rules-free κs a = tt

pub has-key-one : One 0 has-key-kinds.ps has-key-kinds.r has-key-reads.Post
has-key-one κs a x y v w p q = (p ∙ sym q, refl)

pub has-key-free : Free 0 has-key-kinds.ps has-key-reads.Pre
has-key-free κs a = tt

pub is-alike-one : One 0 is-alike-kinds.ps is-alike-kinds.r is-alike-reads.Post
is-alike-one κs a x y v w p q = (p ∙ sym q, refl)

pub is-alike-free : Free 0 is-alike-kinds.ps is-alike-reads.Pre
is-alike-free κs a = tt

pub for-key-one : One 0 for-key-kinds.ps for-key-kinds.r for-key-reads.Post
for-key-one κs a x y v w p q = (p ∙ sym q, refl)

pub for-key-free : Free 0 for-key-kinds.ps for-key-reads.Pre
for-key-free κs a = tt
