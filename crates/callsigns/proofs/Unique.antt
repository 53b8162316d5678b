-- Every public function leaves one outcome and asks nothing.
use mathlib.Core.Path.{refl, sym, ◌∙◌}
use Rattle.octets.specs.Unique.{One, Free}
use Rattle.callsigns.proofs.read_callsign.Kinds as read-callsign-kinds
use Rattle.callsigns.proofs.read_callsign.Reads as read-callsign-reads
use Rattle.callsigns.proofs.same_call.Kinds as same-call-kinds
use Rattle.callsigns.proofs.same_call.Reads as same-call-reads
use Rattle.callsigns.proofs.read_destination.Kinds as read-destination-kinds
use Rattle.callsigns.proofs.read_destination.Reads as read-destination-reads
use Rattle.callsigns.proofs.is_callsign.Kinds as is-callsign-kinds
use Rattle.callsigns.proofs.is_callsign.Reads as is-callsign-reads
use Rattle.callsigns.proofs.is_destination.Kinds as is-destination-kinds
use Rattle.callsigns.proofs.is_destination.Reads as is-destination-reads

pub read-callsign-one : One 1 read-callsign-kinds.ps read-callsign-kinds.r read-callsign-reads.Post
read-callsign-one κs a x y v w p q = (p ∙ sym q, refl)

pub read-callsign-free : Free 1 read-callsign-kinds.ps read-callsign-reads.Pre
read-callsign-free κs a = tt

pub same-call-one : One 2 same-call-kinds.ps same-call-kinds.r same-call-reads.Post
same-call-one κs a x y v w p q = (p ∙ sym q, refl)

pub same-call-free : Free 2 same-call-kinds.ps same-call-reads.Pre
same-call-free κs a = tt

pub read-destination-one : One 1 read-destination-kinds.ps read-destination-kinds.r read-destination-reads.Post
read-destination-one κs a x y v w p q = (p ∙ sym q, refl)

pub read-destination-free : Free 1 read-destination-kinds.ps read-destination-reads.Pre
read-destination-free κs a = tt

pub is-callsign-one : One 1 is-callsign-kinds.ps is-callsign-kinds.r is-callsign-reads.Post
is-callsign-one κs a x y v w p q = (p ∙ sym q, refl)

pub is-callsign-free : Free 1 is-callsign-kinds.ps is-callsign-reads.Pre
is-callsign-free κs a = tt

pub is-destination-one : One 1 is-destination-kinds.ps is-destination-kinds.r is-destination-reads.Post
is-destination-one κs a x y v w p q = (p ∙ sym q, refl)

pub is-destination-free : Free 1 is-destination-kinds.ps is-destination-reads.Pre
is-destination-free κs a = tt
