-- Every public function leaves one outcome and asks nothing.
use mathlib.Core.Path.{refl, sym, ◌∙◌}
use Rattle.std.specs.Option.{option_map}
use Rattle.octets.specs.Unique.{One, OneSeen, Free}
use Rattle.line_places.proofs.read_places.Kinds as read-places-kinds
use Rattle.line_places.proofs.read_places.Reads as read-places-reads
use Rattle.line_places.proofs.value.Kinds as value-kinds
use Rattle.line_places.proofs.value.Reads as value-reads

pub read-places-one : One 1 read-places-kinds.ps read-places-kinds.r read-places-reads.Post
read-places-one κs a x y v w p q = (p ∙ sym q, refl)

pub read-places-free : Free 1 read-places-kinds.ps read-places-reads.Pre
read-places-free κs a = tt

pub value-one : OneSeen 1 value-kinds.ps value-kinds.r (λ κs x. option_map (λ r. r.now) x) value-reads.Post
value-one κs a x y v w p q = (p ∙ sym q, refl)

pub value-free : Free 1 value-kinds.ps value-reads.Pre
value-free κs a = tt
