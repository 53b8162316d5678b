-- Every public function leaves one outcome and asks nothing.
use mathlib.Core.Path.{refl, sym, ◌∙◌}
use Rattle.octets.specs.Unique.{One, Free}
use Rattle.places.proofs.blank_from.Kinds as blank-from-kinds
use Rattle.places.proofs.blank_from.Reads as blank-from-reads
use Rattle.places.proofs.ascends.Kinds as ascends-kinds
use Rattle.places.proofs.ascends.Reads as ascends-reads
use Rattle.places.proofs.has.Kinds as has-kinds
use Rattle.places.proofs.has.Reads as has-reads
use Rattle.places.proofs.place.Kinds as place-kinds
use Rattle.places.proofs.place.Reads as place-reads
use Rattle.places.proofs.with_at.Kinds as with-at-kinds
use Rattle.places.proofs.with_at.Reads as with-at-reads
use Rattle.places.proofs.without_first.Kinds as without-first-kinds
use Rattle.places.proofs.without_first.Reads as without-first-reads
use Rattle.places.proofs.gap_open.Kinds as gap-open-kinds
use Rattle.places.proofs.gap_open.Reads as gap-open-reads

pub blank-from-one : One 0 blank-from-kinds.ps blank-from-kinds.r blank-from-reads.Post
blank-from-one κs a x y v w p q = (p ∙ sym q, refl)

pub blank-from-free : Free 0 blank-from-kinds.ps blank-from-reads.Pre
blank-from-free κs a = tt

pub ascends-one : One 0 ascends-kinds.ps ascends-kinds.r ascends-reads.Post
ascends-one κs a x y v w p q = (p ∙ sym q, refl)

pub ascends-free : Free 0 ascends-kinds.ps ascends-reads.Pre
ascends-free κs a = tt

pub has-one : One 0 has-kinds.ps has-kinds.r has-reads.Post
has-one κs a x y v w p q = (p ∙ sym q, refl)

pub has-free : Free 0 has-kinds.ps has-reads.Pre
has-free κs a = tt

pub place-one : One 0 place-kinds.ps place-kinds.r place-reads.Post
place-one κs a x y v w p q = (p ∙ sym q, refl)

pub place-free : Free 0 place-kinds.ps place-reads.Pre
place-free κs a = tt

pub with-at-one : One 0 with-at-kinds.ps with-at-kinds.r with-at-reads.Post
with-at-one κs a x y v w p q = (p ∙ sym q, refl)

pub with-at-free : Free 0 with-at-kinds.ps with-at-reads.Pre
with-at-free κs a = tt

pub without-first-one : One 0 without-first-kinds.ps without-first-kinds.r without-first-reads.Post
without-first-one κs a x y v w p q = (p ∙ sym q, refl)

pub without-first-free : Free 0 without-first-kinds.ps without-first-reads.Pre
without-first-free κs a = tt

pub gap-open-one : One 0 gap-open-kinds.ps gap-open-kinds.r gap-open-reads.Post
gap-open-one κs a x y v w p q = (p ∙ sym q, refl)

pub gap-open-free : Free 0 gap-open-kinds.ps gap-open-reads.Pre
gap-open-free κs a = tt
