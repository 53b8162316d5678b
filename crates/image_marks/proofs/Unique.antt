-- Every public function leaves one outcome and asks nothing.
use mathlib.Core.Path.{refl, sym, ◌∙◌}
use Rattle.octets.specs.Unique.{One, Free}
use Rattle.image_marks.proofs.is_row.Kinds as is-row-kinds
use Rattle.image_marks.proofs.is_row.Reads as is-row-reads
use Rattle.image_marks.proofs.is_end.Kinds as is-end-kinds
use Rattle.image_marks.proofs.is_end.Reads as is-end-reads
use Rattle.image_marks.proofs.put_end.Kinds as put-end-kinds
use Rattle.image_marks.proofs.put_end.Reads as put-end-reads
use Rattle.image_marks.proofs.has_room.Kinds as has-room-kinds
use Rattle.image_marks.proofs.has_room.Reads as has-room-reads

pub is-row-one : One 1 is-row-kinds.ps is-row-kinds.r is-row-reads.Post
is-row-one κs a x y v w p q = (p ∙ sym q, refl)

pub is-row-free : Free 1 is-row-kinds.ps is-row-reads.Pre
is-row-free κs a = tt

pub is-end-one : One 1 is-end-kinds.ps is-end-kinds.r is-end-reads.Post
is-end-one κs a x y v w p q = (p ∙ sym q, refl)

pub is-end-free : Free 1 is-end-kinds.ps is-end-reads.Pre
is-end-free κs a = tt

pub put-end-one : One 1 put-end-kinds.ps put-end-kinds.r put-end-reads.Post
put-end-one κs a x y v w p q = (p.0 ∙ sym q.0, λ i. (tt, ((p.1 ∙ sym q.1) i, (tt, tt))))

pub put-end-free : Free 1 put-end-kinds.ps put-end-reads.Pre
put-end-free κs a = tt

pub has-room-one : One 0 has-room-kinds.ps has-room-kinds.r has-room-reads.Post
has-room-one κs a x y v w p q = (p ∙ sym q, refl)

pub has-room-free : Free 0 has-room-kinds.ps has-room-reads.Pre
has-room-free κs a = tt
