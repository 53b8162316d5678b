-- Every public function leaves one outcome and asks nothing.
use mathlib.Core.Path.{refl, sym, ◌∙◌}
use Rattle.octets.specs.Unique.{One, Free}
use Rattle.text.proofs.read_number.Kinds as read-number-kinds
use Rattle.text.proofs.read_number.Reads as read-number-reads
use Rattle.text.proofs.number_size.Kinds as number-size-kinds
use Rattle.text.proofs.number_size.Reads as number-size-reads
use Rattle.text.proofs.write_number.Kinds as write-number-kinds
use Rattle.text.proofs.write_number.Reads as write-number-reads
use Rattle.text.proofs.read_signed.Kinds as read-signed-kinds
use Rattle.text.proofs.read_signed.Reads as read-signed-reads
use Rattle.text.proofs.signed_size.Kinds as signed-size-kinds
use Rattle.text.proofs.signed_size.Reads as signed-size-reads
use Rattle.text.proofs.write_signed.Kinds as write-signed-kinds
use Rattle.text.proofs.write_signed.Reads as write-signed-reads
use Rattle.text.proofs.read_id.Kinds as read-id-kinds
use Rattle.text.proofs.read_id.Reads as read-id-reads
use Rattle.text.proofs.write_id.Kinds as write-id-kinds
use Rattle.text.proofs.write_id.Reads as write-id-reads
use Rattle.text.proofs.read_chk.Kinds as read-chk-kinds
use Rattle.text.proofs.read_chk.Reads as read-chk-reads
use Rattle.text.proofs.write_chk.Kinds as write-chk-kinds
use Rattle.text.proofs.write_chk.Reads as write-chk-reads

pub read-number-one : One 1 read-number-kinds.ps read-number-kinds.r read-number-reads.Post
read-number-one κs a x y v w p q = (p ∙ sym q, refl)

pub read-number-free : Free 1 read-number-kinds.ps read-number-reads.Pre
read-number-free κs a = tt

pub number-size-one : One 0 number-size-kinds.ps number-size-kinds.r number-size-reads.Post
number-size-one κs a x y v w p q = (p ∙ sym q, refl)

pub number-size-free : Free 0 number-size-kinds.ps number-size-reads.Pre
number-size-free κs a = tt

pub write-number-one : One 1 write-number-kinds.ps write-number-kinds.r write-number-reads.Post
write-number-one κs a x y v w p q = (p.0 ∙ sym q.0, λ i. (tt, ((p.1 ∙ sym q.1) i, (tt, tt))))

pub write-number-free : Free 1 write-number-kinds.ps write-number-reads.Pre
write-number-free κs a = tt

pub read-signed-one : One 1 read-signed-kinds.ps read-signed-kinds.r read-signed-reads.Post
read-signed-one κs a x y v w p q = (p ∙ sym q, refl)

pub read-signed-free : Free 1 read-signed-kinds.ps read-signed-reads.Pre
read-signed-free κs a = tt

pub signed-size-one : One 0 signed-size-kinds.ps signed-size-kinds.r signed-size-reads.Post
signed-size-one κs a x y v w p q = (p ∙ sym q, refl)

pub signed-size-free : Free 0 signed-size-kinds.ps signed-size-reads.Pre
signed-size-free κs a = tt

pub write-signed-one : One 1 write-signed-kinds.ps write-signed-kinds.r write-signed-reads.Post
write-signed-one κs a x y v w p q = (p.0 ∙ sym q.0, λ i. (tt, ((p.1 ∙ sym q.1) i, (tt, tt))))

pub write-signed-free : Free 1 write-signed-kinds.ps write-signed-reads.Pre
write-signed-free κs a = tt

pub read-id-one : One 1 read-id-kinds.ps read-id-kinds.r read-id-reads.Post
read-id-one κs a x y v w p q = (p ∙ sym q, refl)

pub read-id-free : Free 1 read-id-kinds.ps read-id-reads.Pre
read-id-free κs a = tt

pub write-id-one : One 1 write-id-kinds.ps write-id-kinds.r write-id-reads.Post
write-id-one κs a x y v w p q = (p.0 ∙ sym q.0, λ i. (tt, ((p.1 ∙ sym q.1) i, (tt, tt))))

pub write-id-free : Free 1 write-id-kinds.ps write-id-reads.Pre
write-id-free κs a = tt

pub read-chk-one : One 1 read-chk-kinds.ps read-chk-kinds.r read-chk-reads.Post
read-chk-one κs a x y v w p q = (p ∙ sym q, refl)

pub read-chk-free : Free 1 read-chk-kinds.ps read-chk-reads.Pre
read-chk-free κs a = tt

pub write-chk-one : One 1 write-chk-kinds.ps write-chk-kinds.r write-chk-reads.Post
write-chk-one κs a x y v w p q = (p.0 ∙ sym q.0, λ i. (tt, ((p.1 ∙ sym q.1) i, (tt, tt))))

pub write-chk-free : Free 1 write-chk-kinds.ps write-chk-reads.Pre
write-chk-free κs a = tt
