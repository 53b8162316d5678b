-- Every public function leaves one outcome and asks nothing.
use mathlib.Core.Path.{refl, sym, ◌∙◌}
use Rattle.octets.specs.Unique.{One, Free}
use Rattle.line_draft.proofs.Draft.new.Kinds as new-kinds
use Rattle.line_draft.proofs.Draft.new.Reads as new-reads
use Rattle.line_draft.proofs.Draft.put.Kinds as put-kinds
use Rattle.line_draft.proofs.Draft.put.Reads as put-reads
use Rattle.line_draft.proofs.Draft.put_number.Kinds as put-number-kinds
use Rattle.line_draft.proofs.Draft.put_number.Reads as put-number-reads
use Rattle.line_draft.proofs.Draft.put_signed.Kinds as put-signed-kinds
use Rattle.line_draft.proofs.Draft.put_signed.Reads as put-signed-reads
use Rattle.line_draft.proofs.Draft.put_id.Kinds as put-id-kinds
use Rattle.line_draft.proofs.Draft.put_id.Reads as put-id-reads
use Rattle.line_draft.proofs.Draft.put_chk.Kinds as put-chk-kinds
use Rattle.line_draft.proofs.Draft.put_chk.Reads as put-chk-reads

pub put-one : One 2 put-kinds.ps put-kinds.r put-reads.Post
put-one κs a x y v w p q = (refl, λ i. (record { bytes = (p.1 ∙ sym q.1) i; len = (p.0 ∙ sym q.0) i }, (tt, tt)))

pub put-free : Free 2 put-kinds.ps put-reads.Pre
put-free κs a = tt

pub put-number-one : One 1 put-number-kinds.ps put-number-kinds.r put-number-reads.Post
put-number-one κs a x y v w p q = (refl, λ i. (record { bytes = (p.1 ∙ sym q.1) i; len = (p.0 ∙ sym q.0) i }, (tt, tt)))

pub put-number-free : Free 1 put-number-kinds.ps put-number-reads.Pre
put-number-free κs a = tt

pub put-signed-one : One 1 put-signed-kinds.ps put-signed-kinds.r put-signed-reads.Post
put-signed-one κs a x y v w p q = (refl, λ i. (record { bytes = (p.1 ∙ sym q.1) i; len = (p.0 ∙ sym q.0) i }, (tt, tt)))

pub put-signed-free : Free 1 put-signed-kinds.ps put-signed-reads.Pre
put-signed-free κs a = tt

pub put-id-one : One 1 put-id-kinds.ps put-id-kinds.r put-id-reads.Post
put-id-one κs a x y v w p q = (refl, λ i. (record { bytes = (p.1 ∙ sym q.1) i; len = (p.0 ∙ sym q.0) i }, (tt, tt)))

pub put-id-free : Free 1 put-id-kinds.ps put-id-reads.Pre
put-id-free κs a = tt

pub put-chk-one : One 1 put-chk-kinds.ps put-chk-kinds.r put-chk-reads.Post
put-chk-one κs a x y v w p q = (refl, λ i. (record { bytes = (p.1 ∙ sym q.1) i; len = (p.0 ∙ sym q.0) i }, (tt, tt)))

pub put-chk-free : Free 1 put-chk-kinds.ps put-chk-reads.Pre
put-chk-free κs a = tt

pub new-one : One 0 new-kinds.ps new-kinds.r new-reads.Post
new-one κs a x y v w p q = (p ∙ sym q, refl)

pub new-free : Free 0 new-kinds.ps new-reads.Pre
new-free κs a = tt
