-- Every public function leaves one outcome and asks nothing.
use Rattle.std.proofs.Common.{◌≡◌, sym, refl, ap, ◌∙◌}
use Rattle.octets.specs.Unique.{One, Free}
use Rattle.std.specs.Prelude.{ℕ, Result, Ok, Err}
use Rattle.refusals.specs.declared.Refusal.{Refusal}
use Rattle.refusals.specs.Refusals.{number_of}
use Rattle.refusals.proofs.Told.{one-refusal}
use Rattle.sha1_digest.specs.Id.{says}
use Rattle.sha1_digest.proofs.Sha1.new.Kinds as new-kinds
use Rattle.sha1_digest.proofs.Sha1.new.Reads as new-reads
use Rattle.sha1_digest.proofs.Sha1.salted.Kinds as salted-kinds
use Rattle.sha1_digest.proofs.Sha1.salted.Reads as salted-reads
use Rattle.sha1_digest.proofs.Sha1.feed_all.Kinds as feed-all-kinds
use Rattle.sha1_digest.proofs.Sha1.feed_all.Reads as feed-all-reads
use Rattle.sha1_digest.proofs.Sha1.finish.Kinds as finish-kinds
use Rattle.sha1_digest.proofs.Sha1.finish.Reads as finish-reads
use Rattle.sha1_digest.proofs.Sha1.first_28_bits.Kinds as first-bits-kinds
use Rattle.sha1_digest.proofs.Sha1.first_28_bits.Reads as first-bits-reads
use Rattle.sha1_digest.proofs.message_id.Kinds as message-id-kinds
use Rattle.sha1_digest.proofs.message_id.Reads as message-id-reads

-- what an answer says is said by that answer only
one-id : (x y : Result ℕ Refusal) → says x ≡ says y → x ≡ y
one-id (Ok m) (Ok n) e = cc
one-id (Ok m) (Err r) e = cc
one-id (Err r) (Ok n) e = cc
one-id (Err q) (Err r) e = let n : number_of q ≡ number_of r = cc in ap Err (one-refusal q r n)

pub new-one : One 0 new-kinds.ps new-kinds.r new-reads.Post
new-one κs a x y v w p q = (p ∙ sym q, refl)

pub new-free : Free 0 new-kinds.ps new-reads.Pre
new-free κs a = tt

pub salted-one : One 0 salted-kinds.ps salted-kinds.r salted-reads.Post
salted-one κs a x y v w p q = (p ∙ sym q, refl)

pub salted-free : Free 0 salted-kinds.ps salted-reads.Pre
salted-free κs a = tt

pub feed-all-one : One 1 feed-all-kinds.ps feed-all-kinds.r feed-all-reads.Post
feed-all-one κs a x y v w p q = (p ∙ sym q, refl)

pub feed-all-free : Free 1 feed-all-kinds.ps feed-all-reads.Pre
feed-all-free κs a = tt

pub finish-one : One 0 finish-kinds.ps finish-kinds.r finish-reads.Post
finish-one κs a x y v w p q = (p ∙ sym q, refl)

pub finish-free : Free 0 finish-kinds.ps finish-reads.Pre
finish-free κs a = tt

pub first-28-bits-one : One 0 first-bits-kinds.ps first-bits-kinds.r first-bits-reads.Post
first-28-bits-one κs a x y v w p q = (p ∙ sym q, refl)

pub first-28-bits-free : Free 0 first-bits-kinds.ps first-bits-reads.Pre
first-28-bits-free κs a = tt

pub message-id-one : One 1 message-id-kinds.ps message-id-kinds.r message-id-reads.Post
message-id-one κs a x y v w p q = (one-id x y (p ∙ sym q), refl)

pub message-id-free : Free 1 message-id-kinds.ps message-id-reads.Pre
message-id-free κs a = tt
