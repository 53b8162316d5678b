-- Every public function leaves one outcome and asks nothing; of a part, what is seen of it.
use Rattle.std.proofs.Common.{◌≡◌, ℕ, suc, Result, Ok, Err, refl, ap, sym, ◌∙◌, arith}
use Rattle.octets.specs.Unique.{One, OneSeen, Free}
use Rattle.refusals.specs.declared.Refusal.{Refusal}
use Rattle.refusals.proofs.Told.{one-refusal}
use Rattle.datagram.specs.Answer.{Verdict, readable, refused_with, Said, says}
use Rattle.datagram.specs.declared.DatagramRead.{DatagramRead}
use Rattle.datagram.proofs.read_datagram.Kinds as read-datagram-kinds
use Rattle.datagram.proofs.read_datagram.Reads as read-datagram-reads
use Rattle.datagram.proofs.payload.Kinds as payload-kinds
use Rattle.datagram.proofs.payload.Reads as payload-reads

-- what is said tells the answer
abbrev read-in : Said → DatagramRead
read-in s = record { message = s.message; payload_at = s.payload_at; payload_len = s.payload_len }

abbrev number-in : Verdict → ℕ
number-in readable = 0
number-in (refused_with n) = suc n

pub one-said : (x y : Result DatagramRead Refusal) → says x ≡ says y → x ≡ y
one-said (Ok a) (Ok b) e = ap (λ (s : Said). Ok (read-in s)) e
one-said (Ok a) (Err b) e = let z = ap (λ (s : Said). number-in s.reading) e in absurd (omega (arith, z))
one-said (Err a) (Ok b) e = let z = ap (λ (s : Said). number-in s.reading) e in absurd (omega (arith, z))
one-said (Err a) (Err b) e = let z = ap (λ (s : Said). number-in s.reading) e in ap (λ r. Err r) (one-refusal a b (omega (arith, z)))

pub read-datagram-one : One 1 read-datagram-kinds.ps read-datagram-kinds.r read-datagram-reads.Post
read-datagram-one κs a x y v w p q = (one-said x y (p ∙ sym q), refl)

pub read-datagram-free : Free 1 read-datagram-kinds.ps read-datagram-reads.Pre
read-datagram-free κs a = tt

pub payload-one : OneSeen 1 payload-kinds.ps payload-kinds.r (λ κs x. x.now) payload-reads.Post
payload-one κs a x y v w p q = (p ∙ sym q, refl)

pub payload-free : Free 1 payload-kinds.ps payload-reads.Pre
payload-free κs a = tt
