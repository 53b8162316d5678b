-- The public function leaves one outcome and asks nothing.
use Rattle.std.proofs.Common.{◌≡◌, ℕ, suc, Result, Ok, Err, ap, sym, ◌∙◌, arith}
use Rattle.octets.specs.Unique.{One, Free}
use Rattle.refusals.specs.declared.Refusal.{Refusal}
use Rattle.refusals.proofs.Told.{one-refusal}
use Rattle.datagram_writer.specs.Answer.{Verdict, written, refused_with, says}
use Rattle.datagram_writer.proofs.write_datagram.Kinds as write-datagram-kinds
use Rattle.datagram_writer.proofs.write_datagram.Reads as write-datagram-reads

-- what is said tells the answer
abbrev length-in : Verdict → ℕ
length-in (written n) = suc n
length-in (refused_with n) = 0

abbrev number-in : Verdict → ℕ
number-in (written n) = 0
number-in (refused_with n) = suc n

pub one-said : (x y : Result ℕ Refusal) → says x ≡ says y → x ≡ y
one-said (Ok a) (Ok b) e = let z : suc a ≡ suc b = ap length-in e in let y : a ≡ b = omega arith in ap (λ (n : ℕ). Ok n) y
one-said (Ok a) (Err b) e = let z : ◌≡◌ {A = ℕ} (suc a) 0 = ap length-in e in absurd (omega arith)
one-said (Err a) (Ok b) e = let z : ◌≡◌ {A = ℕ} 0 (suc b) = ap length-in e in absurd (omega arith)
one-said (Err a) (Err b) e = let z = ap number-in e in ap (λ (r : Refusal). Err r) (one-refusal a b (omega (arith, z)))

pub write-datagram-one : One 2 write-datagram-kinds.ps write-datagram-kinds.r write-datagram-reads.Post
write-datagram-one κs a x y v w p q = (one-said x y (p.0 ∙ sym q.0), λ i. (tt, (tt, ((p.1 ∙ sym q.1) i, tt))))

pub write-datagram-free : Free 2 write-datagram-kinds.ps write-datagram-reads.Pre
write-datagram-free κs a = tt
