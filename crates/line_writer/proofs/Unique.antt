-- Every public function leaves one outcome and asks nothing.
use Rattle.std.specs.Prelude.{ℕ, Result, Ok, Err}
use mathlib.Core.Path.{◌≡◌, ap, sym, ◌∙◌}
use Rattle.octets.specs.Unique.{One, Free}
use Rattle.refusals.specs.declared.Refusal.{Refusal}
use Rattle.refusals.specs.Refusals.{number_of}
use Rattle.refusals.proofs.Told.{one-refusal}
use Rattle.line_writer.specs.Answer.{says}
use Rattle.line_writer.proofs.write_line.Kinds as write-line-kinds
use Rattle.line_writer.proofs.write_line.Reads as write-line-reads

-- answers that say the same are the same
says-one : (x y : Result ℕ Refusal) → says x ≡ says y → x ≡ y
says-one (Ok n) (Ok k) e = cc
says-one (Ok n) (Err r) e = cc
says-one (Err r) (Ok n) e = cc
says-one (Err r) (Err q) e = let n : number_of r ≡ number_of q = cc in ap (λ (z : Refusal). Err z) (one-refusal r q n)

pub write-line-one : One 1 write-line-kinds.ps write-line-kinds.r write-line-reads.Post
write-line-one κs a x y v w p q = (says-one x y (p.0 ∙ sym q.0), λ i. (tt, ((p.1 ∙ sym q.1) i, tt)))

pub write-line-free : Free 1 write-line-kinds.ps write-line-reads.Pre
write-line-free κs a = tt
