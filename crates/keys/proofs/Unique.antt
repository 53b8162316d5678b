-- Every public function leaves one outcome and asks nothing.
use Rattle.std.specs.Prelude.{Result, Ok, Err}
use mathlib.Core.Path.{◌≡◌, refl, sym, ap, ◌∙◌}
use Rattle.octets.specs.Unique.{One, Free}
use Rattle.refusals.specs.declared.Refusal.{Refusal}
use Rattle.refusals.proofs.Told.{one-refusal, not-0}
use Rattle.keys.specs.declared.Key.{Key}
use Rattle.keys.specs.Key.{Named, named_says}
use Rattle.keys.proofs.none.Kinds as none-kinds
use Rattle.keys.proofs.none.Reads as none_reads
use Rattle.keys.proofs.name.Kinds as name-kinds
use Rattle.keys.proofs.name.Reads as name-reads
use Rattle.keys.proofs.same.Kinds as same-kinds
use Rattle.keys.proofs.same.Reads as same_Reads
use Rattle.keys.proofs.mark.Kinds as mark-kinds
use Rattle.keys.proofs.mark.Reads as mark-reads
use Rattle.keys.proofs.keeps_rules.Kinds as keeps-rules-kinds
use Rattle.keys.proofs.keeps_rules.Reads as keeps-rules-reads
use Rattle.keys.proofs.is_none.Kinds as is-none-kinds
use Rattle.keys.proofs.is_none.Reads as is-none-reads

-- what an answer says is said by that answer only
one-named : (x y : Result Key Refusal) → named_says x ≡ named_says y → x ≡ y
one-named (Ok j) (Ok k) e = ap (λ (n : Named). Ok n.key) e
one-named (Ok j) (Err b) e = absurd (not-0 b (sym (ap (λ (n : Named). n.refusal) e)))
one-named (Err a) (Ok k) e = absurd (not-0 a (ap (λ (n : Named). n.refusal) e))
one-named (Err a) (Err b) e = ap (λ (r : Refusal). Err r) (one-refusal a b (ap (λ (n : Named). n.refusal) e))

pub none-one : One 0 none-kinds.ps none-kinds.r none_reads.Post
none-one κs a x y v w p q = (p ∙ sym q, refl)

pub none-free : Free 0 none-kinds.ps none_reads.Pre
none-free κs a = tt

pub name-one : One 2 name-kinds.ps name-kinds.r name-reads.Post
name-one κs a x y v w p q = (one-named x y (p ∙ sym q), refl)

pub name-free : Free 2 name-kinds.ps name-reads.Pre
name-free κs a = tt

pub same-one : One 0 same-kinds.ps same-kinds.r same_Reads.Post
same-one κs a x y v w p q = (p ∙ sym q, refl)

pub same-free : Free 0 same-kinds.ps same_Reads.Pre
same-free κs a = tt

pub keeps-rules-one : One 0 keeps-rules-kinds.ps keeps-rules-kinds.r keeps-rules-reads.Post
keeps-rules-one κs a x y v w p q = (p ∙ sym q, refl)

pub keeps-rules-free : Free 0 keeps-rules-kinds.ps keeps-rules-reads.Pre
keeps-rules-free κs a = tt

pub is-none-one : One 0 is-none-kinds.ps is-none-kinds.r is-none-reads.Post
is-none-one κs a x y v w p q = (p ∙ sym q, refl)

pub is-none-free : Free 0 is-none-kinds.ps is-none-reads.Pre
is-none-free κs a = tt

pub mark-one : One 0 mark-kinds.ps mark-kinds.r mark-reads.Post
mark-one κs a x y v w p q = (p ∙ sym q, refl)

pub mark-free : Free 0 mark-kinds.ps mark-reads.Pre
mark-free κs a = tt
