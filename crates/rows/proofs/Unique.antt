-- Every public function leaves one outcome and asks nothing.
use mathlib.Core.Path.{◌≡◌, refl, sym, ap, ◌∙◌}
use Rattle.octets.specs.Unique.{One, Free}
use Rattle.std.specs.Prelude.{Option, Some, None, Result, Ok, Err}
use Rattle.refusals.specs.declared.Refusal.{Refusal}
use Rattle.refusals.specs.Refusals.{number_of}
use Rattle.refusals.proofs.Told.{one-refusal}
use Rattle.rows.specs.declared.Given.{Given}
use Rattle.rows.specs.declared.Offered.{Offered}
use Rattle.rows.specs.declared.Taken.{Taken}
use Rattle.rows.specs.Answer.{accepting, giving, offered_says, taken_says}
use Rattle.rows.proofs.Row.new.Kinds as new-kinds
use Rattle.rows.proofs.Row.new.Reads as new-reads
use Rattle.rows.proofs.Row.none.Kinds as none-kinds
use Rattle.rows.proofs.Row.none.Reads as none_reads
use Rattle.rows.proofs.Row.is_none.Kinds as is-none-kinds
use Rattle.rows.proofs.Row.is_none.Reads as is-none-reads
use Rattle.rows.proofs.Row.keeps_rules.Kinds as keeps-rules-kinds
use Rattle.rows.proofs.Row.keeps_rules.Reads as keeps-rules-reads
use Rattle.rows.proofs.Row.offer.Kinds as offer-kinds
use Rattle.rows.proofs.Row.offer.Reads as offer-reads
use Rattle.rows.proofs.Row.take.Kinds as take-kinds
use Rattle.rows.proofs.Row.take.Reads as take-reads
use Rattle.rows.proofs.Row.force.Kinds as force-kinds
use Rattle.rows.proofs.Row.force.Reads as force-reads

-- what an answer says is said by that answer only
pub one-accepting : (a b : Result Unit Refusal) → accepting a ≡ accepting b → a ≡ b
one-accepting (Ok x) (Ok y) e = refl
one-accepting (Ok x) (Err n) e = cc
one-accepting (Err m) (Ok y) e = cc
one-accepting (Err m) (Err n) e = let p : number_of m ≡ number_of n = cc in ap (λ (r : Refusal). Err r) (one-refusal m n p)

pub one-giving : (a b : Result (Option Given) Refusal) → giving a ≡ giving b → a ≡ b
one-giving (Ok (Some m)) (Ok (Some n)) e =
    let p : m.number ≡ n.number = cc in
    let q : m.slip ≡ n.slip = cc in
    λ i. Ok (Some (record { number = p i; slip = q i }))
one-giving (Ok (Some m)) (Ok None) e = cc
one-giving (Ok (Some m)) (Err n) e = cc
one-giving (Ok None) (Ok (Some n)) e = cc
one-giving (Ok None) (Ok None) e = refl
one-giving (Ok None) (Err n) e = cc
one-giving (Err m) (Ok (Some n)) e = cc
one-giving (Err m) (Ok None) e = cc
one-giving (Err m) (Err n) e = let p : number_of m ≡ number_of n = cc in ap (λ (r : Refusal). Err r) (one-refusal m n p)

one-offered : (x y : Offered) → offered_says x ≡ offered_says y → x ≡ y
one-offered x y e = let a = one-accepting x.answer y.answer (ap (λ o. o.answer) e) in λ i. record { answer = a i; row = (e i).after }

one-taken : (x y : Taken) → taken_says x ≡ taken_says y → x ≡ y
one-taken x y e = let a = one-giving x.answer y.answer (ap (λ o. o.answer) e) in λ i. record { answer = a i; row = (e i).after }

pub new-one : One 0 new-kinds.ps new-kinds.r new-reads.Post
new-one κs a x y v w p q = (p ∙ sym q, refl)

pub new-free : Free 0 new-kinds.ps new-reads.Pre
new-free κs a = tt

pub none-one : One 0 none-kinds.ps none-kinds.r none_reads.Post
none-one κs a x y v w p q = (p ∙ sym q, refl)

pub none-free : Free 0 none-kinds.ps none_reads.Pre
none-free κs a = tt

pub is-none-one : One 0 is-none-kinds.ps is-none-kinds.r is-none-reads.Post
is-none-one κs a x y v w p q = (p ∙ sym q, refl)

pub is-none-free : Free 0 is-none-kinds.ps is-none-reads.Pre
is-none-free κs a = tt

pub keeps-rules-one : One 0 keeps-rules-kinds.ps keeps-rules-kinds.r keeps-rules-reads.Post
keeps-rules-one κs a x y v w p q = (p ∙ sym q, refl)

pub keeps-rules-free : Free 0 keeps-rules-kinds.ps keeps-rules-reads.Pre
keeps-rules-free κs a = tt

pub offer-one : One 0 offer-kinds.ps offer-kinds.r offer-reads.Post
offer-one κs a x y v w p q = (one-offered x y (p ∙ sym q), refl)

pub offer-free : Free 0 offer-kinds.ps offer-reads.Pre
offer-free κs a = tt

pub take-one : One 0 take-kinds.ps take-kinds.r take-reads.Post
take-one κs a x y v w p q = (one-taken x y (p ∙ sym q), refl)

pub take-free : Free 0 take-kinds.ps take-reads.Pre
take-free κs a = tt

pub force-one : One 0 force-kinds.ps force-kinds.r force-reads.Post
force-one κs a x y v w p q = (one-taken x y (p ∙ sym q), refl)

pub force-free : Free 0 force-kinds.ps force-reads.Pre
force-free κs a = tt
