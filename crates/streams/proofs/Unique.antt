-- Every public function leaves one outcome and asks nothing.
use Rattle.std.specs.Prelude.{Result, Ok, Err}
use mathlib.Core.Path.{◌≡◌, refl, sym, ap, ◌∙◌}
use Prim.Native.Nat.{ℕ}
use Rattle.octets.specs.Unique.{One, Free}
use Rattle.refusals.specs.declared.Refusal.{Refusal}
use Rattle.refusals.specs.Refusals.{number_of}
use Rattle.refusals.proofs.Told.{one-refusal}
use Rattle.rows.specs.Answer.{accepted, refused}
use Rattle.rows.proofs.Unique.{one-accepting, one-giving}
use Rattle.streams.specs.declared.Served.{Served}
use Rattle.streams.specs.declared.Taken.{Taken}
use Rattle.streams.specs.declared.Shown.{Shown}
use Rattle.streams.specs.Answer.{served_says, taken_says, count_says, shown_says}
use Rattle.streams.proofs.Table.new.Kinds as new-kinds
use Rattle.streams.proofs.Table.new.Reads as new-reads
use Rattle.streams.proofs.Table.offer.Kinds as offer-kinds
use Rattle.streams.proofs.Table.offer.Reads as offer-reads
use Rattle.streams.proofs.Table.take.Kinds as take-kinds
use Rattle.streams.proofs.Table.take.Reads as take-reads
use Rattle.streams.proofs.Table.force.Kinds as force-kinds
use Rattle.streams.proofs.Table.force.Reads as force-reads
use Rattle.streams.proofs.Table.close.Kinds as close-kinds
use Rattle.streams.proofs.Table.close.Reads as close-reads
use Rattle.streams.proofs.Table.open_rows.Kinds as open-rows-kinds
use Rattle.streams.proofs.Table.open_rows.Reads as open-rows-reads
use Rattle.streams.proofs.Table.row_at.Kinds as row-at-kinds
use Rattle.streams.proofs.Table.row_at.Reads as row-at-reads

-- what an answer says is said by that answer only
one-served : (x y : Served) → served_says x ≡ served_says y → x ≡ y
one-served x y e = let a = one-accepting x.answer y.answer (ap (λ o. o.answer) e) in λ i. record { answer = a i; table = (e i).after }

one-taken : (x y : Taken) → taken_says x ≡ taken_says y → x ≡ y
one-taken x y e = let a = one-giving x.answer y.answer (ap (λ o. o.answer) e) in λ i. record { answer = a i; table = (e i).after }

one-count : (x y : Result ℕ Refusal) → count_says x ≡ count_says y → x ≡ y
one-count (Ok m) (Ok n) e = let p : m ≡ n = cc in cc
one-count (Ok m) (Err n) e = cc
one-count (Err m) (Ok n) e = cc
one-count (Err m) (Err n) e = let p : number_of m ≡ number_of n = cc in ap (λ (r : Refusal). Err r) (one-refusal m n p)

one-shown : (x y : Result Shown Refusal) → shown_says x ≡ shown_says y → x ≡ y
one-shown (Ok x) (Ok y) e = λ i. Ok (record { key = (e i).key; row = (e i).row })
one-shown (Ok x) (Err n) e = let p : accepted ≡ refused (number_of n) = ap (λ o. o.answer) e in cc
one-shown (Err m) (Ok y) e = let p : refused (number_of m) ≡ accepted = ap (λ o. o.answer) e in cc
one-shown (Err m) (Err n) e =
    let p : refused (number_of m) ≡ refused (number_of n) = ap (λ o. o.answer) e in
    let q : number_of m ≡ number_of n = cc in
    ap (λ (r : Refusal). Err r) (one-refusal m n q)

pub new-one : One 0 new-kinds.ps new-kinds.r new-reads.Post
new-one κs a x y v w p q = (p ∙ sym q, refl)

pub new-free : Free 0 new-kinds.ps new-reads.Pre
new-free κs a = tt

pub offer-one : One 2 offer-kinds.ps offer-kinds.r offer-reads.Post
offer-one κs a x y v w p q = (one-served x y (p ∙ sym q), refl)

pub offer-free : Free 2 offer-kinds.ps offer-reads.Pre
offer-free κs a = tt

pub take-one : One 2 take-kinds.ps take-kinds.r take-reads.Post
take-one κs a x y v w p q = (one-taken x y (p ∙ sym q), refl)

pub take-free : Free 2 take-kinds.ps take-reads.Pre
take-free κs a = tt

pub force-one : One 2 force-kinds.ps force-kinds.r force-reads.Post
force-one κs a x y v w p q = (one-taken x y (p ∙ sym q), refl)

pub force-free : Free 2 force-kinds.ps force-reads.Pre
force-free κs a = tt

pub close-one : One 2 close-kinds.ps close-kinds.r close-reads.Post
close-one κs a x y v w p q = (one-served x y (p ∙ sym q), refl)

pub close-free : Free 2 close-kinds.ps close-reads.Pre
close-free κs a = tt

pub open-rows-one : One 0 open-rows-kinds.ps open-rows-kinds.r open-rows-reads.Post
open-rows-one κs a x y v w p q = (one-count x y (p ∙ sym q), refl)

pub open-rows-free : Free 0 open-rows-kinds.ps open-rows-reads.Pre
open-rows-free κs a = tt

pub row-at-one : One 0 row-at-kinds.ps row-at-kinds.r row-at-reads.Post
row-at-one κs a x y v w p q = (one-shown x y (p ∙ sym q), refl)

pub row-at-free : Free 0 row-at-kinds.ps row-at-reads.Pre
row-at-free κs a = tt
