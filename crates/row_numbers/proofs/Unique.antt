-- Every public function leaves one outcome and asks nothing.
use mathlib.Core.Path.{refl, sym, ◌∙◌}
use Rattle.octets.specs.Unique.{One, Free}
use Rattle.refusals.proofs.Told.{one-test}
use Rattle.row_numbers.proofs.keeps_numbers.Kinds as keeps-numbers-kinds
use Rattle.row_numbers.proofs.keeps_numbers.Reads as keeps-numbers-reads
use Rattle.row_numbers.proofs.refuses_offer.Kinds as refuses-offer-kinds
use Rattle.row_numbers.proofs.refuses_offer.Reads as refuses-offer-reads
use Rattle.row_numbers.proofs.later.Kinds as later-kinds
use Rattle.row_numbers.proofs.later.Reads as later-reads
use Rattle.row_numbers.proofs.start_after.Kinds as start-after-kinds
use Rattle.row_numbers.proofs.start_after.Reads as start-after-reads
use Rattle.row_numbers.proofs.is_due.Kinds as is-due-kinds
use Rattle.row_numbers.proofs.is_due.Reads as is-due-reads
use Rattle.row_numbers.proofs.next_expected.Kinds as next-expected-kinds
use Rattle.row_numbers.proofs.next_expected.Reads as next-expected-reads

pub keeps-numbers-one : One 0 keeps-numbers-kinds.ps keeps-numbers-kinds.r keeps-numbers-reads.Post
keeps-numbers-one κs a x y v w p q = (p ∙ sym q, refl)

pub keeps-numbers-free : Free 0 keeps-numbers-kinds.ps keeps-numbers-reads.Pre
keeps-numbers-free κs a = tt

pub refuses-offer-one : One 0 refuses-offer-kinds.ps refuses-offer-kinds.r refuses-offer-reads.Post
refuses-offer-one κs a x y v w p q = (one-test x y (p ∙ sym q), refl)

pub refuses-offer-free : Free 0 refuses-offer-kinds.ps refuses-offer-reads.Pre
refuses-offer-free κs a = tt

pub later-one : One 0 later-kinds.ps later-kinds.r later-reads.Post
later-one κs a x y v w p q = (p ∙ sym q, refl)

pub later-free : Free 0 later-kinds.ps later-reads.Pre
later-free κs a = tt

pub start-after-one : One 0 start-after-kinds.ps start-after-kinds.r start-after-reads.Post
start-after-one κs a x y v w p q = (p ∙ sym q, refl)

pub start-after-free : Free 0 start-after-kinds.ps start-after-reads.Pre
start-after-free κs a = tt

pub is-due-one : One 0 is-due-kinds.ps is-due-kinds.r is-due-reads.Post
is-due-one κs a x y v w p q = (p ∙ sym q, refl)

pub is-due-free : Free 0 is-due-kinds.ps is-due-reads.Pre
is-due-free κs a = tt

pub next-expected-one : One 0 next-expected-kinds.ps next-expected-kinds.r next-expected-reads.Post
next-expected-one κs a x y v w p q = (p ∙ sym q, refl)

pub next-expected-free : Free 0 next-expected-kinds.ps next-expected-reads.Pre
next-expected-free κs a = tt
