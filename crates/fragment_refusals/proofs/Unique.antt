-- Every public function leaves one outcome and asks nothing.
use mathlib.Core.Path.{refl, sym, ◌∙◌}
use Rattle.octets.specs.Unique.{One, Free}
use Rattle.refusals.proofs.Told.{one-test}
use Rattle.fragment_refusals.proofs.in_range.Kinds as in-range-kinds
use Rattle.fragment_refusals.proofs.in_range.Reads as in-range-reads
use Rattle.fragment_refusals.proofs.refuses_call.Kinds as refuses-call-kinds
use Rattle.fragment_refusals.proofs.refuses_call.Reads as refuses-call-reads
use Rattle.fragment_refusals.proofs.refuses_key.Kinds as refuses-key-kinds
use Rattle.fragment_refusals.proofs.refuses_key.Reads as refuses-key-reads
use Rattle.fragment_refusals.proofs.refuses_joining.Kinds as refuses-joining-kinds
use Rattle.fragment_refusals.proofs.refuses_joining.Reads as refuses-joining-reads
use Rattle.fragment_refusals.proofs.refuses_collecting.Kinds as refuses-collecting-kinds
use Rattle.fragment_refusals.proofs.refuses_collecting.Reads as refuses-collecting-reads

pub in-range-one : One 0 in-range-kinds.ps in-range-kinds.r in-range-reads.Post
in-range-one κs a x y v w p q = (p ∙ sym q, refl)

pub in-range-free : Free 0 in-range-kinds.ps in-range-reads.Pre
in-range-free κs a = tt

pub refuses-call-one : One 0 refuses-call-kinds.ps refuses-call-kinds.r refuses-call-reads.Post
refuses-call-one κs a x y v w p q = (one-test x y (p ∙ sym q), refl)

pub refuses-call-free : Free 0 refuses-call-kinds.ps refuses-call-reads.Pre
refuses-call-free κs a = tt

pub refuses-key-one : One 0 refuses-key-kinds.ps refuses-key-kinds.r refuses-key-reads.Post
refuses-key-one κs a x y v w p q = (p ∙ sym q, refl)

pub refuses-key-free : Free 0 refuses-key-kinds.ps refuses-key-reads.Pre
refuses-key-free κs a = tt

pub refuses-joining-one : One 0 refuses-joining-kinds.ps refuses-joining-kinds.r refuses-joining-reads.Post
refuses-joining-one κs a x y v w p q = (one-test x y (p ∙ sym q), refl)

pub refuses-joining-free : Free 0 refuses-joining-kinds.ps refuses-joining-reads.Pre
refuses-joining-free κs a = tt

pub refuses-collecting-one : One 0 refuses-collecting-kinds.ps refuses-collecting-kinds.r refuses-collecting-reads.Post
refuses-collecting-one κs a x y v w p q = (one-test x y (p ∙ sym q), refl)

pub refuses-collecting-free : Free 0 refuses-collecting-kinds.ps refuses-collecting-reads.Pre
refuses-collecting-free κs a = tt
