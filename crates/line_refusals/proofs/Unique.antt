-- Every public function leaves one outcome and asks nothing.
use mathlib.Core.Path.{refl, sym, ◌∙◌}
use Rattle.octets.specs.Unique.{One, Free}
use Rattle.refusals.proofs.Told.{one-test}
use Rattle.line_refusals.proofs.refuses_reading.Kinds as refuses-reading-kinds
use Rattle.line_refusals.proofs.refuses_reading.Reads as refuses-reading-reads
use Rattle.line_refusals.proofs.refuses_writing.Kinds as refuses-writing-kinds
use Rattle.line_refusals.proofs.refuses_writing.Reads as refuses-writing-reads

pub refuses-reading-one : One 0 refuses-reading-kinds.ps refuses-reading-kinds.r refuses-reading-reads.Post
refuses-reading-one κs a x y v w p q = (one-test x y (p ∙ sym q), refl)

pub refuses-reading-free : Free 0 refuses-reading-kinds.ps refuses-reading-reads.Pre
refuses-reading-free κs a = tt

pub refuses-writing-one : One 0 refuses-writing-kinds.ps refuses-writing-kinds.r refuses-writing-reads.Post
refuses-writing-one κs a x y v w p q = (one-test x y (p ∙ sym q), refl)

pub refuses-writing-free : Free 0 refuses-writing-kinds.ps refuses-writing-reads.Pre
refuses-writing-free κs a = tt
