-- Every public function leaves one outcome and asks nothing.
use mathlib.Core.Path.{refl, sym, ◌∙◌}
use Rattle.octets.specs.Unique.{One, Free}
use Rattle.held_texts.proofs.fill.Kinds as fill-kinds
use Rattle.held_texts.proofs.fill.Reads as fill-reads
use Rattle.held_texts.proofs.header_text.Kinds as header-text-kinds
use Rattle.held_texts.proofs.header_text.Reads as header-text-reads
use Rattle.held_texts.proofs.no_headers.Kinds as no-headers-kinds
use Rattle.held_texts.proofs.no_headers.Reads as no-headers-reads
use Rattle.held_texts.proofs.with_header.Kinds as with-header-kinds
use Rattle.held_texts.proofs.with_header.Reads as with-header-reads

pub fill-one : One 2 fill-kinds.ps fill-kinds.r fill-reads.Post
fill-one κs a x y v w p q = (p.0 ∙ sym q.0, λ i. (tt, ((p.1 ∙ sym q.1) i, tt)))

pub fill-free : Free 2 fill-kinds.ps fill-reads.Pre
fill-free κs a = tt

pub header-text-one : One 2 header-text-kinds.ps header-text-kinds.r header-text-reads.Post
header-text-one κs a x y v w p q = (p ∙ sym q, refl)

pub header-text-free : Free 2 header-text-kinds.ps header-text-reads.Pre
header-text-free κs a = tt

pub no-headers-one : One 0 no-headers-kinds.ps no-headers-kinds.r no-headers-reads.Post
no-headers-one κs a x y v w p q = (p ∙ sym q, refl)

pub no-headers-free : Free 0 no-headers-kinds.ps no-headers-reads.Pre
no-headers-free κs a = tt

pub with-header-one : One 0 with-header-kinds.ps with-header-kinds.r with-header-reads.Post
with-header-one κs a x y v w p q = (p ∙ sym q, refl)

pub with-header-free : Free 0 with-header-kinds.ps with-header-reads.Pre
with-header-free κs a = tt
