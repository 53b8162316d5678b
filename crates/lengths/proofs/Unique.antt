-- Every public function leaves one outcome and asks nothing; of a part, what is seen of it.
use mathlib.Core.Path.{refl, sym, ◌∙◌}
use Rattle.octets.specs.Unique.{One, OneSeen, Free}
use Rattle.lengths.proofs.at_most.Kinds as at-most-kinds
use Rattle.lengths.proofs.at_most.Reads as at-most-reads
use Rattle.lengths.proofs.part.Kinds as part-kinds
use Rattle.lengths.proofs.part.Reads as part-reads
use Rattle.lengths.proofs.zero_from.Kinds as zero-from-kinds
use Rattle.lengths.proofs.zero_from.Reads as zero-from-reads
use Rattle.lengths.proofs.wide16.Kinds as wide16-kinds
use Rattle.lengths.proofs.wide16.Reads as wide16-reads
use Rattle.lengths.proofs.wide32.Kinds as wide32-kinds
use Rattle.lengths.proofs.wide32.Reads as wide32-reads
use Rattle.lengths.proofs.wide_size.Kinds as wide-size-kinds
use Rattle.lengths.proofs.wide_size.Reads as wide-size-reads

pub at-most-one : One 0 at-most-kinds.ps at-most-kinds.r at-most-reads.Post
at-most-one κs a x y v w p q = (p.0 ∙ sym q.0, refl)

pub at-most-free : Free 0 at-most-kinds.ps at-most-reads.Pre
at-most-free κs a = tt

pub part-one : OneSeen 1 part-kinds.ps part-kinds.r (λ κs x. x.now) part-reads.Post
part-one κs a x y v w p q = (p ∙ sym q, refl)

pub part-free : Free 1 part-kinds.ps part-reads.Pre
part-free κs a = tt

pub zero-from-one : One 1 zero-from-kinds.ps zero-from-kinds.r zero-from-reads.Post
zero-from-one κs a x y v w p q = (p ∙ sym q, refl)

pub zero-from-free : Free 1 zero-from-kinds.ps zero-from-reads.Pre
zero-from-free κs a = tt

pub wide16-one : One 0 wide16-kinds.ps wide16-kinds.r wide16-reads.Post
wide16-one κs a x y v w p q = (p.0 ∙ sym q.0, refl)

pub wide16-free : Free 0 wide16-kinds.ps wide16-reads.Pre
wide16-free κs a = tt

pub wide32-one : One 0 wide32-kinds.ps wide32-kinds.r wide32-reads.Post
wide32-one κs a x y v w p q = (p.0 ∙ sym q.0, refl)

pub wide32-free : Free 0 wide32-kinds.ps wide32-reads.Pre
wide32-free κs a = tt

pub wide-size-one : One 0 wide-size-kinds.ps wide-size-kinds.r wide-size-reads.Post
wide-size-one κs a x y v w p q = (p ∙ sym q, refl)

pub wide-size-free : Free 0 wide-size-kinds.ps wide-size-reads.Pre
wide-size-free κs a = tt
