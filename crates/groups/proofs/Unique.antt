-- Every public function leaves one outcome and asks nothing.
use mathlib.Core.Path.{refl, sym, ◌∙◌}
use Rattle.octets.specs.Unique.{One, Free}
use Rattle.groups.proofs.Groups.new.Kinds as new-kinds
use Rattle.groups.proofs.Groups.new.Reads as new-reads
use Rattle.groups.proofs.Groups.keep_rules.Kinds as keep-rules-kinds
use Rattle.groups.proofs.Groups.keep_rules.Reads as keep-rules-reads
use Rattle.groups.proofs.Groups.find.Kinds as find-kinds
use Rattle.groups.proofs.Groups.find.Reads as find-reads
use Rattle.groups.proofs.Groups.find_free.Kinds as find-free-kinds
use Rattle.groups.proofs.Groups.find_free.Reads as find-free-reads
use Rattle.groups.proofs.free_group.Kinds as free-group-kinds
use Rattle.groups.proofs.free_group.Reads as free-group-reads
use Rattle.groups.proofs.is_complete.Kinds as is-complete-kinds
use Rattle.groups.proofs.is_complete.Reads as is-complete-reads
use Rattle.groups.proofs.joined_length.Kinds as joined-length-kinds
use Rattle.groups.proofs.joined_length.Reads as joined-length-reads

pub new-one : One 0 new-kinds.ps new-kinds.r new-reads.Post
new-one κs a x y v w p q = (p ∙ sym q, refl)

pub new-free : Free 0 new-kinds.ps new-reads.Pre
new-free κs a = tt

pub keep-rules-one : One 0 keep-rules-kinds.ps keep-rules-kinds.r keep-rules-reads.Post
keep-rules-one κs a x y v w p q = (p ∙ sym q, refl)

pub keep-rules-free : Free 0 keep-rules-kinds.ps keep-rules-reads.Pre
keep-rules-free κs a = tt

pub find-one : One 0 find-kinds.ps find-kinds.r find-reads.Post
find-one κs a x y v w p q = (p ∙ sym q, refl)

pub find-free : Free 0 find-kinds.ps find-reads.Pre
find-free κs a = tt

pub find-free-one : One 0 find-free-kinds.ps find-free-kinds.r find-free-reads.Post
find-free-one κs a x y v w p q = (p ∙ sym q, refl)

pub find-free-free : Free 0 find-free-kinds.ps find-free-reads.Pre
find-free-free κs a = tt

pub free-group-one : One 0 free-group-kinds.ps free-group-kinds.r free-group-reads.Post
free-group-one κs a x y v w p q = (p ∙ sym q, refl)

pub free-group-free : Free 0 free-group-kinds.ps free-group-reads.Pre
free-group-free κs a = tt

pub is-complete-one : One 0 is-complete-kinds.ps is-complete-kinds.r is-complete-reads.Post
is-complete-one κs a x y v w p q = (p ∙ sym q, refl)

pub is-complete-free : Free 0 is-complete-kinds.ps is-complete-reads.Pre
is-complete-free κs a = tt

pub joined-length-one : One 0 joined-length-kinds.ps joined-length-kinds.r joined-length-reads.Post
joined-length-one κs a x y v w p q = (p ∙ sym q, refl)

pub joined-length-free : Free 0 joined-length-kinds.ps joined-length-reads.Pre
joined-length-free κs a = tt
