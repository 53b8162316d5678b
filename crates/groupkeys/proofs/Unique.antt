-- Every public function leaves one outcome and asks nothing.
use mathlib.Core.Path.{refl, sym, ◌∙◌}
use Rattle.octets.specs.Unique.{One, Free}
use Rattle.groupkeys.proofs.no_key.Kinds as no-key-kinds
use Rattle.groupkeys.proofs.no_key.Reads as no-key-reads
use Rattle.groupkeys.proofs.name.Kinds as name-kinds
use Rattle.groupkeys.proofs.name.Reads as name-reads
use Rattle.groupkeys.proofs.same.Kinds as same-kinds
use Rattle.groupkeys.proofs.same.Reads as same-reads
use Rattle.groupkeys.proofs.keeps.Kinds as keeps-kinds
use Rattle.groupkeys.proofs.keeps.Reads as keeps-reads

pub no-key-one : One 0 no-key-kinds.ps no-key-kinds.r no-key-reads.Post
no-key-one κs a x y v w p q = (p ∙ sym q, refl)

pub no-key-free : Free 0 no-key-kinds.ps no-key-reads.Pre
no-key-free κs a = tt

pub name-one : One 1 name-kinds.ps name-kinds.r name-reads.Post
name-one κs a x y v w p q = (p ∙ sym q, refl)

pub name-free : Free 1 name-kinds.ps name-reads.Pre
name-free κs a = tt

pub same-one : One 0 same-kinds.ps same-kinds.r same-reads.Post
same-one κs a x y v w p q = (p ∙ sym q, refl)

pub same-free : Free 0 same-kinds.ps same-reads.Pre
same-free κs a = tt

pub keeps-one : One 0 keeps-kinds.ps keeps-kinds.r keeps-reads.Post
keeps-one κs a x y v w p q = (p ∙ sym q, refl)

pub keeps-free : Free 0 keeps-kinds.ps keeps-reads.Pre
keeps-free κs a = tt
