-- Every public function leaves one outcome and asks nothing.
use mathlib.Core.Path.{refl, sym, ◌∙◌}
use Rattle.octets.specs.Unique.{One, Free}
use Rattle.field_rules.proofs.id_rule.Kinds as id-rule-kinds
use Rattle.field_rules.proofs.id_rule.Reads as id-rule-reads
use Rattle.field_rules.proofs.ttl_rule.Kinds as ttl-rule-kinds
use Rattle.field_rules.proofs.ttl_rule.Reads as ttl-rule-reads
use Rattle.field_rules.proofs.fragment_rule.Kinds as fragment-rule-kinds
use Rattle.field_rules.proofs.fragment_rule.Reads as fragment-rule-reads

pub id-rule-one : One 0 id-rule-kinds.ps id-rule-kinds.r id-rule-reads.Post
id-rule-one κs a x y v w p q = (p ∙ sym q, refl)

pub id-rule-free : Free 0 id-rule-kinds.ps id-rule-reads.Pre
id-rule-free κs a = tt

pub ttl-rule-one : One 0 ttl-rule-kinds.ps ttl-rule-kinds.r ttl-rule-reads.Post
ttl-rule-one κs a x y v w p q = (p ∙ sym q, refl)

pub ttl-rule-free : Free 0 ttl-rule-kinds.ps ttl-rule-reads.Pre
ttl-rule-free κs a = tt

pub fragment-rule-one : One 0 fragment-rule-kinds.ps fragment-rule-kinds.r fragment-rule-reads.Post
fragment-rule-one κs a x y v w p q = (p ∙ sym q, refl)

pub fragment-rule-free : Free 0 fragment-rule-kinds.ps fragment-rule-reads.Pre
fragment-rule-free κs a = tt
