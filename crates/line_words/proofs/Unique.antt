-- Every public function leaves one outcome and asks nothing.
use mathlib.Core.Path.{refl, sym, ◌∙◌}
use Rattle.octets.specs.Unique.{One, Free}
use Rattle.line_words.proofs.may_stand.Kinds as may-stand-kinds
use Rattle.line_words.proofs.may_stand.Reads as may-stand-reads
use Rattle.line_words.proofs.header_fits.Kinds as header-fits-kinds
use Rattle.line_words.proofs.header_fits.Reads as header-fits-reads
use Rattle.line_words.proofs.both_or_neither.Kinds as both-or-neither-kinds
use Rattle.line_words.proofs.both_or_neither.Reads as both-or-neither-reads
use Rattle.line_words.proofs.all_or_none.Kinds as all-or-none-kinds
use Rattle.line_words.proofs.all_or_none.Reads as all-or-none-reads
use Rattle.line_words.proofs.format_rule.Kinds as format-rule-kinds
use Rattle.line_words.proofs.format_rule.Reads as format-rule-reads

pub may-stand-one : One 0 may-stand-kinds.ps may-stand-kinds.r may-stand-reads.Post
may-stand-one κs a x y v w p q = (p ∙ sym q, refl)

pub may-stand-free : Free 0 may-stand-kinds.ps may-stand-reads.Pre
may-stand-free κs a = tt

pub header-fits-one : One 0 header-fits-kinds.ps header-fits-kinds.r header-fits-reads.Post
header-fits-one κs a x y v w p q = (p ∙ sym q, refl)

pub header-fits-free : Free 0 header-fits-kinds.ps header-fits-reads.Pre
header-fits-free κs a = tt

pub both-or-neither-one : One 0 both-or-neither-kinds.ps both-or-neither-kinds.r both-or-neither-reads.Post
both-or-neither-one κs a x y v w p q = (p ∙ sym q, refl)

pub both-or-neither-free : Free 0 both-or-neither-kinds.ps both-or-neither-reads.Pre
both-or-neither-free κs a = tt

pub all-or-none-one : One 0 all-or-none-kinds.ps all-or-none-kinds.r all-or-none-reads.Post
all-or-none-one κs a x y v w p q = (p ∙ sym q, refl)

pub all-or-none-free : Free 0 all-or-none-kinds.ps all-or-none-reads.Pre
all-or-none-free κs a = tt

pub format-rule-one : One 0 format-rule-kinds.ps format-rule-kinds.r format-rule-reads.Post
format-rule-one κs a x y v w p q = (p ∙ sym q, refl)

pub format-rule-free : Free 0 format-rule-kinds.ps format-rule-reads.Pre
format-rule-free κs a = tt
