-- Only a full block is taken.
use Rattle.std.proofs.Common.{sym, ap, ◌∙◌, take_all, rules, eq-eqb, ne_eqb}
use Rattle.octets.proofs.Tests.{if_yes, if_no}
use Rattle.sha1_block.specs.Block as fips
use Rattle.sha1_block.proofs.taken.Goals as goal

pub returns-then-n-eq64 : goal.returns-then-n-eq64
returns-then-n-eq64 c = c.compress.ensures ∙ ap (fips.compressed c.args.h) (take_all 64 c.args.filled.now (search rules)) ∙ sym (if_yes _ _ _ (eq-eqb c.args.n 64 c.if-n-eq64.true))

pub returns : goal.returns
returns c = sym (if_no _ _ _ (ne_eqb c.args.n 64 c.if-n-eq64.false))
