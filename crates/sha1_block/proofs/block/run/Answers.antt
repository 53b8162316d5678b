-- After each turn s is what the first t rounds make of every h of which the first `from` make v.
use Rattle.std.proofs.Common.{◌≡◌, ap, ◌∙◌, add-one, arith}
use Rattle.sha1_block.specs.Block as fips
use Rattle.sha1_block.proofs.block.run.Goals as goal

pub loop-t-init : goal.loop-t-init
loop-t-init c = λ h e. e

pub loop-t-preserved : goal.loop-t-preserved
unfolding fips.rounds
loop-t-preserved c = λ h e. rw add-one (c.round-s.ensures ∙ ap (fips.round _ _) (c.loop-t.invariant h e))

pub returns : goal.returns
returns c = λ h e. let q : c.loop-t.t ≡ c.args.to = omega arith in rw q at (c.loop-t.invariant h e)
