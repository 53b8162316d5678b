-- Block after block.
use Rattle.std.proofs.Common.{◌≡◌, ◌/◌, length, refl, ap, ◌∙◌, add-one, arith}
use Rattle.sha1_block.specs.Block as fips
use Rattle.sha1_block.proofs.chain.Goals as goal

pub loop-n-init : goal.loop-n-init
unfolding fips.chain
loop-n-init c = refl

pub loop-n-preserved : goal.loop-n-preserved
unfolding fips.chain
loop-n-preserved c = rw add-one (c.compress-v.ensures ∙ ap (λ h. fips.compressed h (fips.block c.args.s.now c.loop-n.n)) c.loop-n.invariant)

pub returns : goal.returns
returns c = let e : c.loop-n.n ≡ length c.args.s.now / 64 = omega arith in rw e at c.loop-n.invariant
