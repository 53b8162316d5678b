-- Block after block.
use Rattle.std.proofs.Common.{◌≡◌}
use Rattle.sha1_block.specs.Block as fips
use Rattle.sha1_block.proofs.chain.Given as goal

abbrev pub invariant-loop-n : goal.invariant-loop-n
invariant-loop-n l = l.v ≡ fips.chain l.initial.v l.s l.n
