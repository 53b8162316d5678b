-- The additions that wrap are one, modulo 2^32.
use Rattle.std.proofs.Common.{refl}
use Rattle.sha1_block.specs.Block as fips
use Rattle.sha1_block.proofs.Schedule.{sum5}
use Rattle.sha1_block.proofs.block.round.Goals as goal

pub returns : goal.returns
unfolding fips.round
returns c = cc (sum5 _ _ _ _ _ _ _ _ _ c.f_and_k.ensures refl refl refl)
