-- The group that is collected is one of the four, and what it holds fits.
use Rattle.std.proofs.Common.{ap, arith}
use Rattle.groupcalls.specs.Answer.{gathered, saying}
use Rattle.groupcalls.proofs.Moves.{taken}
use Rattle.fragments.proofs.collect_group.Goals as goal

pub offset_bounds-groups-g : goal.offset_bounds-groups-g
offset_bounds-groups-g c = let k = (taken _ _ _ _ _ _ _ c.collect-s.ensures (ap (saying gathered) c.in-Ok.is)).bound in omega arith

pub bounds-groups-g : goal.bounds-groups-g
bounds-groups-g c = let k = (taken _ _ _ _ _ _ _ c.collect-s.ensures (ap (saying gathered) c.in-Ok.is)).bound in omega arith

pub join-requires : goal.join-requires
join-requires c = let k = taken _ _ _ _ _ _ _ c.collect-s.ensures (ap (saying gathered) c.in-Ok.is) in (omega (arith, k.bound), k.sized, k.pieces, k.fits)
