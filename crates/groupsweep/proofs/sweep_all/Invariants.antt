-- The groups below the index are swept, the rest are as they came.
use Rattle.std.proofs.Common.{◌≡◌, ◌++◌, map, take, drop}
use Rattle.groupsweep.specs.Sweep.{swept_group}
use Rattle.groupsweep.proofs.sweep_all.Given as goal

abbrev pub invariant-loop-x : goal.invariant-loop-x
invariant-loop-x l = l.x-items ≡ map (swept_group l.time) (take l.x-index l.fn.groups.items) ++ drop l.x-index l.fn.groups.items
