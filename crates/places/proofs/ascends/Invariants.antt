-- The first n ascend: from each place on, the rest decides.
use mathlib.Core.Path.{◌≡◌}
use lib.ListN.{drop, take}
use Rattle.places.specs.Messages.{ascending}
use Rattle.places.proofs.ascends.Given as goal

abbrev pub invariant-loop-m : goal.invariant-loop-m
invariant-loop-m l = ascending l.low (take l.n l.fn.held) ≡ ascending l.next (drop l.m-index l.m-items)
