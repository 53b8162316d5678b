-- After each turn s is what the first t rounds make of every h of which the first `from` make v.
use Rattle.std.proofs.Common.{◌≡◌}
use Rattle.sha1_block.specs.declared.Hash.{Hash}
use Rattle.sha1_block.specs.Block as fips
use Rattle.sha1_block.proofs.block.run.Given as goal

abbrev pub invariant-loop-t : goal.invariant-loop-t
invariant-loop-t l = ((h : Hash) → l.initial.s ≡ fips.rounds l.w l.from h → l.s ≡ fips.rounds l.w l.t h)
