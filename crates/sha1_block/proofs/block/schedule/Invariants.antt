-- Word by word: what is filled is the schedule's beginning.
use Rattle.std.proofs.Common.{◌≡◌, length, take, drop}
use Rattle.sha1_block.specs.Block as fips
use Rattle.sha1_block.proofs.block.schedule.Given as goal

abbrev pub invariant-loop-t : goal.invariant-loop-t
invariant-loop-t l = (length l.w ≡ 80) × (take l.t l.w ≡ fips.schedule (take 64 (drop l.at l.s)) l.t)

abbrev pub invariant-loop-t-2 : goal.invariant-loop-t-2
invariant-loop-t-2 l = (length l.w ≡ 80) × (take l.t l.w ≡ fips.schedule (take 64 (drop l.at l.s)) l.t)
