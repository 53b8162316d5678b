-- The fragments stand in the buffer's front: what is still to be written is placed behind what was.
use Rattle.std.proofs.Common.{◌≡◌, ◌+◌, length, drop}
use Rattle.octets.specs.Bytes.{placed}
use Rattle.groups.specs.Groups.{bytes_in}
use Rattle.fragments.specs.Store.{joined_from}
use Rattle.fragments.proofs.store.join.Given as goal

abbrev pub invariant-loop-i : goal.invariant-loop-i
invariant-loop-i l = record {
  size : length l.out ≡ length l.initial.out;
  left : l.at + bytes_in (drop l.i l.p-items) ≡ bytes_in l.p-items;
  rest : placed (joined_from l.store l.g l.i (drop l.i l.p-items)) l.at l.out ≡ placed (joined_from l.store l.g 0 l.p-items) 0 l.initial.out;
}
