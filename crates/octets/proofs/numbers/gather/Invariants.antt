-- The number in the first w bytes: after each byte, the number that the bytes from it on spell.
use Rattle.std.proofs.Common.{◌≡◌, take, drop}
use Rattle.octets.specs.Numbers.{little}
use Rattle.octets.proofs.numbers.gather.Given as goal

abbrev pub invariant-loop-i : goal.invariant-loop-i
invariant-loop-i l = l.v ≡ little (drop l.i (take l.w l.s))
