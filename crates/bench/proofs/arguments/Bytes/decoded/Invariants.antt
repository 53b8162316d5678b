-- What is spelled so far fits into the room; what is left of the word grows shorter.
use Rattle.std.proofs.Common.{◌≤◌, length}
use Rattle.bench.proofs.arguments.Bytes.decoded.Given as goal

abbrev pub invariant-loop-byte : goal.invariant-loop-byte
invariant-loop-byte l = l.len ≤ length l.room

abbrev pub decreases-loop-byte : goal.decreases-loop-byte
decreases-loop-byte l = length l.rest
