-- What is left of the word grows shorter.
use Rattle.std.proofs.Common.{length}
use Rattle.bench.proofs.arguments.Bytes.up_to.Given as goal

abbrev pub decreases-loop-behind : goal.decreases-loop-behind
decreases-loop-behind l = length l.rest
