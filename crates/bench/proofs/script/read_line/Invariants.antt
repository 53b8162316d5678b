-- What is kept of a line has room.
use Rattle.std.proofs.Common.{◌≤◌}
use Rattle.bench.proofs.script.read_line.Given as goal

abbrev pub invariant-loop-read : goal.invariant-loop-read
invariant-loop-read g l = (goal.iterator-loop-read g).can_next l.read-iterator × (goal.iterator-loop-read g).is_finite l.read-iterator × (l.len ≤ 50000)
