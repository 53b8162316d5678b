-- What was kept of the words behind, and the words from each place on, decide.
use Prim.Native.Nat.{◌+◌, ◌-◌, ◌≤◌}
use lib.ListN.{length}
use Rattle.tokens.specs.Tokens.{words}
use Rattle.tokens.specs.Steps.{words_from}
use Rattle.line_places.proofs.Walk.{Walked}
use Rattle.line_places.proofs.read_places.Given as goal

abbrev pub invariant-loop-at : goal.invariant-loop-at
invariant-loop-at l = (l.at ≤ length l.t + 1) × Walked (words l.t) l.slots l.headers l.at (words_from l.at l.t)

abbrev pub decreases-loop-at : goal.decreases-loop-at
decreases-loop-at l = length l.t + 1 - l.at
