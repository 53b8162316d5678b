-- The messages in their places: those that are still to be read decide.
use Prim.Native.Nat.{◌≤◌}
use lib.ListN.{replicate}
use Rattle.rows.specs.Row.{blank}
use Rattle.records.specs.Record.{message}
use Rattle.records.proofs.Turns.{Turn}
use Rattle.records.proofs.parts.read_messages.Given as goal

abbrev pub invariant-loop-i : goal.invariant-loop-i
invariant-loop-i l = (l.k ≤ 16) × Turn message l.k l.d (replicate 16 blank) l.held l.at l.i
