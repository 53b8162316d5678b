-- The 32 rows in their order: those that are still to be read decide.
use Rattle.image_rows.proofs.Reading.{Walk}
use Rattle.image_rows.proofs.read_rows.Given as goal

abbrev pub invariant-loop-i : goal.invariant-loop-i
invariant-loop-i l = Walk l.d l.slots l.at l.i
