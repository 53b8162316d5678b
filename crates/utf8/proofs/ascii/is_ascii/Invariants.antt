-- What is gathered of the step's bytes, turn by turn, tells of all of them.
use mathlib.Core.Path.{◌≡◌}
use lib.ListN.{take, drop}
use Rattle.utf8.proofs.AsciiRuns.{gather, ahead}
use Rattle.utf8.proofs.ascii.is_ascii.Given as goal

abbrev pub invariant-loop-i : goal.invariant-loop-i
invariant-loop-i l = gather 0 (take l.width (drop l.at l.s)) ≡ gather l.gathered (ahead l.s l.at l.width l.i)
