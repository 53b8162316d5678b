-- The headers from each place on are still to be added.
use mathlib.Core.Path.{◌≡◌}
use lib.ListN.{length}
use Rattle.line_body.proofs.Drafts.{Headed}
use Rattle.line_body.proofs.parts.headers.Given as goal

abbrev pub invariant-loop-i : goal.invariant-loop-i
invariant-loop-i l = (length l.h.items ≡ 8) × Headed l.h l.initial.line.bytes l.initial.line.len l.i l.line.len l.line.bytes
