-- The message stands in its place, and the gap start is as the offer leaves it.
use native.Mathlib.Omega.{arith}
use Rattle.rows.proofs.Rules.{kept_row}
use Rattle.rows.proofs.Steps.{accept-is}
use Rattle.rows.proofs.calls.accept.Goals as goal

pub overflow_add-r : goal.overflow_add-r
overflow_add-r c = omega (arith, (kept_row _ c.requires.0).most)

pub overflow_add-result : goal.overflow_add-result
overflow_add-result c = omega (arith, (kept_row _ c.requires.0).most)

pub returns : goal.returns
returns c = accept-is c.args.r c.requires.0 c.args.m c.args.clock _ _ _ _ _ c.requires.1 c.place-p.ensures c.with_at-more.ensures c.gap_open-before.ensures c.gap_open-after.ensures c.start_after-start.ensures
