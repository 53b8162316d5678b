-- The lowest is given, and the rest is the row after it.
use Rattle.rows.proofs.Steps.{give-is}
use Rattle.rows.proofs.calls.give.Goals as goal

pub returns : goal.returns
returns c = give-is c.args.r c.requires.0 c.requires.1 c.args.clock _ _ _ _ c.without_first-rest.ensures c.next_expected-next.ensures c.gap_open-gap.ensures c.start_after-start.ensures
