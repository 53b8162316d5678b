-- The text at the front, or nothing changed.
use Rattle.held_texts.proofs.Held.{held_all, held_none}
use Rattle.held_texts.proofs.fill.Goals as goal

pub returns-then-copy_at : goal.returns-then-copy_at
returns-then-copy_at c = held_all c.args.s.now c.args.out.now _ c.copy_at.result c.copy_at.ensures.0 c.copy_at.ensures.1 c.if-copy_at.true

pub returns : goal.returns
returns c = held_none c.args.s.now c.args.out.now _ c.copy_at.result c.copy_at.ensures.0 c.copy_at.ensures.1 c.if-copy_at.false
