-- Each quarter of the rounds has its function and its constant.
use Rattle.std.proofs.Common.{ap₂}
use Rattle.sha1_block.proofs.Schedule.{quarter-first, quarter-second, quarter-third, quarter-fourth, sum}
use Rattle.sha1_block.proofs.block.f_and_k.Goals as goal

pub returns-then-t-lt20 : goal.returns-then-t-lt20
returns-then-t-lt20 c = ap₂ sum (quarter-first _ _ _ _ _ c.if-t-lt20.true) (quarter-first _ _ _ _ _ c.if-t-lt20.true)

pub returns-then-t-lt40 : goal.returns-then-t-lt40
returns-then-t-lt40 c = ap₂ sum (quarter-second _ _ _ _ _ c.if-t-lt20.false c.if-t-lt40.true) (quarter-second _ _ _ _ _ c.if-t-lt20.false c.if-t-lt40.true)

pub returns-then-t-lt60 : goal.returns-then-t-lt60
returns-then-t-lt60 c = ap₂ sum (quarter-third _ _ _ _ _ c.if-t-lt40.false c.if-t-lt60.true) (quarter-third _ _ _ _ _ c.if-t-lt40.false c.if-t-lt60.true)

pub returns : goal.returns
returns c = ap₂ sum (quarter-fourth _ _ _ _ _ c.if-t-lt60.false) (quarter-fourth _ _ _ _ _ c.if-t-lt60.false)
