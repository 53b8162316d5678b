-- A body that does not fit is blank; else the bytes, then zeros.
use Rattle.line_body.proofs.Whole.{body-long, body-short}
use Rattle.line_body.proofs.print_body.Goals as goal

pub returns-then-line-gt512 : goal.returns-then-line-gt512
returns-then-line-gt512 c = body-long c.args.m c.new-line.ensures c.put_body.ensures c.if-line-gt512.true

pub returns : goal.returns
returns c = body-short c.args.m c.new-line.ensures c.put_body.ensures c.if-line-gt512.false
