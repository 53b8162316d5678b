-- The same of a number.
use Rattle.text.specs.Decimal.{decimal}
use Rattle.line_draft.proofs.Drafts.{adds_then, put-adds}
use Rattle.line_body.proofs.parts.number.Goals as goal

pub returns : goal.returns
returns c = adds_then (put-adds c.args.key.now c.put.ensures.0 c.put.ensures.1) (put-adds (decimal c.args.v) c.put_number.ensures.0 c.put_number.ensures.1)
