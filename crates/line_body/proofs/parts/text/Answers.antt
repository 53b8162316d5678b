-- The key, then the value.
use Rattle.line_draft.proofs.Drafts.{adds_then, put-adds}
use Rattle.line_body.proofs.parts.text.Goals as goal

pub returns : goal.returns
returns c = adds_then (put-adds c.args.key.now c.put.ensures.0 c.put.ensures.1) (put-adds c.args.value.now c.put-2.ensures.0 c.put-2.ensures.1)
