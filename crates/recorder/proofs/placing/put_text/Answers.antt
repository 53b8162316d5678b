-- The length, then the bytes behind it.
use mathlib.Core.Path.{refl}
use Rattle.recorder.proofs.Behind.{text-placed}
use Rattle.recorder.proofs.placing.put_text.Goals as goal

pub returns : goal.returns
returns c = text-placed c.args.s.now _ c.args.at c.args.out.now _ _ refl c.put_number.ensures.1 c.copy_at.ensures.1 (c.requires)
