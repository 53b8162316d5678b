-- The key's size and the row's.
use native.Mathlib.Omega.{arith}
use Rattle.recorder.proofs.Behind.{body-parts}
use Rattle.recorder.proofs.size.Goals as goal

pub returns : goal.returns
returns c = omega (arith, body-parts c.args.key c.args.row, c.key_size.ensures.0, c.row_size.ensures.0)
