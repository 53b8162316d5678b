-- As many digits as the number has.
use mathlib.Core.Path.{◌∙◌}
use Rattle.text.proofs.Decimals.{length-decimal}
use Rattle.text.proofs.write_number.Goals as goal

pub returns : goal.returns
returns c = let e = c.number_size-n.ensures ∙ length-decimal c.args.v in rw e at c.write.ensures
