-- The mark's block, cut.
use Rattle.std.proofs.Common.{◌-◌, ◌%◌, ap, ◌∙◌, rules}
use Rattle.sha1_digest.proofs.Ends.{marked}
use Rattle.sha1_digest.specs.Machine.{fed_all}
use Rattle.sha1_digest.proofs.pieces.mark.Goals as goal

pub returns : goal.returns
returns c = c.put.ensures ∙ ap (fed_all c.args.st) (marked (c.args.to - c.args.st.total % 64) (search rules) (search rules))
