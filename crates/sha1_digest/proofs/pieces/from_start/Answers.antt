-- Whole blocks, and a rest that fills none.
use Rattle.std.proofs.Common.{refl, rules}
use Rattle.sha1_digest.proofs.Ends.{rest-fits, rest-fed}
use Rattle.sha1_digest.proofs.pieces.from_start.Goals as goal

pub put-requires : goal.put-requires
put-requires c = rest-fits c.args.st c.blocks-2.result c.args.s.now _ refl c.blocks-2.ensures (search rules) (search rules)

pub returns : goal.returns
returns c = rest-fed c.args.st c.blocks-2.result c.args.s.now _ refl c.blocks-2.ensures _ c.put.ensures
