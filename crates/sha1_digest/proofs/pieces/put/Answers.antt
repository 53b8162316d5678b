-- The bytes stand at their place in the block, which is taken where they fill it.
use Rattle.std.proofs.Common.{rules, refl}
use Rattle.sha1_digest.proofs.Feed.{put_in}
use Rattle.sha1_digest.proofs.pieces.put.Goals as goal

pub returns : goal.returns
returns c = put_in c.args.st c.args.s.now _ _ _ (search rules) (search rules) (search rules) c.copy_at.ensures.1 c.taken-next.ensures refl
