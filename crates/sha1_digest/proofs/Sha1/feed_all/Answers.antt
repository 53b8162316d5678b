-- A piece is what fills the waiting block, and the rest from a block's start.
use Rattle.std.proofs.Common.{refl, rules}
use Rattle.sha1_digest.proofs.Ends.{block-filled, two-parts}
use Rattle.sha1_digest.proofs.Sha1.feed_all.Goals as goal

pub from_start-requires : goal.from_start-requires
from_start-requires c = block-filled c.args.self c.put-started.result c.args.s.now _ c.put-started.ensures (search rules) refl c.if-s-room.false

pub returns : goal.returns
returns c = two-parts c.args.self c.put-started.result c.args.s.now _ c.put-started.ensures _ c.from_start.ensures
