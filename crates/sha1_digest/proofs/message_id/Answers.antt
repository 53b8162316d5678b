-- The salt, then the payload.
use Rattle.std.proofs.Common.{arith}
use Rattle.sha1_digest.proofs.Ids.{whole-id}
use Rattle.sha1_digest.proofs.message_id.Goals as goal

pub returns : goal.returns
returns c = whole-id c.args.salt c.args.payload.now _ _ _ (omega arith) c.salted.ensures c.feed_all.ensures c.first_28_bits.ensures
