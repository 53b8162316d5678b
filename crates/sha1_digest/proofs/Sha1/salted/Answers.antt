-- The salt's eight bytes, or none.
use Rattle.std.proofs.Common.{w64, rules}
use mir.ValLaws.{to_z-of_z}
use Rattle.sha1_digest.proofs.Ids.{salted}
use Rattle.sha1_digest.proofs.Sha1.salted.Goals as goal

pub returns : goal.returns
returns c = salted c.args.salt _ _ _ _ c.in-Some.value c.in-Some.is (to_z-of_z w64 c.in-Some.value (search rules)) c.put_i64.ensures.1 c.new-2.ensures c.feed_all.ensures
