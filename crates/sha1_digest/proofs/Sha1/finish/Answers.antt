-- The padding ends the waiting block, or the one after it.
use Rattle.std.proofs.Common.{refl, arith, rules}
use Rattle.sha1_digest.proofs.Ends.{marked-to, zeros-to, end_short, end-long}
use Rattle.sha1_digest.proofs.Sha1.finish.Goals as goal

pub close-requires : goal.close-requires
close-requires c = marked-to c.args.self c.mark.result (search rules) 56 (search rules) (search rules) c.mark.ensures

pub returns-then-total-lt56 : goal.returns-then-total-lt56
returns-then-total-lt56 c = end_short c.args.self c.mark.result _ (search rules) c.mark.ensures c.close.ensures

pub put-requires : goal.put-requires
put-requires c = let z = marked-to c.args.self c.mark-2.result (search rules) 64 (search rules) (search rules) c.mark-2.ensures in omega (arith, z)

pub close-requires-2 : goal.close-requires-2
close-requires-2 c = zeros-to c.args.self c.mark-2.result (search rules) 64 (search rules) (search rules) c.mark-2.ensures refl c.put.result c.put.ensures

pub returns : goal.returns
returns c = end-long c.args.self c.mark-2.result _ c.put.result (search rules) c.mark-2.ensures c.put.ensures c.close-2.ensures
