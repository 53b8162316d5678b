-- The state is as if the bytes had gone through it.
use Rattle.std.proofs.Common.{refl, rules}
use Rattle.sha1_digest.proofs.Feed.{blocks-none, blocks-some}
use Rattle.sha1_digest.proofs.pieces.blocks.Goals as goal

pub returns-then-end-eq0 : goal.returns-then-end-eq0
returns-then-end-eq0 c = blocks-none c.args.st c.args.s.now (search rules) (search rules) (search rules) c.if-end-eq0.true

pub returns : goal.returns
returns c = blocks-some c.args.st c.args.s.now (search rules) (search rules) (search rules) _ _ _ _ refl c.if-end-eq0.false c.chain-h.ensures c.copy_at.ensures.1 refl
