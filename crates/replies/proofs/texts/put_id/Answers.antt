-- The three parts stand one behind the other, or nothing changed.
use borrow.Author.Rules.{rules}
use Rattle.replies.proofs.Joins.{id-none, id-all}
use Rattle.replies.proofs.texts.put_id.Goals as goal

pub returns-then-out-n : goal.returns-then-out-n
returns-then-out-n c = id-none c.args.head c.args.head_end c.args.id c.args.tail c.args.tail_end c.requires c.args.out.now (search rules)

pub returns : goal.returns
returns c = id-all c.args.head c.args.head_end c.args.id c.args.tail c.args.tail_end c.requires c.args.out.now _ _ _ (search rules) c.copy.ensures.1 c.write_id.ensures.1 c.copy-2.ensures.1
