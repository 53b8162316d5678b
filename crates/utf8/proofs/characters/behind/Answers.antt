-- The byte behind a first one, in the row's own range, and tail bytes behind it.
use borrow.Author.Rules.{rules}
use Rattle.octets.proofs.Tests.{inside, above, below}
use Rattle.utf8.proofs.Runs.{byte-in, byte-out, cut_short, one_before}
use Rattle.utf8.specs.Utf8.{◌to◌}
use Rattle.utf8.proofs.characters.behind.Goals as goal

pub returns-then-from-s : goal.returns-then-from-s
returns-then-from-s c = cut_short c.args.s.now c.args.from _ _ (search rules)

pub returns-then-s-from : goal.returns-then-s-from
returns-then-s-from c = byte-out c.args.s.now c.args.from (search rules) _ _ (below _ _ _ c.if-s-from.true)

pub returns-then-s-from-2 : goal.returns-then-s-from-2
returns-then-s-from-2 c = byte-out c.args.s.now c.args.from (search rules) _ _ (above c.args.low _ _ c.if-s-from-2.true)

pub returns : goal.returns
returns c = one_before c.args.s.now c.args.from _ _ _ (byte-in c.args.s.now c.args.from (search rules) (c.args.low to c.args.high) _ (inside c.args.low c.args.high _ (search rules) (search rules))) c.tails.ensures
