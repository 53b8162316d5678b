-- The part behind `ihave ` up to the next space.
use mathlib.Core.Path.{sym}
use borrow.Author.Rules.{rules}
use Rattle.replies.proofs.Tokens.{token-none, token-part}
use Rattle.replies.proofs.texts.token.Goals as goal

pub returns-then-s-lt6 : goal.returns-then-s-lt6
returns-then-s-lt6 c = sym (token-none c.args.s.now (search rules))

pub returns : goal.returns
returns c = token-part c.args.s.now c.before_byte.result.now c.before_byte.ensures
