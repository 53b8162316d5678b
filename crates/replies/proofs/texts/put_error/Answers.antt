-- `error T` for a token that is said again, else `error`.
use mathlib.Core.Path.{refl, sym, ◌∙◌}
use borrow.Author.Rules.{rules}
use Rattle.replies.proofs.Joins.{error-none, error-all, error-plain}
use Rattle.replies.proofs.texts.put_error.Goals as goal

pub returns-then-not-is_token : goal.returns-then-not-is_token
returns-then-not-is_token c = error-plain c.args.t.now _ c.args.out.now _ (sym c.is_token.ensures ∙ c.if-not-is_token.true) c.put.ensures

pub returns-then-out-n : goal.returns-then-out-n
returns-then-out-n c = error-none c.args.t.now c.args.out.now (sym c.is_token.ensures ∙ c.if-not-is_token.false) (search rules)

pub returns : goal.returns
returns c = error-all c.args.t.now _ c.args.out.now _ _ _ (sym c.is_token.ensures ∙ c.if-not-is_token.false) refl (search rules) c.copy.ensures.1 c.copy_at.ensures.1 c.copy-2.ensures.1
