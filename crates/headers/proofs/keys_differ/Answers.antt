-- The keys behind each place decide, for the first key of a pair and for the second.
use mathlib.Core.Path.{refl, sym, ◌∙◌}
use native.Mathlib.Omega.{arith}
use borrow.Author.Rules.{rules}
use Rattle.headers.proofs.Pairs.{second-next, second-here, second-end, first_next, first-here, first-end}
use Rattle.headers.proofs.keys_differ.Goals as goal

pub pairs-init : goal.pairs-init
pairs-init c = (search rules, refl, refl)

pub loop-j-preserved : goal.loop-j-preserved
loop-j-preserved c = (c.loop-j.invariant.0, c.loop-j.invariant.1 ∙ second-next c.args.h c.pairs.invariant.0 c.loop-j.j (omega arith) _ (sym c.same_key.ensures ∙ c.if-same_key.false))

pub pairs-preserved : goal.pairs-preserved
pairs-preserved c = (c.pairs.invariant.0, c.loop-j.invariant.0, c.pairs.invariant.2 ∙ first_next c.args.h c.pairs.invariant.0 c.pairs.i (omega arith) (c.loop-j.invariant.1 ∙ second-end c.args.h c.pairs.invariant.0 _ c.loop-j.j (omega arith)))

pub returns-after-pairs : goal.returns-after-pairs
returns-after-pairs c = c.pairs.invariant.1 ∙ sym (c.pairs.invariant.2 ∙ first-end c.args.h c.pairs.invariant.0 c.pairs.i (omega arith))

pub returns-then-same_key : goal.returns-then-same_key
returns-then-same_key c = sym (c.pairs.invariant.2 ∙ first-here c.args.h c.pairs.invariant.0 c.pairs.i (omega arith) (c.loop-j.invariant.1 ∙ second-here c.args.h c.pairs.invariant.0 c.loop-j.j (omega arith) _ (sym c.same_key.ensures ∙ c.if-same_key.true)))
