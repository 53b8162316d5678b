-- From each place on, the rest decides.
use mathlib.Core.Path.{refl, sym, ◌∙◌}
use borrow.Author.Rules.{rules}
use Rattle.letters.proofs.Places.{alike-short, alike-not, alike_next, alike_end}
use Rattle.letters.proofs.alike.Goals as goal

pub returns-then-a-b : goal.returns-then-a-b
returns-then-a-b c = sym (alike-short c.args.a.now c.args.b.now (λ e. search rules))

pub loop-i-init : goal.loop-i-init
loop-i-init c = refl

pub returns-then-not-agree : goal.returns-then-not-agree
returns-then-not-agree c = sym (c.loop-i.invariant ∙ alike-not c.args.a.now c.args.b.now c.loop-i.i (search rules) (search rules) (sym c.agree.ensures ∙ c.if-not-agree.true))

pub loop-i-preserved : goal.loop-i-preserved
loop-i-preserved c = c.loop-i.invariant ∙ alike_next c.args.a.now c.args.b.now c.loop-i.i (search rules) (search rules) (sym c.agree.ensures ∙ c.if-not-agree.false)

pub returns : goal.returns
returns c = sym (c.loop-i.invariant ∙ alike_end c.args.a.now c.args.b.now c.loop-i.i (search rules) (search rules))
