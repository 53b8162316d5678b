-- The keys from each place of the table on decide.
use mathlib.Core.Path.{sym, ◌∙◌}
use native.Mathlib.Omega.{arith}
use borrow.Author.Rules.{rules}
use Rattle.names.specs.Reserved.{key_place}
use Rattle.names.proofs.Reserved.{table, word_fits, word_next, word-here, word_end}
use Rattle.names.proofs.reserved_place.Goals as goal

pub loop-i-init : goal.loop-i-init
unfolding key_place
loop-i-init c = omega arith

pub spells-requires : goal.spells-requires
unfolding table
spells-requires c = word_fits c.loop-i.i (search rules)

pub returns-then-spells : goal.returns-then-spells
unfolding table
returns-then-spells c = omega (arith, c.loop-i.invariant, word-here c.args.s.now c.loop-i.i (search rules) (sym c.spells.ensures ∙ c.if-spells.true))

pub loop-i-preserved : goal.loop-i-preserved
unfolding table
loop-i-preserved c = omega (arith, c.loop-i.invariant, word_next c.args.s.now c.loop-i.i (search rules) (sym c.spells.ensures ∙ c.if-spells.false))

pub returns : goal.returns
returns c = omega (arith, c.loop-i.invariant, word_end c.args.s.now c.loop-i.i (omega arith))
