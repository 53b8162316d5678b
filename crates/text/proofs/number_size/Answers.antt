-- Each tenth has one digit less.
use native.Mathlib.Omega.{arith}
use borrow.Author.Rules.{rules}
use Rattle.text.proofs.Decimals.{count_small, count_next, length-decimal}
use Rattle.text.proofs.number_size.Goals as goal

pub loop-left-init : goal.loop-left-init
loop-left-init c = (search rules, omega arith)

pub loop-left-preserved : goal.loop-left-preserved
loop-left-preserved c = (search rules, omega (arith, c.loop-left.invariant.1, count_next c.loop-left.left (search rules)))

pub returns : goal.returns
returns c = omega (arith, c.loop-left.invariant.1, count_small c.loop-left.left (search rules), length-decimal c.args.v)
