-- The number in the first w bytes: after each byte, the number that the bytes from it on spell.
use mathlib.Core.Path.{sym}
use native.Mathlib.Omega.{arith}
use borrow.Author.Rules.{rules}
use Rattle.octets.proofs.NumberLaws.{gather_none, gather-next, gather-room, gather-all}
use Rattle.octets.proofs.numbers.gather.Goals as goal

pub loop-i-init : goal.loop-i-init
loop-i-init c = sym (gather_none c.args.s.now c.args.w)

pub overflow_mul-v : goal.overflow_mul-v
overflow_mul-v c = omega (arith, gather-room c.args.s.now c.args.w c.loop-i.i (λ i. (c.type_inv.s i).fits) (search rules) (search rules))

pub overflow_add-v : goal.overflow_add-v
overflow_add-v c = omega (arith, gather-room c.args.s.now c.args.w c.loop-i.i (λ i. (c.type_inv.s i).fits) (search rules) (search rules))

pub loop-i-preserved : goal.loop-i-preserved
loop-i-preserved c = gather-next c.args.s.now c.args.w c.loop-i.i c.loop-i.v c.from.result (search rules) (search rules) (search rules) c.loop-i.invariant (search rules)

pub returns : goal.returns
returns c = gather-all c.args.s.now c.args.w c.loop-i.i c.loop-i.v (λ i. (c.type_inv.s i).fits) (search rules) (search rules) c.loop-i.invariant
