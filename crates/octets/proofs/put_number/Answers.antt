-- The number's bytes stand at their place, or nothing changed: what is left of the number is placed behind what was written.
use Prim.Native.Nat.{◌+◌}
use mathlib.Core.Path.{refl, sym, ◌∙◌}
use borrow.Author.Rules.{rules}
use borrow.Author.Tests.{le-leb}
use lib.ListN.{length, length-set}
use Rattle.octets.specs.Numbers.{little_bytes}
use Rattle.octets.proofs.NumberLaws.{length-bytes, scatter-none, scatter-next, scatter-all}
use Rattle.octets.proofs.Lists.{unplaced}
use Rattle.octets.proofs.put_number.Goals as goal

pub returns-then-out-at : goal.returns-then-out-at
returns-then-out-at c = unplaced (little_bytes c.args.width c.args.v) c.args.at c.args.out.now (rw length-bytes (search rules))

pub returns-then-out-at-2 : goal.returns-then-out-at-2
returns-then-out-at-2 c = unplaced (little_bytes c.args.width c.args.v) c.args.at c.args.out.now (rw length-bytes (search rules))

pub loop-i-init : goal.loop-i-init
loop-i-init c = (refl, scatter-none c.args.width c.args.v c.args.at c.args.out.now)

pub loop-i-preserved : goal.loop-i-preserved
loop-i-preserved c = (rw length-set c.loop-i.invariant.0, sym (scatter-next c.loop-i.rest c.args.width c.loop-i.i c.args.at c.loop-i.out (search rules) (search rules)) ∙ c.loop-i.invariant.1)

pub shape_of-out : goal.shape_of-out
shape_of-out c = c.loop-i.invariant.0

pub returns : goal.returns
returns c = (sym (le-leb (c.args.at + length (little_bytes c.args.width c.args.v)) (length c.args.out.now) (rw length-bytes (search rules))), sym (scatter-all c.loop-i.rest c.args.width c.loop-i.i c.args.at c.loop-i.out (search rules) (search rules)) ∙ c.loop-i.invariant.1)
