-- No two open groups have equal keys: from each on, the rest decides.
use Rattle.std.proofs.Common.{sym, ◌∙◌, arith}
use Rattle.groups.specs.Groups.{past_group}
use Rattle.groups.proofs.Search.{distinct-not, distinct-next}
use Rattle.groups.proofs.rules.keys_differ.Goals as goal

pub returns-then-is_twice : goal.returns-then-is_twice
returns-then-is_twice c = sym (c.loop-i.invariant ∙ distinct-not _ c.loop-i.i past_group (omega arith) (sym c.is_twice.ensures ∙ c.if-is_twice.true))

pub loop-i-preserved : goal.loop-i-preserved
loop-i-preserved c = c.loop-i.invariant ∙ distinct-next _ c.loop-i.i past_group (omega arith) (sym c.is_twice.ensures ∙ c.if-is_twice.false)
