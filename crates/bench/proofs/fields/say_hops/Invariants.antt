-- What stands before a hop is text.
use denote.Text.{Utf8}
use denote.Shadow.{shadow}
use Rattle.bench.proofs.fields.say_hops.Given as goal

abbrev pub invariant-loop-hop : goal.invariant-loop-hop
invariant-loop-hop g l = (goal.iterator-loop-hop g).can_next l.hop-iterator × (goal.iterator-loop-hop g).is_finite l.hop-iterator × shadow (Utf8 l.before)
