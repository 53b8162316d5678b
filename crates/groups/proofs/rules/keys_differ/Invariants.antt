-- No two open groups have equal keys: from each on, the rest decides.
use Rattle.std.proofs.Common.{◌≡◌, drop}
use Rattle.groups.specs.Groups.{distinct}
use Rattle.groups.proofs.rules.keys_differ.Given as goal

abbrev pub invariant-loop-i : goal.invariant-loop-i
invariant-loop-i l = distinct l.x-items ≡ distinct (drop l.i l.x-items)
