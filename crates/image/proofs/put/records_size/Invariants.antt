-- The sizes of the records, one after the other.
use mathlib.Core.Path.{◌≡◌}
use mathlib.Core.Bool.{true}
use Rattle.streams.specs.Table.{keeps_table}
use Rattle.image.proofs.Writing.{Sum}
use Rattle.image.proofs.put.records_size.Given as goal

abbrev pub invariant-loop-x : goal.invariant-loop-x
invariant-loop-x l = (k : keeps_table l.t ≡ true) × Sum l.t k l.sum l.x-index
