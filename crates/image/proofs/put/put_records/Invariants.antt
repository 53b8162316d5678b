-- The records that are left stand behind those that were written.
use mathlib.Core.Path.{◌≡◌}
use mathlib.Core.Bool.{true}
use lib.ListN.{length, drop}
use Rattle.octets.specs.Bytes.{placed}
use Rattle.streams.specs.Table.{keeps_table}
use Rattle.image.specs.Image.{records_from}
use Rattle.image.proofs.Writing.{Sum}
use Rattle.image.proofs.put.put_records.Given as goal

abbrev pub invariant-loop-i : goal.invariant-loop-i
invariant-loop-i l = (k : keeps_table l.t ≡ true) × Sum l.t k l.at l.i × (length l.out ≡ length l.initial.out) × (placed (records_from l.i (drop l.i l.t.slots)) l.at l.out ≡ placed (records_from 0 l.t.slots) 0 l.initial.out)
