-- The messages that are left stand behind those that were written.
use Prim.Native.Nat.{◌+◌, ◌*◌}
use mathlib.Core.Path.{◌≡◌}
use lib.ListN.{length, drop}
use Rattle.octets.specs.Bytes.{placed}
use Rattle.octets.specs.Field.{many_print}
use Rattle.records.specs.Record.{message}
use Rattle.recorder.proofs.placing.put_messages.Given as goal

abbrev pub invariant-loop-i : goal.invariant-loop-i
invariant-loop-i l = record {
  long : length l.out ≡ length l.initial.out;
  left : placed (many_print message (drop l.i l.held)) (l.at + 12 * l.i) l.out ≡ placed (many_print message l.held) l.at l.initial.out;
}
