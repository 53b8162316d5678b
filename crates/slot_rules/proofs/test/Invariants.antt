-- Each slot keeps its rules, and what the pass found and the rest decide. Then each pair: from each slot on, and from each later one on, the rest decides.
use Prim.Native.Nat.{◌+◌, ◌≤◌}
use mathlib.Core.Path.{◌≡◌}
use lib.ListN.{length, drop}
use Rattle.octets.specs.Words.{every}
use Rattle.slot_rules.specs.Slots.{keeps_slot, has_key, is_free, twice, distinct, open_count, slot_in}
use Rattle.slot_rules.specs.Steps.{Marked, Seen}
use Rattle.slot_rules.proofs.test.Given as goal

abbrev pub invariant-loop-i : goal.invariant-loop-i
invariant-loop-i l =
    record {
      marks : length l.marks ≡ 32;
      each : every keeps_slot l.slots ≡ every keeps_slot (drop l.i l.slots);
      marked : Marked l.slots l.marks l.i;
      found : Seen (has_key l.key) l.slots l.r.found l.i;
      free : Seen is_free l.slots l.r.free l.i;
      few : l.r.rows ≤ l.i;
      rows : open_count l.slots ≡ l.r.rows + open_count (drop l.i l.slots);
    }

abbrev pub invariant-loop-k : goal.invariant-loop-k
invariant-loop-k l = distinct l.slots ≡ distinct (drop l.k l.slots)

abbrev pub invariant-loop-j : goal.invariant-loop-j
invariant-loop-j l = twice (slot_in l.slots l.k) (drop (l.k + 1) l.slots) ≡ twice (slot_in l.slots l.k) (drop l.j l.slots)
