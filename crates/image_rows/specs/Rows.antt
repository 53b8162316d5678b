-- Document 01, "The saved table": the rows that an image begins with.
use Rattle.std.specs.Prelude.{ℕ, zero, suc, ◌+◌, true, List, [], ◌∷◌, take, drop, if◌then◌else◌}
use Rattle.octets.specs.Bytes.{same}
use Rattle.octets.specs.Field.{Res, got, bind}
use Rattle.keys.specs.declared.Key.{Key}
use Rattle.rows.specs.declared.Row.{Row}
use Rattle.slots.specs.declared.Slot.{Slot}
use Rattle.streams.specs.Table.{free_slot}
use Rattle.records.specs.Record.{body}
pub use Rattle.image_marks.specs.Marks.{row_mark}

-- a record's key and row, in an open row
abbrev pub open_slot : Key × Row → Slot
open_slot x = record { is_open = true; key = x.0; row = x.1 }

-- row i: the record where the mark with its number stands, else free
abbrev pub slot_from : ℕ → List ℕ → Res Slot
slot_from i s = if same (take 3 s) (row_mark i) then bind (body.parse (drop 3 s)) (λ x n. got (open_slot x) (3 + n)) else got free_slot 0

-- k rows in row order, from i on
abbrev pub slots_from : ℕ → ℕ → List ℕ → Res (List Slot)
slots_from zero i s = got [] 0
slots_from (suc k) i s = bind (slot_from i s) (λ x n. bind (slots_from k (i + 1) (drop n s)) (λ rest m. got (x ∷ rest) (n + m)))
