-- What the reader of the rows answers.
use Rattle.std.specs.Prelude.{List, Option, Some, None, if◌then◌else◌}
use Rattle.octets.specs.Field.{Res, bad, got}
use Rattle.slots.specs.declared.Slot.{Slot}
use Rattle.streams.specs.Table.{keeps_slots, open_count}
use Rattle.image_rows.specs.declared.RowsRead.{RowsRead}

-- the rows of a table that keeps the rules, distinct keys among them
abbrev pub rows_read : Res (List Slot) → Option RowsRead
rows_read bad = None
rows_read (got l n) = if keeps_slots l then Some (record { table = record { slots = l }; rows = open_count l; used = n }) else None
