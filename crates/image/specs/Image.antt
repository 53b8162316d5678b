-- Document 01, "The saved table": the image of a table, what an image says, and the two calls.
use Rattle.std.specs.Prelude.{ℕ, ◌+◌, List, [], ◌∷◌, ◌++◌, length, drop, if◌then◌else◌}
use Rattle.std.proofs.Math.Option.{Option, none, some}
use Rattle.octets.specs.Words.{◌and◌, no, ◌<?◌}
use Rattle.octets.specs.Bytes.{same, front}
use Rattle.octets.specs.Field.{Res, bad, got}
use Rattle.refusals.specs.Numbers.{state_broken, buffer_too_short, no_saved_image}
use Rattle.rows.specs.Answer.{accepted, Outcome, refuse}
use Rattle.slots.specs.declared.Slot.{Slot}
use Rattle.streams.specs.declared.Table.{Table}
use Rattle.streams.specs.Table.{keeps_table}
use Rattle.records.specs.Record.{body}
use Rattle.image.specs.Answer.{written, SaveOutcome, unsaved}
pub use Rattle.streams.specs.Table.{open_count}
pub use Rattle.image_marks.specs.Marks.{end_record}
pub use Rattle.image_rows.specs.Rows.{row_mark, open_slot, slot_from, slots_from}

-- ---- the image

-- row i's record, where the row is open
abbrev pub record_of : ℕ → Slot → List ℕ
record_of i x = if x.is_open then row_mark i ++ body.print (x.key, x.row) else []

-- the records of the rows from i on, in row order
abbrev pub records_from : ℕ → List Slot → List ℕ
records_from i [] = []
records_from i (x ∷ rest) = record_of i x ++ records_from (i + 1) rest

-- THE IMAGE of a table: for each open row, in row order, its record; last, the end record
unfoldable pub image_of : Table → List ℕ
image_of t = records_from 0 t.slots ++ end_record (open_count t.slots)

-- ---- what an image says

-- nothing may stand behind the rows but their end record, and the table must keep the rules
abbrev pub ended : List ℕ → Res (List Slot) → Option Table
ended s bad = none
ended s (got rows n) =
    if same (drop n s) (end_record (open_count rows)) and keeps_table (record { slots = rows }) then some (record { slots = rows }) else none

-- the table whose image it is, if there is one
unfoldable pub table_of : List ℕ → Option Table
table_of s = ended s (slots_from 32 0 s)

-- ---- the calls

-- 40, then 5; else the image stands at the buffer's front, and the rest of the buffer is as it was
unfoldable pub save_of : Table → List ℕ → SaveOutcome
save_of t buffer =
    if no (keeps_table t) then unsaved state_broken buffer
    else if length buffer <? length (image_of t) then unsaved buffer_too_short buffer
    else record { answer = written (length (image_of t)); buffer = front (image_of t) buffer }

-- every row is replaced by the image's; what is no image is 16, and the table stays
abbrev pub replaced : Table → Option Table → Outcome Table
replaced t none = refuse no_saved_image t
replaced t (some u) = record { answer = accepted; after = u }

-- 40, then 16
unfoldable pub load_of : Table → List ℕ → Outcome Table
load_of t image = if no (keeps_table t) then refuse state_broken t else replaced t (table_of image)
