-- Document 01, "Streams": a slot of the table, an open row with its key or a free row, and the rules that it keeps (40).
use Rattle.std.specs.Prelude.{Bool, true, false, [], if◌then◌else◌}
use Rattle.octets.specs.Words.{◌and◌, no}
use Rattle.keys.specs.declared.Key.{Key}
use Rattle.keys.specs.Key.{same_key, keeps_key, is_no_key, no_key}
use Rattle.rows.specs.Stream.{fresh}
use Rattle.rows.specs.Row.{row_of, keeps_row, is_no_row, no_row}
use Rattle.slots.specs.declared.Slot.{Slot}

-- a free row is all zero

abbrev pub free_slot : Slot
free_slot = record { is_open = false; key = no_key; row = no_row }

abbrev pub is_free : Slot → Bool
is_free x = no x.is_open

abbrev pub keeps_free : Slot → Bool
keeps_free x = is_no_key x.key and is_no_row x.row

-- key and row of an open one keep their rules
abbrev pub keeps_open : Slot → Bool
keeps_open x = keeps_key x.key and keeps_row x.row

unfoldable pub keeps_slot : Slot → Bool
keeps_slot x = if x.is_open then keeps_open x else keeps_free x

-- the slot is open and has the key
unfoldable pub has_key : Key → Slot → Bool
has_key k x = x.is_open and same_key k x.key

-- the slot that an offer with the key goes to: an open one as it is, a free one with a new row
abbrev pub slot_for : Key → Slot → Slot
slot_for k x = if x.is_open then x else record { is_open = true; key = k; row = row_of fresh }

-- what a list gives past its end
abbrev pub past_slot : Slot
past_slot =
    record {
      is_open = false;
      key = record { originator = []; originator_len = 0; stream_id = []; stream_id_len = 0 };
      row = record { expected = 0; clock = 0; gap_start = 0; count = 0; held = [] };
    }
