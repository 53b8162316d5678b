-- Document 01, "Streams": 32 rows by key. The rules that a table keeps (40), and its slots.
use Rattle.std.specs.Prelude.{ℕ, Bool, set, replicate}
use Rattle.slots.specs.declared.Slot.{Slot}
pub use Rattle.slots.specs.Slot.{free_slot}
pub use Rattle.slot_rules.specs.Slots.{is_free, past_slot, twice, distinct, Found, first, open_count, slot_in}
unfoldable pub use Rattle.slot_rules.specs.Slots.{keeps_slot, has_key, keeps_slots}
use Rattle.streams.specs.declared.Table.{Table}

-- the state rules of a table (40): 32 slots, each of which keeps its rules, with distinct keys
abbrev pub keeps_table : Table → Bool
keeps_table t = keeps_slots t.slots

-- ---- places

abbrev pub slot_at : Table → ℕ → Slot
slot_at t i = slot_in t.slots i

abbrev pub with_slot : Table → ℕ → Slot → Table
with_slot t i x = record { slots = set t.slots i x }

-- the table of 32 free rows
abbrev pub empty : Table
empty = record { slots = replicate 32 free_slot }
