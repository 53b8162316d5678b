-- Document 01, "Streams": the calls by key, with the refusals in the order of the paper's table, 40 first.
use Rattle.std.specs.Prelude.{ℕ, true, List, if◌then◌else◌}
use Rattle.octets.specs.Words.{◌and◌, no, ◌<?◌, ◌=?◌}
use Rattle.refusals.specs.Numbers.{state_broken, stale, no_free_row, no_such_stream, still_holding}
use Rattle.keys.specs.declared.Key.{Key}
use Rattle.keys.specs.Key.{Named}
use Rattle.keys.specs.Key.{named_of, no_key}
use Rattle.rows.specs.declared.Row.{Row}
use Rattle.places.specs.declared.Held.{Held}
use Rattle.rows.specs.Answer.{accepted, refused, Outcome, refuse}
use Rattle.rows.specs.Stream.{fresh}
use Rattle.rows.specs.Row.{row_of, no_row, offer_of, take_of, force_of}
use Rattle.streams.specs.declared.Table.{Table}
use Rattle.lookups.specs.Lookup.{Lookup}
use Rattle.streams.specs.Answer.{Counted, counted, uncounted, Sight}
use Rattle.streams.specs.Table.{free_slot, is_free, has_key, keeps_table, Found, first, open_count, slot_at, with_slot}

-- ---- what stands for a key

abbrev pub place : Found → Lookup
place (Found.At i) = Lookup.Open i
place Found.Nothing = Lookup.Unknown

-- the tests that every call makes first: 40, then 8 and 9 (which `named_of` gives); then the row that has the key, if there is one
unfoldable pub look_up : Table → Named → Lookup
look_up t named =
    if no (keeps_table t) then Lookup.Refused state_broken
    else if 0 <? named.refusal then Lookup.Refused named.refusal
    else place (first (has_key named.key) 0 t.slots)

-- a row's call, made on row i of the table
abbrev pub on_row : Table → ℕ → Outcome Row → Outcome Table
on_row t i o = record { answer = o.answer; after = with_slot t i (record { is_open = (slot_at t i).is_open; key = (slot_at t i).key; row = o.after }) }

-- ---- offer: an unknown key expects 1 and takes the lowest free row

abbrev pub opens : Table → Key → Outcome Row → Found → Outcome Table
opens t k o (Found.At i) = record { answer = o.answer; after = with_slot t i (record { is_open = true; key = k; row = o.after }) }
opens t k o Found.Nothing = refuse no_free_row t

abbrev pub offer_by : Table → Key → Held → ℕ → Lookup → Outcome Table
offer_by t k m time (Lookup.Refused n) = refuse n t
offer_by t k m time (Lookup.Open i) = on_row t i (offer_of (slot_at t i).row m time)
offer_by t k m time Lookup.Unknown = if m.number <? 1 then refuse stale t else opens t k (offer_of (row_of fresh) m time) (first is_free 0 t.slots)

abbrev pub offer : Table → List ℕ → List ℕ → Held → ℕ → Outcome Table
offer t originator id m time = let named = named_of originator id in offer_by t named.key m time (look_up t named)

-- ---- take and force

abbrev pub take_by : Table → ℕ → Lookup → Outcome Table
take_by t time (Lookup.Refused n) = refuse n t
take_by t time (Lookup.Open i) = on_row t i (take_of (slot_at t i).row time)
take_by t time Lookup.Unknown = refuse no_such_stream t

abbrev pub take : Table → List ℕ → List ℕ → ℕ → Outcome Table
take t originator id time = take_by t time (look_up t (named_of originator id))

abbrev pub force_by : Table → ℕ → Lookup → Outcome Table
force_by t time (Lookup.Refused n) = refuse n t
force_by t time (Lookup.Open i) = on_row t i (force_of (slot_at t i).row time)
force_by t time Lookup.Unknown = refuse no_such_stream t

abbrev pub force : Table → List ℕ → List ℕ → ℕ → Outcome Table
force t originator id time = force_by t time (look_up t (named_of originator id))

-- ---- close: frees a row with nothing held

abbrev pub close_by : Table → Lookup → Outcome Table
close_by t (Lookup.Refused n) = refuse n t
close_by t (Lookup.Open i) = if (slot_at t i).row.count =? 0 then record { answer = accepted; after = with_slot t i free_slot } else refuse still_holding t
close_by t Lookup.Unknown = refuse no_such_stream t

abbrev pub close : Table → List ℕ → List ℕ → Outcome Table
close t originator id = close_by t (look_up t (named_of originator id))

-- ---- for lists and operators

-- how many rows are open
unfoldable pub open_rows : Table → Counted
open_rows t = if no (keeps_table t) then uncounted state_broken else counted (open_count t.slots)

-- row i with its key; a free row, or a number that no row has, is no such stream
unfoldable pub row_at : Table → ℕ → Sight
row_at t i =
    if no (keeps_table t) then record { answer = refused state_broken; key = no_key; row = no_row }
    else if i <? 32 and (slot_at t i).is_open then record { answer = accepted; key = (slot_at t i).key; row = (slot_at t i).row }
    else record { answer = refused no_such_stream; key = no_key; row = no_row }
