-- Document 01, "Streams": 32 rows by key. The rules that the slots of a table keep together (40), and the searches in them.
use Rattle.std.specs.Prelude.{ℕ, ◌+◌, Bool, true, List, [], ◌∷◌, length, get_or, Option, Some, None, if◌then◌else◌}
use Rattle.octets.specs.Words.{◌and◌, no, every, some, ◌=?◌}
use Rattle.keys.specs.declared.Key.{Key}
use Rattle.slots.specs.declared.Slot.{Slot}
pub use Rattle.slots.specs.Slot.{is_free, past_slot}
unfoldable pub use Rattle.slots.specs.Slot.{keeps_slot, has_key}
use Rattle.slot_rules.specs.declared.Ruled.{Ruled}

-- ---- the rules (40)

-- the slot is open, and one of the rest has its key
abbrev pub twice : Slot → List Slot → Bool
twice x rest = x.is_open and some (has_key x.key) rest

-- no two open rows have equal keys
abbrev pub distinct : List Slot → Bool
distinct [] = true
distinct (x ∷ rest) = no (twice x rest) and distinct rest

-- 32 slots, each of which keeps its rules, with distinct keys
unfoldable pub keeps_slots : List Slot → Bool
keeps_slots l = length l =? 32 and every keeps_slot l and distinct l

-- ---- searches

-- the place of a slot, where a search found one
pub data Found : Type 0 where
  At : (place : ℕ) → Found
  Nothing : Found

-- the first that passes the test, counted from n
abbrev pub first : (Slot → Bool) → ℕ → List Slot → Found
first p n [] = Found.Nothing
first p n (x ∷ rest) = if p x then Found.At n else first p (n + 1) rest

-- how many are open
abbrev pub open_count : List Slot → ℕ
open_count [] = 0
open_count (x ∷ rest) = (if x.is_open then 1 else 0) + open_count rest

abbrev pub slot_in : List Slot → ℕ → Slot
slot_in l i = get_or l i past_slot

-- ---- what a pass over the slots finds

-- the place, if there is one
abbrev pub place_of : Found → Option ℕ
place_of (Found.At i) = Some i
place_of Found.Nothing = None

-- what it finds in slots that keep the rules, and nothing in others
unfoldable pub test_of : List Slot → Key → Option Ruled
test_of l k =
    if no (keeps_slots l) then None
    else Some (record { found = place_of (first (has_key k) 0 l); free = place_of (first is_free 0 l); rows = open_count l })
