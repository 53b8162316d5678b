-- What the private steps of the code come to. No public promise cites this file.
use Rattle.std.specs.Prelude.{ℕ, ◌<◌, ◌≡◌, Bool, true, List, get_or, drop, Option, Some, None, if◌then◌else◌}
use Rattle.keys.specs.Key.{stream_id_of, mark_of}
use Rattle.slots.specs.declared.Slot.{Slot}
use Rattle.slot_rules.specs.Slots.{Found, first, slot_in}

-- the marks of the open ones of the first n slots
abbrev pub Marked : List Slot → List ℕ → ℕ → Type 0
Marked l marks n = (i : ℕ) → i < n → (slot_in l i).is_open ≡ true → get_or marks i 0 ≡ mark_of (stream_id_of (slot_in l i).key)

-- the first place that passed, the places before i having been looked at
abbrev pub seen_at : Option ℕ → ℕ → Bool → Option ℕ
seen_at (Some k) i passes = Some k
seen_at None i passes = if passes then Some i else None

abbrev pub found_or : Option ℕ → Found → Found
found_or (Some k) rest = Found.At k
found_or None rest = rest

-- the slots before i having been looked at, what was found and the rest decide
abbrev pub Seen : (Slot → Bool) → List Slot → Option ℕ → ℕ → Type 0
Seen p l found i = first p 0 l ≡ found_or found (first p i (drop i l))
