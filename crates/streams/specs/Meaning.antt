-- What a table means to its callers: the row that stands for a key. The theorems of the table speak of it.
use Rattle.std.specs.Prelude.{List, [], ◌∷◌, if◌then◌else◌}
use Rattle.std.proofs.Math.Option.{Option, none, some}
use Rattle.keys.specs.declared.Key.{Key}
use Rattle.rows.specs.declared.Row.{Row}
use Rattle.slots.specs.declared.Slot.{Slot}
use Rattle.streams.specs.declared.Table.{Table}
use Rattle.streams.specs.Table.{has_key}

abbrev pub row_in : Key → List Slot → Option Row
row_in k [] = none
row_in k (x ∷ rest) = if has_key k x then some x.row else row_in k rest

-- the row of the key, if the key is known
abbrev pub row_for : Key → Table → Option Row
row_for k t = row_in k t.slots
