-- Document 01, "Fragments": a sweep on the groups, and what a host sees of a group.
use Rattle.std.specs.Prelude.{ℕ, ◌-◌, Bool, map, if◌then◌else◌}
use Rattle.octets.specs.Words.{◌and◌, no, ◌<?◌, ◌≤?◌}
use Rattle.groups.specs.declared.Group.{Group}
use Rattle.groups.specs.declared.Groups.{Groups}
use Rattle.groups.specs.Groups.{free_group, complete, group_at}

-- an incomplete group whose first fragment came 604,800 s ago or more is freed (by an earlier clock the difference, and so the age, is 0)
unfoldable pub swept_group : ℕ → Group → Group
swept_group time x = if x.is_open and no (complete x) and 604800 ≤? time - x.began then free_group else x

abbrev pub swept_all : Groups → ℕ → Groups
swept_all t time = record { items = map (swept_group time) t.items }

-- whether group g, 0 to 3, is open and complete
abbrev pub stands_complete : Groups → ℕ → Bool
stands_complete t g = g <? 4 and (group_at t g).is_open and complete (group_at t g)
