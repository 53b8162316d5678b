-- Document 01, "Fragments": the calls on the groups, with the refusals in the order of the paper's table, 40 first, then 23, and 5 last.
use Rattle.std.specs.Prelude.{ℕ, ◌-◌, Bool, true, get_or, set, replicate, Option, Some, None, Result, position, if◌then◌else◌}
use Rattle.octets.specs.Words.{no, ◌<?◌, ◌=?◌}
use Rattle.refusals.specs.Numbers.{state_broken, no_free_group, not_complete}
use Rattle.refusals.specs.declared.Refusal.{Refusal}
use Rattle.refusals.specs.Refusals.{refusal_in}
use Rattle.fragment_refusals.specs.Order.{fragment_ranged, refuses_key, refuses_joining, refuses_collecting}
use Rattle.groupkeys.specs.declared.Key.{Key}
use Rattle.groupkeys.specs.Key.{key_in}
use Rattle.groups.specs.declared.Group.{Group}
use Rattle.groups.specs.declared.Groups.{Groups}
use Rattle.groups.specs.Groups.{store_size, no_piece, free_group, is_free, has_key, complete, joined_length, keeps_groups, group_at, with_group}
use Rattle.groupsweep.specs.Sweep.{swept_all, stands_complete}
unfoldable pub use Rattle.groupsweep.specs.Sweep.{swept_group}
use Rattle.groupcalls.specs.declared.Fragment.{Fragment}
use Rattle.groupcalls.specs.Answer.{added, swept, collected, Outcome, refuse, Stand, is_complete, is_incomplete, unseen}

-- refused with the number n, or not at all where it is 0
abbrev pub unless : ℕ → Groups → Outcome → Outcome
unless n t o = if 0 <? n then refuse n t else o

-- the tests that add and collect make first: 40, then 23, then 8 and 17 for the key (which `named_of` gives), then 17 for N, M and the length
unfoldable pub gate : Groups → ℕ → Result Key Refusal → Bool → ℕ
gate t size named ranged = refuses_key (no (keeps_groups t)) (no (size =? store_size)) (refusal_in named) (no ranged)

-- ---- add

abbrev pub in_range : Fragment → Bool
in_range f = fragment_ranged f.number f.total f.len

-- the group x with the fragment held
abbrev pub with_fragment : Group → Fragment → Group
with_fragment x f =
    record { is_open = x.is_open; key = x.key; total = x.total; began = x.began; pieces = set x.pieces (f.number - 1) (record { held = true; len = f.len }) }

abbrev pub add_to : Groups → ℕ → Group → Fragment → Outcome
add_to t g x f = record { answer = added g; after = with_group t g (with_fragment x f) }

-- to the group that has the key: M differs (18), or the fragment is held already (19)
abbrev pub add_at : Groups → ℕ → Fragment → Outcome
add_at t g f = unless (refuses_joining (no ((group_at t g).total =? f.total)) (get_or (group_at t g).pieces (f.number - 1) no_piece).held) t (add_to t g (group_at t g) f)

-- a group that opens with this fragment: no fragment is held yet
abbrev pub new_group : Key → Fragment → Group
new_group k f = record { is_open = true; key = k; total = f.total; began = f.time; pieces = replicate 16 no_piece }

-- a new group takes the lowest free one, if there is one (20)
abbrev pub add_in : Groups → Key → Fragment → Option ℕ → Outcome
add_in t k f (Some g) = add_to t g (new_group k f) f
add_in t k f None = refuse no_free_group t

abbrev pub add_new : Groups → Key → Fragment → Outcome
add_new t k f = add_in t k f (position is_free t.items)

abbrev pub add_by : Groups → Key → Fragment → Option ℕ → Outcome
add_by t k f (Some g) = add_at t g f
add_by t k f None = add_new t k f

unfoldable pub add : Groups → ℕ → Result Key Refusal → Fragment → Outcome
add t size named f = unless (gate t size named (in_range f)) t (add_by t (key_in named) f (position (has_key (key_in named)) t.items))

-- ---- collect

-- the group that has the key: incomplete is 21, a buffer too short for all that it holds 5; else it is freed
abbrev pub collect_at : Groups → ℕ → ℕ → Outcome
collect_at t g room =
    unless (refuses_collecting (no (complete (group_at t g))) (room <? joined_length (group_at t g))) t
    (record { answer = collected g (joined_length (group_at t g)); after = with_group t g free_group })

-- an unknown key is 21
abbrev pub collect_by : Groups → ℕ → Option ℕ → Outcome
collect_by t room (Some g) = collect_at t g room
collect_by t room None = refuse not_complete t

unfoldable pub collect : Groups → ℕ → Result Key Refusal → ℕ → Outcome
collect t size named room = unless (gate t size named true) t (collect_by t room (position (has_key (key_in named)) t.items))

-- ---- sweep

unfoldable pub sweep : Groups → ℕ → Outcome
sweep t time = if no (keeps_groups t) then refuse state_broken t else record { answer = swept; after = swept_all t time }

-- ---- what a host sees: whether a group is complete

unfoldable pub standing : Groups → ℕ → Stand
standing t g =
    if no (keeps_groups t) then unseen state_broken
    else if stands_complete t g then is_complete
    else is_incomplete
