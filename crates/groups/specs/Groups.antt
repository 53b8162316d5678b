-- Document 01, "Fragments": "4 groups, 16 places of 1,024 bytes each". What a group is, the rules that the groups keep (40), and their places.
use Rattle.std.specs.Prelude.{ℕ, ◌*◌, Bool, true, false, List, [], ◌∷◌, length, take, replicate, get_or, set, sum_by, if◌then◌else◌}
use Rattle.std.specs.List.{enumerate_from}
use Rattle.octets.specs.Words.{◌and◌, no, every, some, between, ◌<?◌, ◌≤?◌, ◌=?◌}
use Rattle.groupkeys.specs.declared.Key.{Key}
use Rattle.groups.specs.declared.Piece.{Piece}
use Rattle.groups.specs.declared.Group.{Group}
use Rattle.groups.specs.declared.Groups.{Groups}
use Rattle.groupkeys.specs.Key.{same_key, keeps_key, no_key}

-- THE SIZE of a place, and of the store: 4 groups of 16 places
abbrev pub place : ℕ
place = 1024

abbrev pub store_size : ℕ
store_size = 64 * place

-- ---- a group

abbrev pub no_piece : Piece
no_piece = record { held = false; len = 0 }

abbrev pub is_held : Piece → Bool
is_held p = p.held

abbrev pub free_group : Group
free_group = record { is_open = false; key = no_key; total = 0; began = 0; pieces = replicate 16 no_piece }

abbrev pub is_free : Group → Bool
is_free x = no x.is_open

-- the group is open and has the key
unfoldable pub has_key : Key → Group → Bool
has_key k x = x.is_open and same_key k x.key

-- the fragments 1 to M
abbrev pub fragments : Group → List Piece
fragments x = take x.total x.pieces

-- all of the fragments 1 to M are held
abbrev pub complete : Group → Bool
complete x = every is_held (fragments x)

-- how many bytes fragments have together
abbrev pub bytes_in : List Piece → ℕ
bytes_in l = sum_by (λ p. p.len) l

abbrev pub joined_length : Group → ℕ
joined_length x = bytes_in (fragments x)

-- ---- the state rules (40)

-- the place n (from 0) of a group of `total` fragments: held only below `total`, and not longer than its place; the length is zero where nothing is held
unfoldable pub keeps_piece : ℕ → ℕ → Piece → Bool
keeps_piece total n p = if p.held then n <? total and p.len ≤? place else p.len =? 0

abbrev pub keeps_pieces : ℕ → ℕ → List Piece → Bool
keeps_pieces total n l = every (λ e. keeps_piece total e.0 e.1) (enumerate_from n l)

-- an open group has M 2 to 16 and holds a fragment; a free one is all zero
abbrev pub keeps_use : Group → Bool
keeps_use x =
    if x.is_open then between 2 16 x.total and some is_held x.pieces
    else no x.key.has_originator and x.key.master =? 0 and x.total =? 0 and x.began =? 0

unfoldable pub keeps_group : Group → Bool
keeps_group x = length x.pieces =? 16 and keeps_pieces x.total 0 x.pieces and keeps_key x.key and keeps_use x

-- the group is open, and one of the rest has its key
abbrev pub twice : Group → List Group → Bool
twice x rest = x.is_open and some (has_key x.key) rest

-- no two open groups have equal keys
abbrev pub distinct : List Group → Bool
distinct [] = true
distinct (x ∷ rest) = no (twice x rest) and distinct rest

-- 4 groups, each of which keeps its rules, with distinct keys
unfoldable pub keeps_groups : Groups → Bool
keeps_groups t = length t.items =? 4 and every keeps_group t.items and distinct t.items

-- ---- places

-- what a list gives past its end
abbrev pub past_group : Group
past_group = record { is_open = false; key = record { has_originator = false; originator = []; originator_len = 0; master = 0 }; total = 0; began = 0; pieces = [] }

abbrev pub group_at : Groups → ℕ → Group
group_at t g = get_or t.items g past_group

abbrev pub with_group : Groups → ℕ → Group → Groups
with_group t g x = record { items = set t.items g x }

-- 4 free groups
abbrev pub empty : Groups
empty = record { items = replicate 4 free_group }
