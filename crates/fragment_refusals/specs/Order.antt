-- Document 01, "Fragments", by the order of the table: 40 first, then 23, then the lowest number, and 5 last; 0 where nothing refuses.
use Rattle.std.specs.Prelude.{ℕ, Bool, Option, Some, None, if◌then◌else◌}
use Rattle.octets.specs.Words.{◌and◌, between, ◌<?◌, ◌≤?◌}
use Rattle.refusals.specs.Numbers.{state_broken, store_length, fragment_malformed, other_total, fragment_held, not_complete, buffer_too_short}
use Rattle.refusals.specs.declared.Refusal.{Refusal}
use Rattle.refusals.specs.Refusals.{number_of}
use Rattle.groups.specs.Groups.{place}

-- M 2 to 16, N 1 to M, a fragment of 0 to 1,024 bytes
unfoldable pub fragment_ranged : ℕ → ℕ → ℕ → Bool
fragment_ranged number total len = between 2 16 total and between 1 total number and len ≤? place

-- the number of a refusal, where there is one; 0 where there is none
abbrev pub number_in : Option Refusal → ℕ
number_in None = 0
number_in (Some r) = number_of r

-- the tests that add and collect make first: whether the groups break their rules (40), whether the store has another length (23), the number
-- that refuses the key (8, 17), and whether N, M or the length is outside its range (17)
abbrev pub refuses_key : Bool → Bool → ℕ → Bool → ℕ
refuses_key broken otherLength named outside =
    if broken then state_broken
    else if otherLength then store_length
    else if 0 <? named then named
    else if outside then fragment_malformed
    else 0

-- a fragment for a group that is there: whether M differs (18), whether the fragment is held already (19)
abbrev pub refuses_joining : Bool → Bool → ℕ
refuses_joining differs held =
    if differs then other_total
    else if held then fragment_held
    else 0

-- a group that is collected: whether it is incomplete (21), whether the buffer is too short for what it holds (5)
abbrev pub refuses_collecting : Bool → Bool → ℕ
refuses_collecting incomplete short =
    if incomplete then not_complete
    else if short then buffer_too_short
    else 0
