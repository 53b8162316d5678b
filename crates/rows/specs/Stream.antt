-- Document 01, "Streams": a row as the paper has it, with the list of its held messages; the rules that it keeps, and its three calls.
use Rattle.std.specs.Prelude.{ℕ, ◌+◌, max, Bool, List, [], ◌∷◌, if◌then◌else◌}
use Rattle.octets.specs.Words.{◌and◌, every, between, ◌<?◌, ◌≤?◌}
use Rattle.refusals.specs.Numbers.{stale, already_held, row_full}
use Rattle.row_numbers.specs.Numbers.{timed_by, start_after, is_due}
use Rattle.places.specs.declared.Held.{Held}
pub use Rattle.places.specs.Messages.{word, words, ascending, above, holds, insert, gap_open}
use Rattle.rows.specs.Answer.{accepted, given, nothing, Outcome, refuse}

-- a row: the expected number, the clock, the gap start, and the held messages in ascending number
pub record Stream : Type 0 where
  pub expected : ℕ
  pub clock : ℕ
  pub gap_start : ℕ
  pub held : List Held

-- a new row expects 1, and its clock is 0
abbrev pub fresh : Stream
fresh = record { expected = 1; clock = 0; gap_start = 0; held = [] }

-- ---- the rules

-- expected is 1 to 4294967296; held numbers ascend strictly and are not below expected, and at most 15 of them are above it
abbrev pub ordered : Stream → Bool
ordered s = between 1 4294967296 s.expected and ascending s.expected s.held and above s.expected s.held ≤? 15

-- gap start is at most the clock, and 0 where no gap is open
abbrev pub timed : Stream → Bool
timed s = timed_by s.clock s.gap_start (gap_open s.expected s.held)

-- times are 0 to 4294967295, and so are the numbers, timeouts and slips
abbrev pub small : Stream → Bool
small s = word s.clock and every words s.held

-- what document 01 says of every row
unfoldable pub keeps : Stream → Bool
keeps s = ordered s and timed s and small s

-- ---- the calls

-- an accepted offer puts the message in its place; the gap start is the clock where this opened the gap, is kept where the gap stays open,
-- and is 0 where it is closed
abbrev pub accept : Stream → Held → ℕ → Outcome Stream
accept s m clock =
    let held = insert m s.held in
    let start = start_after (gap_open s.expected s.held) (gap_open s.expected held) s.gap_start clock in
    record { answer = accepted; after = record { expected = s.expected; clock = clock; gap_start = start; held = held } }

-- below expected is stale; what is held is not held again; above expected with 15 such held is row full
unfoldable pub offer : Stream → Held → ℕ → Outcome Stream
offer s m time =
    if m.number <? s.expected then refuse stale s
    else if holds m.number s.held then refuse already_held s
    else if s.expected <? m.number and 15 ≤? above s.expected s.held then refuse row_full s
    else accept s m (max s.clock time)

-- nothing is given, and the clock goes on
abbrev pub stay : Stream → ℕ → Outcome Stream
stay s clock = record { answer = nothing; after = record { expected = s.expected; clock = clock; gap_start = s.gap_start; held = s.held } }

-- giving makes expected the number plus 1; a give that leaves the gap open starts it anew, at the clock
abbrev pub give : Held → List Held → ℕ → Outcome Stream
give m rest clock =
    let next = m.number + 1 in
    let start = if gap_open next rest then clock else 0 in
    record { answer = given m.number m.slip; after = record { expected = next; clock = clock; gap_start = start; held = rest } }

-- the lowest held is due if it is expected, or if its timeout is above 0 and clock minus gap start is at least that timeout
abbrev pub due : Stream → Held → ℕ → Bool
due s m clock = is_due m.number m.timeout s.expected s.gap_start clock

abbrev pub take_from : Stream → ℕ → List Held → Outcome Stream
take_from s clock [] = stay s clock
take_from s clock (lowest ∷ rest) = if due s lowest clock then give lowest rest clock else stay s clock

-- a take gives the lowest held if it is due, otherwise nothing
unfoldable pub take : Stream → ℕ → Outcome Stream
take s time = take_from s (max s.clock time) s.held

abbrev pub force_from : Stream → ℕ → List Held → Outcome Stream
force_from s clock [] = stay s clock
force_from s clock (lowest ∷ rest) = give lowest rest clock

-- a force gives the lowest held, whatever the gap; if none, nothing
unfoldable pub force : Stream → ℕ → Outcome Stream
force s time = force_from s (max s.clock time) s.held
