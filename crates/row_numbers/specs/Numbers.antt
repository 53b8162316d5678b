-- Document 01, "Streams": what a row's rules and calls come to in numbers alone.
use Rattle.std.specs.Prelude.{ℕ, ◌-◌, Bool, if◌then◌else◌}
use Rattle.octets.specs.Words.{◌and◌, ◌or◌, no, between, ◌<?◌, ◌≤?◌, ◌=?◌}
use Rattle.refusals.specs.Numbers.{state_broken, stale, already_held, row_full}

-- how many of n ascending messages stand above expected, by whether the gap before them is open
abbrev pub above_by : Bool → ℕ → ℕ
above_by gap n = if gap then n else (n - 1)

-- gap start is at most the clock, and 0 where no gap is open
abbrev pub timed_by : ℕ → ℕ → Bool → Bool
timed_by clock start gap = start ≤? clock and (gap or start =? 0)

-- at most sixteen are held; expected is 1 to 4294967296, and at most 15 are above it; and the gap start is timed
abbrev pub keeps_numbers : ℕ → ℕ → ℕ → ℕ → Bool → Bool
keeps_numbers count expected clock start gap = count ≤? 16 and (between 1 4294967296 expected and above_by gap count ≤? 15) and timed_by clock start gap

-- the number that refuses an offer, 0 where none does: 40; below expected is stale; what is held is not held again; above expected with 15 such
-- held is row full
abbrev pub refuses_offer : Bool → ℕ → ℕ → Bool → ℕ → ℕ
refuses_offer keeps number expected held above =
    if no keeps then state_broken
    else if number <? expected then stale
    else if held then already_held
    else if expected <? number and 15 ≤? above then row_full
    else 0

-- the gap start after an offer: the clock where this opened the gap, kept where the gap stays open, and 0 where it is closed
abbrev pub start_after : Bool → Bool → ℕ → ℕ → ℕ
start_after before after kept clock = if after then (if before then kept else clock) else 0

-- a message is due if it is expected, or if its timeout is above 0 and clock minus gap start is at least that timeout
abbrev pub is_due : ℕ → ℕ → ℕ → ℕ → ℕ → Bool
is_due number timeout expected start clock = number =? expected or (0 <? timeout and timeout ≤? clock - start)

-- something is held, and the lowest is due
abbrev pub due_by : ℕ → ℕ → ℕ → ℕ → ℕ → ℕ → Bool
due_by count number timeout expected start clock = 0 <? count and is_due number timeout expected start clock
