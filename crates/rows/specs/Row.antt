-- A row as the code has it: the held messages stand in sixteen places, the first `count` of them, and the places past the count are all zero.
use Rattle.std.specs.Prelude.{ℕ, Bool, List, length, drop, replicate, if◌then◌else◌}
use Rattle.std.proofs.Math.ListN as list
use Rattle.octets.specs.Words.{◌and◌, every, ◌≤?◌, ◌=?◌}
use Rattle.refusals.specs.Numbers.{state_broken}
use Rattle.places.specs.declared.Held.{Held}
pub use Rattle.places.specs.Places.{blank, is_blank, places}
use Rattle.rows.specs.declared.Row.{Row}
use Rattle.rows.specs.Answer.{Outcome, refuse}
use Rattle.rows.specs.Stream.{Stream, keeps, offer, take, force}

-- the messages that a row holds
abbrev pub held_in : Row → List Held
held_in r = list.take r.count r.held

-- the row that the struct stands for
abbrev pub stream_of : Row → Stream
stream_of r = record { expected = r.expected; clock = r.clock; gap_start = r.gap_start; held = held_in r }

-- the struct that stands for a row
abbrev pub row_of : Stream → Row
row_of s = record { expected = s.expected; clock = s.clock; gap_start = s.gap_start; count = length s.held; held = places s.held }

-- the state rules of a row (40): sixteen places, at most sixteen held, the places past the count all zero, and the rules of the row that it
-- stands for
unfoldable pub keeps_row : Row → Bool
keeps_row r = length r.held =? 16 and r.count ≤? 16 and every is_blank (drop r.count r.held) and keeps (stream_of r)

-- a row that is all zero: no stream's
abbrev pub no_row : Row
no_row = record { expected = 0; clock = 0; gap_start = 0; count = 0; held = replicate 16 blank }

unfoldable pub is_no_row : Row → Bool
is_no_row r = length r.held =? 16 and r.expected =? 0 and r.clock =? 0 and r.gap_start =? 0 and r.count =? 0 and every is_blank r.held

-- ---- the calls: 40 first, then what document 01 says of the row

abbrev pub packed : Outcome Stream → Outcome Row
packed o = record { answer = o.answer; after = row_of o.after }

abbrev pub checked : Row → Outcome Stream → Outcome Row
checked r o = if keeps_row r then packed o else refuse state_broken r

abbrev pub offer_of : Row → Held → ℕ → Outcome Row
offer_of r m time = checked r (offer (stream_of r) m time)

abbrev pub take_of : Row → ℕ → Outcome Row
take_of r time = checked r (take (stream_of r) time)

abbrev pub force_of : Row → ℕ → Outcome Row
force_of r time = checked r (force (stream_of r) time)
