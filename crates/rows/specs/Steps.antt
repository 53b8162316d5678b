-- What the tests of a row come to on its held messages. No public promise cites this file.
use Rattle.std.specs.Prelude.{ℕ, Bool, false, List, [], ◌∷◌, if◌then◌else◌}
use Rattle.places.specs.declared.Held.{Held}
use Rattle.octets.specs.Words.{◌and◌, ◌<?◌, ◌≤?◌}
use Rattle.rows.specs.declared.Row.{Row}
use Rattle.rows.specs.Answer.{Outcome}
use Rattle.rows.specs.Stream.{Stream, above, due, force_from, stay}
use Rattle.rows.specs.Row.{stream_of, held_in, checked}
pub use Rattle.places.specs.Places.{place_for}
pub use Rattle.row_numbers.specs.Numbers.{above_by, start_after}

-- something is held, and the lowest is due
abbrev pub due_from : Stream → ℕ → List Held → Bool
due_from s clock [] = false
due_from s clock (lowest ∷ rest) = due s lowest clock

-- above expected with 15 such held
abbrev pub full : Stream → ℕ → Bool
full s number = s.expected <? number and 15 ≤? above s.expected s.held

-- the lowest is given where it may be, or only the clock goes on; 40 first
abbrev pub given_if : Row → Bool → ℕ → Outcome Row
given_if r due clock = checked r (if due then force_from (stream_of r) clock (held_in r) else stay (stream_of r) clock)
