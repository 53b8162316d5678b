-- What the private functions promise one another; no public promise speaks of it.
use Rattle.std.specs.Prelude.{ℕ, ◌+◌, ◌≤◌, ◌≡◌, false, Option, Some, None, List, [], length, take, drop}
use Rattle.octets.specs.Words.{every}
use Rattle.utf8.specs.Utf8.{Range, run}
use Rattle.utf8.specs.Ascii.{ascii, behind_ascii}

-- from the place `from` on, where a character still lacks bytes in the ranges rs, the text is not well-formed, or it is decided from a place on, which
-- is at least `past`
abbrev pub Passed : List ℕ → List Range → ℕ → ℕ → Option ℕ → Type 0
Passed s rs from past None = run rs (drop from s) ≡ false
Passed s rs from past (Some next) = (past ≤ next) × (next ≤ length s) × (run rs (drop from s) ≡ run [] (drop next s))

-- from the place `at` on to `next`, within the text: the run of ASCII from either place on ends at one place, and the step of `width` bytes at `next`,
-- if a whole one is left, is not ASCII
pub record Stepped (s : List ℕ) (at width next : ℕ) : Type 0 where
  pub onward : at ≤ next
  pub within : next ≤ length s
  pub passed : behind_ascii (drop at s) ≡ behind_ascii (drop next s)
  pub stopped : next + width ≤ length s → every ascii (take width (drop next s)) ≡ false
