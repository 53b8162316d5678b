-- Lists of bytes: when two are the same, and what a lent buffer holds after bytes were written into it.
use Rattle.std.specs.Prelude.{ℕ, ◌+◌, ◌<◌, Bool, List, ◌++◌, length, take, drop, get_or, if◌then◌else◌}
use Rattle.std.specs.Str.{bytes_eq}
use Rattle.octets.specs.Words.{every, ◌≤?◌, ◌=?◌}

-- every number of the list is a byte
abbrev pub Bytes : List ℕ → Type 0
Bytes s = (i : ℕ) → get_or s i 0 < 256

-- every byte is 0
abbrev pub all_zero : List ℕ → Bool
all_zero s = every (λ b. b =? 0) s

-- two texts are the same: byte for byte, and neither goes on
abbrev pub same : List ℕ → List ℕ → Bool
same s t = bytes_eq s t

-- the buffer with w in the place of its first bytes
abbrev pub front : {A : Type 0} → List A → List A → List A
front w buffer = w ++ drop (length w) buffer

-- w fits into the buffer from the place `at` on
abbrev pub fits : {A : Type 0} → List A → ℕ → List A → Bool
fits w at buffer = at + length w ≤? length buffer

-- the buffer with w in it from the place `at` on; where w does not fit, the buffer as it was
abbrev pub placed : {A : Type 0} → List A → ℕ → List A → List A
placed w at buffer = if fits w at buffer then take at buffer ++ (w ++ drop (at + length w) buffer) else buffer
