-- What the reader of a datagram's first fields answers: what reading them finds, held in a struct of the code.
use Rattle.std.specs.Prelude.{ℕ, ◌+◌, ◌≤◌, ◌≡◌, List, length, Option, Some, None}
use Rattle.octets.specs.Field.{Res, bad, got}
use Rattle.layout.specs.Layout as layout
use Rattle.datagram_numbers.specs.declared.Opening.{Opening}

abbrev pub opening_held : layout.Opening → Opening
opening_held x = record { flags = x.0; id = x.1.0; salt = x.1.1.0; ttl = x.1.1.1 }

-- ---- what the theorems on fields one after the other speak of; no public promise does

-- a reader's answer of a field in s: nothing where it is not there, else its value with the bytes that it took, no more than there are
abbrev pub finding : {A : Type 0} → Res A → List ℕ → Option (A × ℕ) → Type 0
finding x s None = x ≡ bad
finding x s (Some q) = (x ≡ got q.0 q.1) × (q.1 ≤ length s)

-- two answers as one: both values with the bytes of both, nothing where one of them is not there
abbrev pub joined : {A B : Type 0} → Option (A × ℕ) → Option (B × ℕ) → Option ((A × B) × ℕ)
joined None p = None
joined (Some q) None = None
joined (Some q) (Some r) = Some ((q.0, r.0), q.1 + r.1)
