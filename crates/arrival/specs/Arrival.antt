-- Document 02, W14: "Order of arrival is nobody's business". What a stream was offered and what it gave out, in words of its history; then the
-- statement of one row by itself.
use Rattle.std.specs.Prelude.{ℕ, zero, suc, ◌+◌, ◌≡◌, true, List, [], ◌∷◌, ◌++◌}
use Rattle.octets.specs.Words.{between}
use Rattle.places.specs.declared.Held.{Held}
use Rattle.rows.specs.Stream.{Stream, fresh, keeps}
use Rattle.history.specs.History.{accepts, gives, gives_nothing, History, opened, restored, ◌▷◌, Sent, taken_in, given_out, bit, count_held, numbered, In}
use Rattle.history.specs.Chain.{Call, small, noted, row_call}

-- ---- in words of a history

-- exactly the numbers 1 to n, each once, in whatever order, and each with the slip of its number
pub record Exactly (n : ℕ) (slip : ℕ → ℕ) (l : List Held) : Type 0 where
  pub numbers : (i : ℕ) → count_held (numbered i) l ≡ bit (between 1 n i)
  pub slips : (m : Held) → In m l → m.slip ≡ slip m.number

-- "at the end until nothing comes": the last call on the stream that was not refused gave nothing (refused calls are in no history)
abbrev pub GaveNothing : History → Type 0
GaveNothing opened = ⊥
GaveNothing (restored s) = ⊥
GaveNothing (h ▷ accepts m time) = ⊥
GaveNothing (h ▷ gives way n slip time) = ⊥
GaveNothing (h ▷ gives_nothing time) = Unit {0}

-- "1 to n in order", each with the slip of its number
abbrev pub in_order : (n : ℕ) → (ℕ → ℕ) → List Sent
in_order zero slip = []
in_order (suc n) slip = in_order n slip ++ (record { number = n + 1; slip = slip (n + 1) } ∷ [])

-- ---- THE STATEMENT, of one row by itself

-- `Alone h s`: a row by itself, asked call after call, came to s; h is its history. It begins fresh, or as an image brought it, what it then
-- holds counted as accepted
pub data Alone : History → Stream → Type 0 where
  begins : Alone opened fresh
  brought : (s : Stream) → keeps s ≡ true → Alone (restored s) s
  asks : {h : History} {s : Stream} → Alone h s → (c : Call) → small c ≡ true → Alone (noted h c (row_call s c).answer) (row_call s c).after

-- a row that accepted exactly 1 to n since it was opened or brought, and was asked until nothing came
pub record Heard (n : ℕ) (slip : ℕ → ℕ) : Type 0 where
  pub history : History
  pub row : Stream
  pub alone : Alone history row
  pub exactly : Exactly n slip (taken_in history)
  pub ends : GaveNothing history

-- it gave out 1 to n in order, and holds nothing
pub record AllOut (n : ℕ) (slip : ℕ → ℕ) (h : History) (held : List Held) : Type 0 where
  pub gave : given_out h ≡ in_order n slip
  pub holds : held ≡ []
