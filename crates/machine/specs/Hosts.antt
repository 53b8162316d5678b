-- A host: it makes any calls that it likes. C is what it lends at a call, a piece of the peer's bytes among it; `step` is what a call comes to.
use Rattle.std.specs.Prelude.{ℕ, Bool, true, ◌≡◌, ◌⊎◌, List, [], ◌∷◌, ◌++◌, take, drop}
use Rattle.machine.specs.Machine.{Out, Seen, before}

module _ {S E C : Type 0} (step : S → C → Out S E) (piece : C → List ℕ) where
  -- the bytes that the calls used, one after the other
  abbrev pub bytes_used : S → List C → List ℕ
  bytes_used s [] = []
  bytes_used s (c ∷ cs) = take (step s c).used (piece c) ++ bytes_used (step s c).state cs

  -- what the peer and the host see of the calls; `reports e` is what the host reports of e
  abbrev pub seen_by : (E → List E) → S → List C → Seen S E
  seen_by reports s [] = record { state = s; reply = []; happened = [] }
  seen_by reports s (c ∷ cs) = before (step s c).reply (reports (step s c).happened) (seen_by reports (step s c).state cs)

  -- ---- a host that has a stream: each piece that it offers is the beginning of what is not used yet, so unused bytes are offered again
  abbrev pub Offers : S → List ℕ → List C → Type 0
  Offers s stream [] = Unit {0}
  Offers s stream (c ∷ cs) = ((rest : List ℕ) × (piece c ++ rest ≡ stream)) × Offers (step s c).state (drop (step s c).used stream) cs

  -- what the calls leave of the stream
  abbrev pub unused : S → List ℕ → List C → List ℕ
  unused s stream [] = stream
  unused s stream (c ∷ cs) = unused (step s c).state (drop (step s c).used stream) cs

  -- it goes on until no byte is left, or the machine is closed
  abbrev pub Through : (S → Bool) → (E → List E) → S → List ℕ → List C → Type 0
  Through closed reports s stream cs = Offers s stream cs × ((unused s stream cs ≡ []) ⊎ (closed (seen_by reports s cs).state ≡ true))
