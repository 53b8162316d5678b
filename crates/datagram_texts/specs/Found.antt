-- What the readers of a datagram's texts answer: what reading the field finds, its values held in a struct of the code.
use Rattle.std.specs.Prelude.{ℕ, ◌+◌, true, List, drop, Option, Some, None, if◌then◌else◌}
use Rattle.std.proofs.Common.{Bor}
use Rattle.octets.specs.Words.{◌≤?◌}
use Rattle.octets.specs.Field.{Res, bad, got, bind, raw}
use Rattle.layout.specs.Layout as layout
use Rattle.datagram_texts.specs.declared.Ends.{Ends}

abbrev pub ends_held : layout.Ends → Ends
ends_held x = record { dst = x.0; src = x.1.0; link = x.1.1 }

-- ---- what private readers promise one another; no public promise speaks of it

-- what is seen of a part that was found
abbrev pub seen : Option (Bor (List ℕ) × ℕ) → Option (List ℕ × ℕ)
seen None = None
seen (Some p) = Some (p.0.now, p.1)

-- the v bytes behind the first k, no more than `most`
abbrev pub text_behind : ℕ → ℕ → ℕ → List ℕ → Res (List ℕ)
text_behind k v most s = bind (if v ≤? most then got v k else bad) (λ n m. bind ((raw (λ x. true) n).parse (drop m s)) (λ l j. got l (m + j)))
