-- What the readers of a datagram's lists answer: what reading the fields finds, its values held in a struct of the code.
use Rattle.std.specs.Prelude.{ℕ, ◌+◌, List, [], ◌∷◌, length, replicate}
use Rattle.std.proofs.lemmas.List.Edits.{sets}
use Rattle.octets.specs.Field.{Res, bad, got, bind, Field, many_parse}
use Rattle.envelope.specs.declared.CallText.{CallText}
use Rattle.layout.specs.declared.Hops.{Hops}
use Rattle.envelope.specs.Texts.{call_text}
use Rattle.layout.specs.Layout as layout
use Rattle.layout.specs.Layout.{call}
use Rattle.datagram_lists.specs.declared.Way.{Way}

abbrev pub way_held : layout.Way → Way
way_held x = record { flood = x.0; route = x.1.0; hops = x.1.1 }

-- ---- what private readers promise one another; no public promise speaks of it

-- values added one after the other
abbrev pub folded : {A S : Type 0} → (S → A → S) → S → List A → S
folded add start [] = start
folded add start (x ∷ l) = folded add (add start x) l

-- k values from the front of s, added to what was there
unfoldable pub list_from : {A S : Type 0} → Field A → (S → A → S) → ℕ → S → List ℕ → Res S
list_from F add k start s = bind (many_parse F k s) (λ l n. got (folded add start l) n)

-- n bytes more
abbrev pub further : {S : Type 0} → ℕ → Res S → Res S
further n bad = bad
further n (got b m) = got b (n + m)

-- hops from a place of their array on, blanks elsewhere
abbrev pub hops_at : ℕ → List CallText → Hops
hops_at at l = record { count = at + length l; items = sets (replicate 16 (call_text [])) at l }

-- k hops from the front of s, held so
unfoldable pub hops_from : ℕ → ℕ → List ℕ → Res Hops
hops_from k at s = bind (many_parse (call 1) k s) (λ l n. got (hops_at at l) n)
