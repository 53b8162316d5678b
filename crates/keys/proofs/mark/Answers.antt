-- The sum of the bytes, then the last of them, where there is one.
use mathlib.Core.Path.{◌≡◌, ap, ◌∙◌}
use Prim.Native.Nat.{ℕ, ◌+◌, ◌*◌}
use borrow.Author.Rules.{rules}
use Rattle.keys.specs.Key.{mark_of}
use Rattle.keys.proofs.Marks.{mark-last, mark-none}
use Rattle.keys.proofs.mark.Goals as goal

pub returns-in-Some : goal.returns-in-Some
returns-in-Some c = let f : c.from.result ≡ c.in-Some.last.now = search rules in
    ap (λ (n : ℕ). c.total.result * 256 + n) f ∙ mark-last c.part-id.result.now _ _ c.total.ensures.value c.in-Some.ensures.value ∙ ap mark_of c.part-id.ensures

pub returns-in-None : goal.returns-in-None
returns-in-None c = mark-none c.part-id.result.now c.in-None.ensures.value ∙ ap mark_of c.part-id.ensures
