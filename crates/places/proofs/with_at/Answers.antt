-- One more at its place; past the last place nothing changes.
use mathlib.Core.Path.{◌≡◌, sym, ap, ◌∙◌}
use mathlib.Core.List.{List, ◌∷◌, ◌++◌}
use native.Mathlib.Omega.{arith}
use borrow.Author.Rules.{rules}
use lib.ListN.{length, take, drop, set}
use lib.Seq.{take_all, take_at}
use Rattle.places.specs.declared.Held.{Held}
use Rattle.places.proofs.Packing.{one-more}
use Rattle.places.proofs.with_at.Goals as goal

pub returns-then-p-ge16 : goal.returns-then-p-ge16
returns-then-p-ge16 c = let l : length c.args.held ≡ 16 = search rules in
    let t : List Held = c.args.x ∷ drop c.args.p c.args.held in
    sym (ap (λ (h : List Held). take 16 (h ++ t)) (take_all c.args.p c.args.held (omega arith)) ∙ take_at c.args.held t 16 l)

pub returns : goal.returns
returns c = let l : length c.args.held ≡ 16 = search rules in
    ap (λ (h : List Held). set h c.args.p c.args.x) c.copy_within.ensures.after ∙ one-more c.args.held c.args.p c.args.x l (omega arith)
