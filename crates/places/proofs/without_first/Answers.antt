-- One less: what is left of the list closes up.
use mathlib.Core.Path.{◌≡◌, ap, ◌∙◌}
use mathlib.Core.List.{List}
use borrow.Author.Rules.{rules}
use lib.ListN.{length, set}
use Rattle.places.specs.declared.Held.{Held}
use Rattle.places.specs.Places.{blank}
use Rattle.places.proofs.Packing.{one-less}
use Rattle.places.proofs.without_first.Goals as goal

pub returns : goal.returns
returns c = let l : length c.args.held ≡ 16 = search rules in
    ap (λ (h : List Held). set h 15 blank) c.copy_within.ensures.after ∙ one-less c.args.held blank l
