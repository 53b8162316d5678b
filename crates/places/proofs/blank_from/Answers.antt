-- What is gathered from the places from n on is 0 where all of them are empty.
use mathlib.Core.Path.{◌≡◌, ap, ◌∙◌}
use Prim.Native.Nat.{ℕ, ◌-◌}
use native.Mathlib.Omega.{arith}
use lib.ListN.{length, take, drop}
use borrow.Author.Rules.{rules}
use Rattle.octets.specs.Words.{every, ◌=?◌}
use Rattle.places.specs.Places.{is_blank}
use Rattle.places.proofs.Packing.{bare-gathered, past}
use Rattle.places.proofs.blank_from.Goals as goal

pub returns : goal.returns
returns c = let l : length c.args.held ≡ 16 = search rules in
    ap (λ (k : ℕ). k =? 0) c.gathered.ensures ∙ bare-gathered 0 (take (16 - c.min.result) (drop c.min.result c.args.held)) ∙ ap (every is_blank) (past c.args.held c.args.n c.min.result l (omega arith))
