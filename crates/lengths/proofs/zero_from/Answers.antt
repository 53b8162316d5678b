-- The bytes gathered are zero if each is.
use Prim.Native.Nat.{ℕ}
use mathlib.Core.Path.{ap, ◌∙◌}
use lib.ListN.{drop}
use Rattle.octets.specs.Words.{◌=?◌}
use Rattle.lengths.proofs.Zeros.{all-gathered, part-from}
use Rattle.lengths.proofs.zero_from.Goals as goal

pub returns : goal.returns
returns c = let e = rw (c.min.ensures, part-from c.args.n c.args.s.now) at c.gathered.ensures in ap (λ (x : ℕ). x =? 0) e ∙ all-gathered 0 (drop c.args.n c.args.s.now)
