-- Each byte is below 256.
use mathlib.Core.Path.{◌≡◌}
use native.Mathlib.Omega.{arith}
use borrow.Author.Rules.{rules}
use Rattle.std.specs.List.{sum}
use Rattle.keys.proofs.Marks.{sum-le}
use Rattle.keys.proofs.total.Goals as goal

pub returns-clause-small : goal.returns-clause-small
returns-clause-small c = let e : c.sum.result ≡ sum c.args.id.now = search rules in omega (arith, sum-le c.args.id.now (λ i. (c.type_inv.id i).fits))
