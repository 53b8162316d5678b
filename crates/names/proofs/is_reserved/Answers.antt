-- Its place lies in the table.
use Prim.Native.Nat.{ℕ}
use mathlib.Core.Path.{ap, sym, ◌∙◌}
use Rattle.octets.specs.Words.{◌<?◌}
use Rattle.names.proofs.Reserved.{reserved-place}
use Rattle.names.proofs.is_reserved.Goals as goal

pub returns : goal.returns
returns c = ap (λ (n : ℕ). n <? 13) c.reserved_place.ensures ∙ sym (reserved-place c.args.s.now)
