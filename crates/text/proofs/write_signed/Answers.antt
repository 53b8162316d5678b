-- The digits of the magnitude, behind a minus where there is one.
use Prim.Native.Nat.{ℕ}
use mathlib.Core.Path.{◌≡◌, sym, ap, ◌∙◌}
use mathlib.Core.List.{◌∷◌}
use borrow.Author.Rules.{rules}
use Rattle.text.proofs.Sign.{minus-decimal, minus-written}
use Rattle.text.specs.Decimal.{decimal, signed_decimal}
use Rattle.text.proofs.write_signed.Goals as goal

pub returns : goal.returns
returns c =
    let e : signed_decimal c.args.v ≡ 0x2D ∷ decimal c.unsigned_abs-m.result = minus-decimal c.args.v c.ranges.v c.if-v-ge0.false ∙ ap (λ (m : ℕ). 0x2D ∷ decimal m) (sym c.unsigned_abs-m.ensures.value) in
    rw e (minus-written c.unsigned_abs-m.result c.number_size-n.result c.args.at c.args.out.now _ _ c.number_size-n.ensures (search rules) c.write.ensures)
