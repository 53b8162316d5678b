-- Without a minus the number itself.
use mathlib.Core.Path.{◌≡◌, sym, ap, ◌∙◌}
use mathlib.Core.Bool.{false}
use native.Mathlib.Omega.{arith}
use borrow.Author.Rules.{rules}
use mir.Syntax.{w64}
use mir.ValLaws.{to_z-of_z}
use lib.IntN.{pos}
use Rattle.std.specs.Prelude.{Some}
use Rattle.text.specs.Decimal.{has_minus}
use Rattle.text.proofs.Sign.{no_minus-empty, no_minus-other, signed-none, signed-some}
use Rattle.text.proofs.read_signed.Goals.{then-s-lt1, else-s-lt1+in_default-1}
use Rattle.text.proofs.read_signed.Goals as goal

pub returns-in_err-read_number-2 : goal.returns-in_err-read_number-2
returns-in_err-read_number-2 c =
    let e : has_minus c.args.s.now ≡ false = elim c.if-s-lt1.branch [ then-s-lt1 w ↦ no_minus-empty c.args.s.now (search rules) | else-s-lt1+in_default-1 w ↦ no_minus-other c.args.s.now (search rules) ] in
    c.from_residual-in_err-read_number-2.ensures ∙ sym (signed-none c.args.s.now e (sym c.read_number-2.ensures ∙ c.in_err-read_number-2.was))

pub returns : goal.returns
returns c =
    let e : has_minus c.args.s.now ≡ false = elim c.if-s-lt1.branch [ then-s-lt1 w ↦ no_minus-empty c.args.s.now (search rules) | else-s-lt1+in_default-1 w ↦ no_minus-other c.args.s.now (search rules) ] in
    let p = signed-some c.args.s.now c.in_ok-read_number-2.field-0 e (sym c.read_number-2.ensures ∙ c.in_ok-read_number-2.was) in
    ap Some (to_z-of_z w64 (pos c.in_ok-read_number-2.field-0) (record { sfits = omega (arith, p.1) })) ∙ sym p.0
