-- The last digit is stored at its place, and what is left before it.
use Prim.Native.Nat.{ℕ, ◌+◌}
use mathlib.Core.Path.{◌≡◌, refl, sym, ap, ◌∙◌}
use native.Mathlib.Omega.{arith}
use borrow.Author.Rules.{rules}
use native.Mathlib.Nat.{mod-lt}
use borrow.Author.Tests.{le-leb}
use lib.ListN.{length, length-set}
use Rattle.octets.specs.Bytes.{placed}
use Rattle.octets.proofs.Lists.{unplaced}
use Rattle.text.proofs.Numerals.{length_digits, digits_last, digits-done}
use Rattle.text.specs.Digits.{digits}
use Rattle.text.proofs.digits.write.Goals as goal

pub returns-then-out-at : goal.returns-then-out-at
returns-then-out-at c = unplaced (digits c.args.base c.args.count c.args.v) c.args.at c.args.out.now (omega (arith, length_digits c.args.base c.args.count c.args.v))

pub returns-then-out-at-2 : goal.returns-then-out-at-2
returns-then-out-at-2 c = unplaced (digits c.args.base c.args.count c.args.v) c.args.at c.args.out.now (omega (arith, length_digits c.args.base c.args.count c.args.v))

pub loop-i-init : goal.loop-i-init
loop-i-init c = (refl, refl)

pub digit_of-requires : goal.digit_of-requires
digit_of-requires c = let h = mod-lt c.loop-i.n {m = c.args.base} (search rules) in omega arith

pub loop-i-preserved : goal.loop-i-preserved
loop-i-preserved c = (rw length-set c.loop-i.invariant.0, rw c.digit_of.ensures (sym (digits_last c.args.base c.loop-i.i c.loop-i.n c.args.at c.loop-i.out (search rules) (search rules)) ∙ c.loop-i.invariant.1))

pub shape_of-out : goal.shape_of-out
shape_of-out c = c.loop-i.invariant.0

pub returns : goal.returns
returns c =
    let d = length_digits c.args.base c.args.count c.args.v in
    let z : c.loop-i.i ≡ 0 = omega arith in
    (sym (le-leb (c.args.at + length (digits c.args.base c.args.count c.args.v)) (length c.args.out.now) (omega arith)), sym (digits-done c.args.base c.loop-i.n c.args.at c.loop-i.out (search rules)) ∙ ap (λ (k : ℕ). placed (digits c.args.base k c.loop-i.n) c.args.at c.loop-i.out) (sym z) ∙ c.loop-i.invariant.1)
