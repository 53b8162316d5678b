-- Tail bytes: each one takes the place of one that the character lacks.
use Prim.Native.Nat.{◌+◌, ◌-◌}
use mathlib.Core.Path.{◌≡◌, refl, ◌∙◌}
use native.Mathlib.Omega.{arith}
use Rattle.octets.proofs.Tests.{above, below}
use Rattle.utf8.proofs.Runs.{tail-in, tail-out, tail-cut}
use Rattle.utf8.proofs.characters.tails.Goals as goal

pub loop-done-init : goal.loop-done-init
loop-done-init c =
    let e : c.args.from + 0 ≡ c.args.from = omega arith in
    let d : c.args.count - 0 ≡ c.args.count = omega arith in
    (omega arith, rw (e, d) refl)

pub returns-then-at-s : goal.returns-then-at-s
returns-then-at-s c = c.loop-done.invariant.1 ∙ tail-cut c.args.s.now (c.args.from + c.loop-done.done) (c.args.count - c.loop-done.done) (omega arith) (omega arith)

pub returns-then-s-at-lt128 : goal.returns-then-s-at-lt128
returns-then-s-at-lt128 c = c.loop-done.invariant.1 ∙ tail-out c.args.s.now (c.args.from + c.loop-done.done) (c.args.count - c.loop-done.done) (omega arith) (omega arith) (below _ _ _ c.if-s-at-lt128.true)

pub returns-then-s-at-gt191 : goal.returns-then-s-at-gt191
returns-then-s-at-gt191 c = c.loop-done.invariant.1 ∙ tail-out c.args.s.now (c.args.from + c.loop-done.done) (c.args.count - c.loop-done.done) (omega arith) (omega arith) (above 128 _ _ c.if-s-at-gt191.true)

pub loop-done-preserved : goal.loop-done-preserved
loop-done-preserved c =
    let e : c.args.from + (c.loop-done.done + 1) ≡ c.args.from + c.loop-done.done + 1 = omega arith in
    let d : c.args.count - (c.loop-done.done + 1) ≡ c.args.count - c.loop-done.done - 1 = omega arith in
    (omega arith, rw (e, d) (c.loop-done.invariant.1 ∙ tail-in c.args.s.now (c.args.from + c.loop-done.done) (c.args.count - c.loop-done.done) (omega arith) (omega arith) (omega arith) (omega arith)))

pub returns : goal.returns
returns c =
    let e : c.loop-done.done ≡ c.args.count = omega arith in
    let d : c.args.count - c.args.count ≡ 0 = omega arith in
    (omega arith, omega arith, rw (e, d) at c.loop-done.invariant.1)
