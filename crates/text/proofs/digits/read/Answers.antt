-- What was read goes on with the rest; past the limit nothing brings it back.
use Rattle.std.specs.Prelude.{Option, None}
use Prim.Native.Nat.{ℕ, ◌+◌, ◌*◌, ◌<◌}
use mathlib.Core.Path.{◌≡◌, sym, ap, ◌∙◌}
use native.Mathlib.Omega.{arith}
use borrow.Author.Rules.{rules}
use lib.ListN.{length, get_or, drop}
use Rattle.octets.proofs.Lists.{every-next, every-end}
use Rattle.text.specs.Digits.{worth, is_digit}
use Rattle.text.proofs.Numerals.{on, on-at, on-done, worth_in-some, spelled-past, spelled_is}
use Rattle.text.proofs.digits.read.Goals as goal

pub returns-in_err-checked_mul : goal.returns-in_err-checked_mul
returns-in_err-checked_mul c = let r : ◌≡◌ {A = Option ℕ} c.from_residual-in_err-checked_mul.result None = search rules in
    let h : c.args.limit < c.loop-b.n * c.args.base + worth (get_or c.args.s.now c.loop-b.b-index 0) = omega (arith, c.in_err-checked_mul.ensures) in
    r ∙ sym (spelled-past c.args.base c.args.limit c.loop-b.n c.args.s.now c.loop-b.b-index (search rules) (search rules) c.loop-b.invariant.2 h)

pub returns-in_err-n : goal.returns-in_err-n
returns-in_err-n c = let r : ◌≡◌ {A = Option ℕ} c.from_residual-in_err-n.result None = search rules in
    let w = worth_in-some c.args.base (get_or c.args.s.now c.loop-b.b-index 0) c.in_ok-d.d (sym c.worth_of.ensures ∙ c.in_ok-d.was) in
    let h : c.args.limit < c.loop-b.n * c.args.base + worth (get_or c.args.s.now c.loop-b.b-index 0) = omega (arith, c.in_err-n.ensures) in
    r ∙ sym (spelled-past c.args.base c.args.limit c.loop-b.n c.args.s.now c.loop-b.b-index (search rules) (search rules) c.loop-b.invariant.2 h)

pub returns-then-n-limit : goal.returns-then-n-limit
returns-then-n-limit c =
    let w = worth_in-some c.args.base (get_or c.args.s.now c.loop-b.b-index 0) c.in_ok-d.d (sym c.worth_of.ensures ∙ c.in_ok-d.was) in
    let h : c.args.limit < c.loop-b.n * c.args.base + worth (get_or c.args.s.now c.loop-b.b-index 0) = omega arith in
    sym (spelled-past c.args.base c.args.limit c.loop-b.n c.args.s.now c.loop-b.b-index (search rules) (search rules) c.loop-b.invariant.2 h)

pub loop-b-preserved : goal.loop-b-preserved
loop-b-preserved c =
    let w = worth_in-some c.args.base (get_or c.args.s.now c.loop-b.b-index 0) c.in_ok-d.d (sym c.worth_of.ensures ∙ c.in_ok-d.was) in
    let e : c.loop-b.n * c.args.base + worth (get_or c.args.s.now c.loop-b.b-index 0) ≡ c.in_ok-n.n = omega arith in (
      search rules,
      c.loop-b.invariant.1 ∙ every-next (is_digit c.args.base) c.args.s.now c.loop-b.b-index 0 (search rules) w.0,
      c.loop-b.invariant.2 ∙ on-at c.args.base c.loop-b.n c.args.s.now c.loop-b.b-index (search rules) ∙ ap (λ (d : ℕ). on c.args.base d (drop (c.loop-b.b-index + 1) c.args.s.now)) e,
    )

pub returns : goal.returns
returns c =
    let e : c.loop-b.b-index ≡ length c.args.s.now = omega arith in
    sym (spelled_is c.args.base c.args.limit c.loop-b.n c.args.s.now (c.loop-b.invariant.1 ∙ every-end _ c.args.s.now c.loop-b.b-index e) (c.loop-b.invariant.2 ∙ on-done c.args.base c.loop-b.n c.args.s.now c.loop-b.b-index e) c.loop-b.invariant.0)
