-- The rules of a row (40): its places, its messages, its numbers, and, by the row's type, its sizes.
use Prim.Native.Nat.{ℕ}
use mathlib.Core.Path.{◌≡◌, refl, sym, ap, ◌∙◌}
use mathlib.Core.Bool.{true}
use borrow.Author.Tests.{eq-eqb, eqb-true, leb-true}
use lib.ListN.{length, drop}
use Rattle.octets.specs.Words.{◌or◌, every, between, ◌≤?◌, ◌=?◌}
use Rattle.octets.proofs.Lists.{unmapped}
use Rattle.row_numbers.specs.Numbers.{keeps_numbers}
use Rattle.rows.specs.Stream.{gap_open, small, keeps}
use Rattle.rows.specs.Row.{is_blank, held_in, stream_of, keeps_row}
use Rattle.rows.proofs.Words.{small_row}
use Rattle.rows.proofs.Rules.{not-bare, not-ascending, numbers-left}
use Rattle.rows.proofs.Steps.{above-is}
use Rattle.rows.proofs.Row.keeps_rules.Goals as goal

pub returns-then-not-blank_from : goal.returns-then-not-blank_from
unfolding keeps_row keeps
returns-then-not-blank_from c = sym (not-bare (length c.args.self.held =? 16) (c.args.self.count ≤? 16) _ _ (sym c.blank_from.ensures ∙ c.if-not-blank_from.true))

pub returns-then-not-ascends : goal.returns-then-not-ascends
unfolding keeps_row keeps
returns-then-not-ascends c = sym (not-ascending (length c.args.self.held =? 16) (c.args.self.count ≤? 16) (every is_blank (drop c.args.self.count c.args.self.held)) (between 1 4294967296 c.args.self.expected) _ _ _ (sym c.ascends.ensures ∙ c.if-not-ascends.true))

pub returns : goal.returns
unfolding keeps_row keeps
returns c = let sized : small (stream_of c.args.self) ≡ true = small_row c.args.self _ c.well_formed.0.1.1.1.0.1 c.well_formed.0.1.1.1.1.1.1.0 in
    let long : (length c.args.self.held =? 16) ≡ true = let l : length c.args.self.held ≡ 16 = search unmapped in eq-eqb _ _ l in
    let a = sym c.ascends.ensures ∙ c.if-not-ascends.false in
    let l = eqb-true (length c.args.self.held) 16 long in
    c.keeps_numbers.ensures ∙ ap (keeps_numbers c.args.self.count c.args.self.expected c.args.self.clock c.args.self.gap_start) c.gap_open-gap.ensures
    ∙ numbers-left _ (c.args.self.count ≤? 16) _ (between 1 4294967296 c.args.self.expected) _ _ _ (c.args.self.gap_start ≤? c.args.self.clock) (gap_open c.args.self.expected (held_in c.args.self) or c.args.self.gap_start =? 0) _ long (sym c.blank_from.ensures ∙ c.if-not-blank_from.false) a sized
    (λ h. ap (λ (n : ℕ). n ≤? 15) (above-is _ _ c.args.self l (leb-true _ _ h) a refl refl))
