-- What is gathered of the step's bytes, turn by turn, tells of all of them.
use mathlib.Core.Path.{sym, ap, ◌∙◌}
use borrow.Author.Rules.{rules}
use lib.ListN.{take, drop}
use Rattle.octets.specs.Words.{◌≤?◌}
use Rattle.utf8.proofs.AsciiRuns.{gather, gathered-ascii, ahead-all, gather-next, gather-end}
use Rattle.utf8.proofs.ascii.is_ascii.Goals as goal

pub loop-i-init : goal.loop-i-init
loop-i-init c = ap (gather 0) (sym (ahead-all c.args.s.now c.args.at c.args.width))

pub loop-i-preserved : goal.loop-i-preserved
loop-i-preserved c = c.loop-i.invariant ∙ gather-next c.args.s.now c.args.at c.args.width c.loop-i.gathered c.loop-i.i (search rules) (search rules)

pub returns : goal.returns
returns c = let t = take c.args.width (drop c.args.at c.args.s.now) in
    sym (sym (gathered-ascii 0 t) ∙ ap (λ g. g ≤? 0x7F) (c.loop-i.invariant ∙ gather-end c.args.s.now c.args.at c.args.width c.loop-i.gathered c.loop-i.i (search rules)))
