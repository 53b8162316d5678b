-- Seven hex digits spell a number below 2 ^ 28.
use mathlib.Core.Path.{refl, sym, ◌∙◌}
use borrow.Author.Rules.{rules}
use Rattle.text.proofs.Hexes.{hex-read, hex-long}
use Rattle.text.proofs.read_id.Goals as goal

pub returns-then-s-ne7 : goal.returns-then-s-ne7
returns-then-s-ne7 c = sym (hex-long 7 c.args.s.now c.if-s-ne7.true)

pub returns-in_err-read : goal.returns-in_err-read
returns-in_err-read c = c.from_residual.ensures ∙ sym c.in_err-read.was ∙ c.read.ensures ∙ hex-read 7 0xFFFFFFF c.args.s.now (search rules) refl

pub returns : goal.returns
returns c = sym c.in_ok-read.was ∙ c.read.ensures ∙ hex-read 7 0xFFFFFFF c.args.s.now (search rules) refl
