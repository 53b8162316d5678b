-- Four hex digits spell a number below 2 ^ 16.
use mathlib.Core.Path.{refl, sym, ◌∙◌}
use borrow.Author.Rules.{rules}
use Rattle.text.proofs.Hexes.{hex-read, hex-long}
use Rattle.text.proofs.read_chk.Goals as goal

pub returns-then-s-ne4 : goal.returns-then-s-ne4
returns-then-s-ne4 c = sym (hex-long 4 c.args.s.now c.if-s-ne4.true)

pub returns-in_err-read : goal.returns-in_err-read
returns-in_err-read c = c.from_residual.ensures ∙ sym c.in_err-read.was ∙ c.read.ensures ∙ hex-read 4 0xFFFF c.args.s.now (search rules) refl

pub returns : goal.returns
returns c = sym c.in_ok-read.was ∙ c.read.ensures ∙ hex-read 4 0xFFFF c.args.s.now (search rules) refl
