-- The lowest number that refuses the line, or the line.
use Rattle.std.specs.Prelude.{Err}
use mathlib.Core.Path.{◌≡◌, sym, ap, ◌∙◌}
use borrow.Author.Rules.{rules}
use Rattle.line.specs.Reading.{says}
use Rattle.line.proofs.Refusals.{line-head, line-values, line_refused, line_read}
use Rattle.line.proofs.read_line.Goals as goal

pub returns-in_default : goal.returns-in_default
returns-in_default c = line-head c.args.s.now (sym c.read_head.ensures ∙ c.in_default.is)

pub returns-in_default-read_values : goal.returns-in_default-read_values
returns-in_default-read_values c = line-values c.args.s.now c.in-Some.id (sym c.read_head.ensures ∙ c.in-Some.is) c.rest.result.now c.rest.ensures (sym c.read_values.ensures ∙ c.in_default-read_values.is)

pub returns-in_err-refuses_reading : goal.returns-in_err-refuses_reading
returns-in_err-refuses_reading c =
    let e : c.from_residual.result ≡ Err c.in_err-refuses_reading.field-0.0 = search rules in
    ap says e ∙ line_refused c.args.s.now c.in-Some.id (sym c.read_head.ensures ∙ c.in-Some.is) c.rest.result.now c.rest.ensures c.in-Some-read_values.v (sym c.read_values.ensures ∙ c.in-Some-read_values.is) c.is_valid-valid.result c.is_valid-valid.ensures c.is_right-right.result c.is_right-right.ensures c.in_err-refuses_reading.field-0.0 c.in_err-refuses_reading.ensures

pub returns : goal.returns
returns c =
    line_read c.args.s.now c.in-Some.id (sym c.read_head.ensures ∙ c.in-Some.is) c.rest.result.now c.rest.ensures c.in-Some-read_values.v (sym c.read_values.ensures ∙ c.in-Some-read_values.is) c.is_valid-valid.result c.is_valid-valid.ensures c.is_right-right.result c.is_right-right.ensures c.in_ok-refuses_reading.ensures
