-- What refuses the message, or the line and its LF.
use Rattle.std.specs.Prelude.{Err}
use mathlib.Core.Path.{◌≡◌, refl, ap, ◌∙◌}
use native.Mathlib.Omega.{arith}
use borrow.Author.Rules.{rules}
use lib.ListN.{length}
use Rattle.octets.proofs.Lists.{length-placed}
use Rattle.refusals.specs.Refusals.{number_of}
use Rattle.refusals.proofs.Told.{not-0}
use Rattle.line_writer.specs.Answer.{says}
use Rattle.line_writer.proofs.Whole.{refused, short, room, all-written}
use Rattle.line_writer.proofs.write_line.Goals as goal

pub returns-in_err-refuses_writing : goal.returns-in_err-refuses_writing
returns-in_err-refuses_writing c =
    let e : c.from_residual.result ≡ Err c.in_err-refuses_writing.field-0.0 = search rules in
    let h = refused c.args.m c.args.out.now c.is_valid-valid.result c.is_valid-valid.ensures c.print_body-line.result c.print_body-line.ensures (search rules) c.add_chk.new.line c.add_chk.ensures (number_of c.in_err-refuses_writing.field-0.0) c.in_err-refuses_writing.ensures (not-0 c.in_err-refuses_writing.field-0.0) in
    (ap says e ∙ h.0, h.1)

pub bounds-out-n : goal.bounds-out-n
bounds-out-n c = omega (arith, room c.args.m c.args.out.now c.is_valid-valid.result c.is_valid-valid.ensures c.print_body-line.result c.print_body-line.ensures (search rules) c.add_chk.new.line c.add_chk.ensures 0 c.in_ok-refuses_writing.ensures refl, length-placed c.part.result.now 0 c.args.out.now, ap length c.copy_at.ensures.1)

pub overflow_add-result : goal.overflow_add-result
overflow_add-result c = omega (arith, short c.args.m c.args.out.now c.is_valid-valid.result c.is_valid-valid.ensures c.print_body-line.result c.print_body-line.ensures (search rules) c.add_chk.new.line c.add_chk.ensures 0 c.in_ok-refuses_writing.ensures refl)

pub returns : goal.returns
returns c = all-written c.args.m c.args.out.now c.is_valid-valid.result c.is_valid-valid.ensures c.print_body-line.result c.print_body-line.ensures (search rules) c.add_chk.new.line c.add_chk.ensures 0 c.in_ok-refuses_writing.ensures refl _ _ c.part.ensures c.copy_at.ensures.1
