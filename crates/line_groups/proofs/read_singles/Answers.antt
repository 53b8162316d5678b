-- Each value is given or not, by itself.
use Rattle.std.specs.Prelude.{Some}
use mathlib.Core.Path.{refl, ap, ◌∙◌}
use mir.Syntax.{w64}
use mir.ValLaws.{to_z-of_z}
use borrow.Author.Rules.{rules}
use Rattle.text.specs.Decimal.{is_number, number, is_signed, signed}
use Rattle.text.specs.Hex.{is_hex, hex_value}
use Rattle.line_groups.proofs.Given.{said_some, said_none, singles-said}
use Rattle.line_groups.proofs.read_singles.Goals.{in-Some+in_ok-read_signed-in-Some, in-None, in-Some-ttl+in_ok-read_number-in-Some-ttl, in-None-ttl}
use Rattle.line_groups.proofs.read_singles.Goals as goal

pub returns-in_ok-read_chk-in-Some-chk : goal.returns-in_ok-read_chk-in-Some-chk
returns-in_ok-read_chk-in-Some-chk c = singles-said _ _ _ _ _ _ (elim c.match-salt.branch [
  | in-Some+in_ok-read_signed-in-Some w ↦ said_some is_signed signed c.args.salt c.match-salt.salt w.in-Some.v w.read_signed.result w.in_ok-read_signed-in-Some.field-0 w.in-Some.is w.read_signed.ensures w.in_ok-read_signed-in-Some.was (w.salt-is ∙ ap Some (to_z-of_z w64 w.in_ok-read_signed-in-Some.field-0 (search rules)))
  | in-None w ↦ said_none is_signed signed c.args.salt c.match-salt.salt w.in-None.is w.salt-is
]) (elim c.match-ttl.branch [
  | in-Some-ttl+in_ok-read_number-in-Some-ttl w ↦ said_some (is_number 2147483647) number c.args.ttl c.match-ttl.ttl w.in-Some-ttl.v w.read_number.result w.in_ok-read_number-in-Some-ttl.field-0 w.in-Some-ttl.is w.read_number.ensures w.in_ok-read_number-in-Some-ttl.was w.ttl-is
  | in-None-ttl w ↦ said_none (is_number 2147483647) number c.args.ttl c.match-ttl.ttl w.in-None-ttl.is w.ttl-is
]) (said_some (is_hex 4) hex_value c.args.chk _ c.in-Some-chk.v c.read_chk.result c.in_ok-read_chk-in-Some-chk.field-0 c.in-Some-chk.is c.read_chk.ensures c.in_ok-read_chk-in-Some-chk.was refl)

pub returns-in-None-chk : goal.returns-in-None-chk
returns-in-None-chk c = singles-said _ _ _ _ _ _ (elim c.match-salt.branch [
  | in-Some+in_ok-read_signed-in-Some w ↦ said_some is_signed signed c.args.salt c.match-salt.salt w.in-Some.v w.read_signed.result w.in_ok-read_signed-in-Some.field-0 w.in-Some.is w.read_signed.ensures w.in_ok-read_signed-in-Some.was (w.salt-is ∙ ap Some (to_z-of_z w64 w.in_ok-read_signed-in-Some.field-0 (search rules)))
  | in-None w ↦ said_none is_signed signed c.args.salt c.match-salt.salt w.in-None.is w.salt-is
]) (elim c.match-ttl.branch [
  | in-Some-ttl+in_ok-read_number-in-Some-ttl w ↦ said_some (is_number 2147483647) number c.args.ttl c.match-ttl.ttl w.in-Some-ttl.v w.read_number.result w.in_ok-read_number-in-Some-ttl.field-0 w.in-Some-ttl.is w.read_number.ensures w.in_ok-read_number-in-Some-ttl.was w.ttl-is
  | in-None-ttl w ↦ said_none (is_number 2147483647) number c.args.ttl c.match-ttl.ttl w.in-None-ttl.is w.ttl-is
]) (said_none (is_hex 4) hex_value c.args.chk _ c.in-None-chk.is refl)
