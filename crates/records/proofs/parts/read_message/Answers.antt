-- Three numbers of four bytes.
use Prim.Native.Nat.{◌+◌}
use mathlib.Core.Path.{◌∙◌}
use Rattle.std.proofs.Common.{add_assoc}
use lib.Seq.{drop-drop}
use Rattle.octets.specs.Field.{num}
use Rattle.records.specs.Record.{message}
use Rattle.records.proofs.Found.{missed, found, missed_at, found_at}
use Rattle.records.proofs.parts.read_message.Goals as goal

pub returns-in_err-number : goal.returns-in_err-number
unfolding message
returns-in_err-number c = let e = missed (λ n. n) ((num 4).parse c.args.d.now) _ c.in_err-number.was c.read.ensures in c.from_residual.ensures ∙ rw e

pub returns-in_err-timeout : goal.returns-in_err-timeout
unfolding message
returns-in_err-timeout c =
    let a = found ((num 4).parse c.args.d.now) _ _ _ c.in_ok-number.was c.read.ensures in
    let b = missed_at ((num 4).parse) c.in_ok-number.a c.args.d.now (λ n. n) _ c.in_err-timeout.was c.read-2.ensures in
    c.from_residual-in_err-timeout.ensures ∙ rw (a, b)

pub returns-in_err-slip : goal.returns-in_err-slip
unfolding message
returns-in_err-slip c =
    let a = found ((num 4).parse c.args.d.now) _ _ _ c.in_ok-number.was c.read.ensures in
    let b = found_at ((num 4).parse) c.in_ok-number.a c.args.d.now _ _ _ c.in_ok-timeout.was c.read-2.ensures in
    let e = missed_at ((num 4).parse) (c.in_ok-number.a + c.in_ok-timeout.b) c.args.d.now (λ n. n) _ c.in_err-slip.was c.read-3.ensures in
    c.from_residual-in_err-slip.ensures ∙ rw (a, b, drop-drop, e)

pub returns : goal.returns
unfolding message
returns c =
    let a = found ((num 4).parse c.args.d.now) _ _ _ c.in_ok-number.was c.read.ensures in
    let b = found_at ((num 4).parse) c.in_ok-number.a c.args.d.now _ _ _ c.in_ok-timeout.was c.read-2.ensures in
    let e = found_at ((num 4).parse) (c.in_ok-number.a + c.in_ok-timeout.b) c.args.d.now _ _ _ c.in_ok-slip.was c.read-3.ensures in
    rw (a, b, drop-drop, e, add_assoc)
