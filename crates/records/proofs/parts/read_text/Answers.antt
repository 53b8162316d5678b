-- A length, then as many bytes.
use native.Mathlib.Omega.{arith}
use Rattle.octets.specs.Field.{num}
use Rattle.records.specs.Record.{text}
use Rattle.records.proofs.Found.{missed, found, number, text-short, text-read}
use Rattle.records.proofs.parts.read_text.Goals as goal

pub returns-in_err-n : goal.returns-in_err-n
unfolding text
returns-in_err-n c = let e = missed (λ n. n) ((num 1).parse c.args.d.now) _ c.in_err-n.was c.read.ensures in rw (c.from_residual.ensures, e)

pub returns-in_err-text : goal.returns-in_err-text
returns-in_err-text c =
    let n = number 1 c.args.d.now _ _ (found ((num 1).parse c.args.d.now) _ _ _ c.in_ok-n.was c.read.ensures) in
    rw (c.from_residual-in_err-text.ensures, text-short c.args.d.now _ c.from-end.result n c.from-end.ensures (omega (arith, c.in_err-text.ensures.lookup.0)))

pub returns : goal.returns
returns c =
    let n = number 1 c.args.d.now _ _ (found ((num 1).parse c.args.d.now) _ _ _ c.in_ok-n.was c.read.ensures) in
    let l = c.in_ok-text.ensures.lookup.0 in
    rw (text-read c.args.d.now _ c.from-end.result n c.from-end.ensures c.in_ok-text.text.now l.1 l.2)
