-- The record stands at its place, or nothing changed. A record is never empty.
use Prim.Native.Nat.{◌+◌, ◌≤◌}
use mathlib.Core.Path.{sym}
use native.Mathlib.Omega.{arith}
use borrow.Author.Tests.{le-leb}
use lib.ListN.{length}
use Rattle.octets.proofs.Lists.{unplaced}
use Rattle.records.specs.Record.{body}
use Rattle.records.proofs.Laws.{body-size}
use Rattle.recorder.proofs.Behind.{body-parts, body-placed}
use Rattle.recorder.proofs.write.Goals as goal

pub returns-then-saturating_sub-n : goal.returns-then-saturating_sub-n
returns-then-saturating_sub-n c =
    unplaced (body.print (c.args.key, c.args.row)) c.args.at c.args.out.now (omega (arith, c.saturating_sub.ensures, c.if-saturating_sub-n.true, body-parts c.args.key c.args.row, body-size c.args.key c.args.row, c.key_size-n.ensures.0, c.row_size.ensures.0))

pub put_key-requires : goal.put_key-requires
put_key-requires c = omega (arith, c.saturating_sub.ensures, c.if-saturating_sub-n.false, body-parts c.args.key c.args.row, body-size c.args.key c.args.row, c.key_size-n.ensures.0, c.row_size.ensures.0)

pub put_row-requires : goal.put_row-requires
put_row-requires c = omega (arith, c.saturating_sub.ensures, c.if-saturating_sub-n.false, c.put_key.auto.out, body-parts c.args.key c.args.row, body-size c.args.key c.args.row, c.key_size-n.ensures.0, c.row_size.ensures.0)

pub returns : goal.returns
returns c =
    let h : c.args.at + length (body.print (c.args.key, c.args.row)) ≤ length c.args.out.now =
    omega (arith, c.saturating_sub.ensures, c.if-saturating_sub-n.false, body-parts c.args.key c.args.row, body-size c.args.key c.args.row, c.key_size-n.ensures.0, c.row_size.ensures.0) in
    (sym (le-leb _ _ h), body-placed c.args.key c.args.row _ c.args.at c.args.out.now _ _ c.key_size-n.ensures.0 c.put_key.ensures c.put_row.ensures h)
