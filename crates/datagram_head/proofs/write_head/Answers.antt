-- The head of a valid message; of another nothing.
use mathlib.Core.Path.{sym, ◌∙◌}
use native.Mathlib.Omega.{arith}
use borrow.Author.Rules.{rules}
use Rattle.datagram_bytes.specs.Bytes.{Typed}
use Rattle.datagram_head.proofs.Whole.{head-size, unwritten, head-written}
use Rattle.datagram_head.proofs.write_head.Goals as goal

pub returns-then-not-is_valid : goal.returns-then-not-is_valid
returns-then-not-is_valid c = unwritten c.args.m c.args.len c.args.out.now (sym c.is_valid.ensures ∙ c.if-not-is_valid.true)

pub put_head-requires : goal.put_head-requires
put_head-requires c = let typed : Typed c.args.m = record { salt = search rules; ttl = search rules; flood = search rules; fragment = search rules; stream = search rules; headers = search rules } in
    (typed, record { room = omega (arith, head-size c.args.m c.args.len typed (sym c.is_valid.ensures ∙ c.if-not-is_valid.false)) })

pub returns : goal.returns
returns c = let typed : Typed c.args.m = record { salt = search rules; ttl = search rules; flood = search rules; fragment = search rules; stream = search rules; headers = search rules } in
    head-written c.args.m c.args.len c.args.out.now (sym c.is_valid.ensures ∙ c.if-not-is_valid.false) (head-size c.args.m c.args.len typed (sym c.is_valid.ensures ∙ c.if-not-is_valid.false)) (search rules) c.put_head.ensures
