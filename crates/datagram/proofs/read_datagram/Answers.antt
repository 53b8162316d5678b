-- The paper's order: 6 first, then what the fields and the payload come to.
use Rattle.std.proofs.Common.{rules, arith, sym, ◌∙◌}
use Rattle.datagram.proofs.Whole.{empty, version-7}
use Rattle.datagram.proofs.read_datagram.Goals as goal

pub returns-then-is_empty : goal.returns-then-is_empty
returns-then-is_empty c = empty c.args.d.now (search rules)

pub returns : goal.returns
returns c = c.read_message.ensures ∙ sym (version-7 c.args.d.now (search rules) (omega arith))
