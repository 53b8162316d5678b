-- Seven bytes that are no id.
use Rattle.std.proofs.Common.{◌≡◌, ◌≤◌, length, take, None, rules}
use Rattle.text.specs.Hex.{id_of}
use Rattle.datagram_numbers.proofs.Ids.{no-id}
use Rattle.datagram_numbers.proofs.numbers.read_id.Goals as goal

pub returns-in_err-id : goal.returns-in_err-id
returns-in_err-id c =
    let h : 7 ≤ length c.args.d.now = search rules in
    let e : None ≡ id_of (take 7 c.args.d.now) = search rules in
    rw (c.from_residual-in_err-id.ensures, no-id c.args.d.now h e)
