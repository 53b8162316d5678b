-- Seventeen bytes, and twelve for each message.
use mathlib.Core.Path.{◌≡◌, ap}
use native.Mathlib.Omega.{arith}
use lib.ListN.{length, length-take}
use Rattle.octets.proofs.Lists.{unmapped}
use Rattle.records.proofs.Laws.{row-size}
use Rattle.recorder.proofs.placing.row_size.Goals as goal

pub returns : goal.returns
returns c =
    let long : length c.args.r.held ≡ 16 = search unmapped in
    (omega (arith, row-size c.args.r, ap length c.messages_of.ensures), omega (arith, long, ap length c.messages_of.ensures, length-take c.args.r.count c.args.r.held))
