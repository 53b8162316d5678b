-- The number at the front, as its type has it: a part that is long enough has one below 256 ^ width.
use Rattle.std.proofs.Common.{rules, ap, ◌≡◌, ◌%◌, ◌^◌}
use Rattle.std.proofs.Math.Nat.{mod-eq_of_lt}
use Rattle.octets.specs.Reading.{read_as}
use Rattle.octets.proofs.FieldLaws.{num-read}
use Rattle.octets.proofs.read.Goals as goal

pub returns : goal.returns
returns g c =
    let whole : c.gather.result % 256 ^ g.T.Little.width ≡ c.gather.result = mod-eq_of_lt (search rules) in
    let found = ap (read_as g.T.Little.value) (num-read g.T.Little.width c.args.s.now c.gather.result (search rules) (search rules)) in
    cc
