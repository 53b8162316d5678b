-- The line is the one that `data ` and the id make.
use Rattle.std.proofs.Common.{◌≡◌, rules}
use Rattle.octets.specs.Bytes.{same}
use Rattle.phrases.proofs.Verbs.{data_is}
use Rattle.phrases.proofs.is_data.Goals as goal

pub returns : goal.returns
returns c = let e : c.eq.result ≡ same c.args.s.now c.write_id.new.out = search rules in data_is c.args.id _ c.args.s.now _ c.write_id.ensures.1 e
