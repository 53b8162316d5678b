-- The first word without its last four bits.
use Rattle.std.proofs.Common.{ap, ◌∙◌, rules}
use Rattle.sha1_digest.specs.Id.{id_number}
use Rattle.sha1_digest.proofs.Ids.{first-bits}
use Rattle.sha1_digest.proofs.Sha1.first_28_bits.Goals as goal

pub returns : goal.returns
returns c = first-bits c.finish.result (search rules) ∙ ap id_number c.finish.ensures
