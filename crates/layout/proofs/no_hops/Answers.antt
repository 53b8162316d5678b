-- No hops: sixteen blanks.
use mathlib.Core.Path.{refl}
use Rattle.envelope.specs.Texts.{padded, fitted}
use Rattle.layout.specs.Texts.{no_hops}
use Rattle.layout.proofs.no_hops.Goals as goal

pub returns : goal.returns
unfolding no_hops padded fitted
returns c = refl
