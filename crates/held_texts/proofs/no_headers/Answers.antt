-- Eight empty headers, of which none counts.
use mathlib.Core.Path.{refl}
use Rattle.held_texts.specs.Texts.{fitted, padded}
use Rattle.held_texts.proofs.no_headers.Goals as goal

pub returns : goal.returns
unfolding padded fitted
returns c = refl
