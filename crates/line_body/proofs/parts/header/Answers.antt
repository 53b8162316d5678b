-- A space, the key, `=` and the value.
use mathlib.Core.Path.{ap, ◌∙◌}
use mathlib.Core.List.{[], ◌∷◌}
use Rattle.headers.specs.Keys.{key_of}
use Rattle.headers.specs.Rule.{value_of}
use Rattle.line.specs.Writing.{header_token}
use Rattle.line_draft.specs.Drafts.{added}
use Rattle.line_draft.proofs.Drafts.{add-three, adds_then, adds-as}
use Rattle.line_body.proofs.Drafts.{one_token}
use Rattle.line_body.proofs.parts.header.Goals as goal

pub returns : goal.returns
unfolding key_of value_of
returns c =
    let a = rw c.part.ensures at c.text.ensures in
    let b = rw c.part-2.ensures at c.text-2.ensures in
    adds-as (λ d. ap (added (value_of c.args.h)) (add-three (0x20 ∷ []) (key_of c.args.h) (0x3D ∷ []) d) ∙ one_token (header_token c.args.h) d) (adds_then a b)
