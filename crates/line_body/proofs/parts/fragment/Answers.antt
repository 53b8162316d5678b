-- Both tokens, the second in three parts, or neither.
use mathlib.Core.Path.{◌∙◌}
use mathlib.Core.List.{[], ◌∷◌}
use Rattle.text.specs.Decimal.{decimal}
use Rattle.names.specs.Reserved.{key_mid, key_frag}
use Rattle.line.specs.Writing.{chosen, mid_text}
use Rattle.line_draft.specs.Drafts.{added}
use Rattle.line_draft.proofs.Drafts.{add-three, adds_none, adds_then, adds-as, put-adds}
use Rattle.line_body.specs.Steps.{key_part, add_pair, add_tokens}
use Rattle.line_body.proofs.Drafts.{absent, fragment-put}
use Rattle.line_body.proofs.parts.fragment.Goals as goal

pub returns-in_default : goal.returns-in_default
unfolding chosen add_tokens
returns-in_default c = rw (absent c.args.fragment c.in_default.not-Some) adds_none

pub returns : goal.returns
returns c =
    let f = c.in-Some.f in
    let a = put-adds (key_part key_mid) c.put.ensures.0 c.put.ensures.1 in
    let b = put-adds (mid_text f) c.put_id.ensures.0 c.put_id.ensures.1 in
    let e = rw c.from.ensures at c.number.ensures in
    let g = rw c.from-2.ensures at c.number-2.ensures in
    adds-as
    (λ d. add-three (decimal f.index) (0x2F ∷ []) (decimal f.total) (added (key_part key_frag) (add_pair (key_part key_mid) (mid_text f) d)) ∙ fragment-put c.args.fragment f d c.in-Some.is)
    (adds_then (adds_then (adds_then a b) e) g)
