-- Group by group, in the writer's order.
use mathlib.Core.List.{[], ◌∷◌, ◌++◌}
use Rattle.text.specs.Hex.{hex_digits}
use Rattle.names.specs.Reserved.{key_fmt}
use Rattle.tokens.specs.Tokens.{space}
use Rattle.line_groups.specs.Rules.{'p'}
use Rattle.line.specs.Reading.{ihave}
use Rattle.line_draft.proofs.Drafts.{adds_then, adds-as, put-adds}
use Rattle.line_body.specs.Steps.{key_part}
use Rattle.line_body.proofs.Whole.{payload-step, body-whole}
use Rattle.line_body.proofs.put_body.Goals as goal

pub returns : goal.returns
returns c =
    let m = c.args.m.now in
    let start = adds_then (put-adds (ihave ++ (space ∷ [])) c.put.ensures.0 c.put.ensures.1) (put-adds (hex_digits 7 m.fields.id) c.put_id.ensures.0 c.put_id.ensures.1) in
    let len = rw c.from.ensures at c.number.ensures in
    let payload = adds-as (payload-step m) (adds_then len (put-adds (key_part key_fmt ++ 'p') c.put-2.ensures.0 c.put-2.ensures.1)) in
    adds-as (body-whole m)
    (adds_then (adds_then (adds_then (adds_then (adds_then (adds_then (adds_then (adds_then start payload) c.salt.ensures) c.ttl.ensures) c.src.ensures) c.fragment.ensures) c.stream.ensures) c.headers.ensures) c.dst.ensures)
