-- A turn sweeps one group, and there are four.
use Rattle.std.proofs.Common.{◌≡◌, length, get_or, ap, ◌∙◌, arith}
use Rattle.std.proofs.lemmas.List.{append-nil, length-append, length-map, length-take, length-drop, take_all, drop_all, get_or_default}
use Rattle.std.proofs.lemmas.List.Edits.{map_over_more}
use Rattle.groups.specs.Groups.{past_group}
use Rattle.groups.proofs.Search.{unmapped}
use Rattle.groupsweep.specs.Sweep.{swept_group}
use Rattle.groupsweep.proofs.sweep_all.Goals as goal

pub loop-x-preserved : goal.loop-x-preserved
loop-x-preserved c = let long : length c.args.groups.items ≡ 4 = search unmapped in
    let size : length c.loop-x.x-items ≡ 4 = ap length c.loop-x.invariant ∙ simp (length-append, length-map, length-take, length-drop) (omega arith) in
    let x = get_or c.loop-x.x-items c.loop-x.x-index past_group in
    rw c.sweep.ensures
    (map_over_more (swept_group c.args.time) c.args.groups.items c.loop-x.x-items c.loop-x.x-index x (omega arith) c.loop-x.invariant (get_or_default c.loop-x.x-items c.loop-x.x-index past_group x (omega arith)))

pub returns : goal.returns
returns c = let long : length c.args.groups.items ≡ 4 = search unmapped in
    let whole = take_all c.loop-x.x-index c.args.groups.items (omega arith) in
    let rest = drop_all c.loop-x.x-index c.args.groups.items (omega arith) in
    rw c.loop-x.invariant (rw (whole, rest, append-nil))
