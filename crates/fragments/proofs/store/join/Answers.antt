-- The fragments stand in the buffer's front: what is still to be written is placed behind what was.
use Rattle.std.proofs.Common.{◌≡◌, List, ◌+◌, ◌*◌, ◌-◌, length, take, drop, get_or, ap, ◌∙◌, arith}
use Rattle.std.proofs.lemmas.List.Sums.{sum_by-cons}
use Rattle.octets.specs.Bytes.{front}
use Rattle.octets.proofs.Lists.{drop-next}
use Rattle.groups.specs.declared.Piece.{Piece}
use Rattle.groups.specs.Groups.{place, no_piece, bytes_in}
use Rattle.groups.proofs.Search.{unmapped, past}
use Rattle.fragments.specs.Store.{joined_from}
use Rattle.fragments.proofs.Joins.{short_first, short-at, first-fragments, first-few, part_bytes, length_rest, join-next, join-end}
use Rattle.fragments.proofs.store.join.Goals as goal

pub slice_bounds-copy_at-end : goal.slice_bounds-copy_at-end
slice_bounds-copy_at-end c = let long : length c.args.x.pieces ≡ 16 = search unmapped in
    let k = first-few c.args.x c.min-n.result c.min-n.ensures long in
    let q = short-at (take c.min-n.result c.args.x.pieces) c.loop-i.i (short_first c.args.x c.min-n.result c.requires.2) c.loop-i-test.true in
    omega (arith, c.from-len.ensures)

pub loop-i-preserved : goal.loop-i-preserved
loop-i-preserved c = let long : length c.args.x.pieces ≡ 16 = search unmapped in
    let ps = take c.min-n.result c.args.x.pieces in
    let k = first-few c.args.x c.min-n.result c.min-n.ensures long in
    let a = short_first c.args.x c.min-n.result c.requires.2 in
    let q = short-at ps c.loop-i.i a c.loop-i-test.true in
    let e = drop-next ps c.loop-i.i no_piece c.loop-i-test.true in
    let b = ap bytes_in e ∙ sum_by-cons (λ (p : Piece). p.len) (get_or ps c.loop-i.i no_piece) (drop (c.loop-i.i + 1) ps) in
    let j = ap bytes_in (first-fragments c.args.x c.min-n.result c.min-n.ensures long) in
    let l = length_rest c.args.store.now c.args.g c.requires.0 c.requires.1 ps (c.loop-i.i + 1) (omega arith) k a in
    let w = part_bytes c.args.store.now c.args.g c.loop-i.i (get_or ps c.loop-i.i no_piece) c.from-len.result c.requires.0 (omega arith) c.requires.1 q c.from-len.ensures in
    let from = (16 * c.args.g + c.loop-i.i) * place in
    let n = join-next c.args.store.now c.args.g c.loop-i.i c.loop-i.at c.from-len.result (drop c.loop-i.i ps) (drop (c.loop-i.i + 1) ps) (get_or ps c.loop-i.i no_piece) (take (from + c.from-len.result - from) (drop from c.args.store.now)) c.loop-i.out _ e w.0 c.copy_at.ensures.1 w.1 (omega arith) in
    record {
      size = n.0 ∙ c.loop-i.invariant.size;
      left = omega arith;
      rest = n.1 ∙ c.loop-i.invariant.rest;
    }

pub returns : goal.returns
returns c = let long : length c.args.x.pieces ≡ 16 = search unmapped in
    let ps = take c.min-n.result c.args.x.pieces in
    let k = first-few c.args.x c.min-n.result c.min-n.ensures long in
    let f = first-fragments c.args.x c.min-n.result c.min-n.ensures long in
    let j = ap bytes_in f in
    let e = past ps c.loop-i.i (omega arith) in
    let b = ap bytes_in e in
    let l = length_rest c.args.store.now c.args.g c.requires.0 c.requires.1 ps 0 (omega arith) k (short_first c.args.x c.min-n.result c.requires.2) in
    join-end c.args.store.now c.args.g c.loop-i.i c.loop-i.at _ (joined_from c.args.store.now c.args.g 0 ps) c.loop-i.out c.args.out.now e (omega arith) c.loop-i.invariant.rest (omega arith)
    ∙ ap (λ (l : List Piece). front (joined_from c.args.store.now c.args.g 0 l) c.args.out.now) f
