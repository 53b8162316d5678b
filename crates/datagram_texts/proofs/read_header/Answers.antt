-- The key, then the value from the part behind it.
use Rattle.std.proofs.Common.{ap, arith}
use Rattle.layout.specs.Layout.{text}
use Rattle.layout.proofs.Laws.{text-laws}
use Rattle.datagram_numbers.proofs.Chains.{tail, room-read, room-two}
use Rattle.datagram_texts.specs.Found.{seen}
use Rattle.datagram_texts.proofs.read_header.Goals as goal

pub slice_bounds-d1-count : goal.slice_bounds-d1-count
slice_bounds-d1-count c = room-read (text 2 32) (λ l. l) c.args.d.now (seen c.text16.result) _ _ (text-laws 2 32) c.text16.ensures (ap seen c.in_ok-key.was)

pub slice_bounds-d1-start : goal.slice_bounds-d1-start
slice_bounds-d1-start c = room-read (text 2 32) (λ l. l) c.args.d.now (seen c.text16.result) _ _ (text-laws 2 32) c.text16.ensures (ap seen c.in_ok-key.was)

pub overflow_add-result : goal.overflow_add-result
overflow_add-result c =
    let s = c.args.d.now in
    let a = room-read (text 2 32) (λ l. l) s (seen c.text16.result) _ _ (text-laws 2 32) c.text16.ensures (ap seen c.in_ok-key.was) in
    let b = room-read (text 2 128) (λ l. l) (tail c.in_ok-key.n1 s) (seen c.text16-2.result) _ _ (text-laws 2 128) c.text16-2.ensures (ap seen c.in_ok-value.was) in
    omega (arith, room-two c.in_ok-key.n1 c.in_ok-value.n2 s a b, c.well_formed.0)
