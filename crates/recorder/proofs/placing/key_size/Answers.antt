-- Two lengths and the names behind them.
use Prim.Native.Nat.{ℕ, ◌+◌, ◌≤◌}
use mathlib.Core.Path.{◌≡◌, ap}
use mathlib.Core.List.{List}
use native.Mathlib.Omega.{arith}
use borrow.Author.Rules.{rules}
use lib.ListN.{length, take, length-take}
use Rattle.records.proofs.Laws.{key-size}
use Rattle.recorder.proofs.placing.key_size.Goals as goal

sizes : (a b : List ℕ) (n m : ℕ) → length a ≡ 12 → length b ≡ 255 → length (take n a) + length (take m b) ≤ 267
sizes a b n m e f = omega (arith, length-take n a, length-take m b)

pub returns : goal.returns
returns c =
    let s = sizes c.args.k.originator c.args.k.stream_id c.args.k.originator_len c.args.k.stream_id_len (search rules) (search rules) in
    (omega (arith, key-size c.args.k, ap length c.part-originator.ensures, ap length c.part-stream_id.ensures), omega (arith, s, ap length c.part-originator.ensures, ap length c.part-stream_id.ensures))
