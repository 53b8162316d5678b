-- The keys behind each place decide, for the first key of a pair and for the second.
use Prim.Native.Nat.{◌+◌}
use mathlib.Core.Path.{◌≡◌}
use mathlib.Core.Bool.{true}
use lib.ListN.{length, get_or, drop}
use Rattle.octets.specs.Words.{some}
use Rattle.octets.specs.Bytes.{same}
use Rattle.headers.specs.Keys.{all_differ, key_of, keys_of}
use Rattle.headers.proofs.Pairs.{no_header}
use Rattle.headers.proofs.keys_differ.Given as goal

abbrev pub invariant-loop-j : goal.invariant-loop-j
invariant-loop-j l = (l.differ ≡ true) × (some (same (key_of (get_or l.fn.h.items l.i no_header))) (drop (l.i + 1) (keys_of l.fn.h)) ≡ some (same (key_of (get_or l.fn.h.items l.i no_header))) (drop l.j (keys_of l.fn.h)))

abbrev pub invariant-pairs : goal.invariant-pairs
invariant-pairs l = (length l.fn.h.items ≡ 8) × (l.differ ≡ true) × (all_differ (keys_of l.fn.h) ≡ all_differ (drop l.i (keys_of l.fn.h)))
