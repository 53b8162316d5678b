-- The keys from each place of the table on decide.
use Prim.Native.Nat.{◌+◌}
use mathlib.Core.Path.{◌≡◌}
use lib.ListN.{drop}
use Rattle.names.specs.Reserved.{reserved_keys, place_in, key_place}
use Rattle.names.proofs.reserved_place.Given as goal

abbrev pub invariant-loop-i : goal.invariant-loop-i
invariant-loop-i l = key_place l.s ≡ l.i + place_in (drop l.i reserved_keys) l.s
