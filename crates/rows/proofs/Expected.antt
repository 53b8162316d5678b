-- THEOREM: the expected number always finds its place: on a row that keeps the rules an offer of exactly the expected number is accepted,
-- unless that number is held already; and the row then holds it in one of its sixteen places.
use mathlib.Core.Path.{◌≡◌, refl}
use Prim.Native.Nat.{ℕ, ◌≤◌}
use native.Mathlib.Omega.{arith}
use mathlib.Core.Bool.{true, false}
use lib.ListN.{length}
use borrow.Author.Tests.{le-ltb}
use Rattle.octets.specs.Words.{◌<?◌}
use Rattle.octets.proofs.Tests.{and-not-left}
use Rattle.places.specs.declared.Held.{Held}
use Rattle.rows.specs.declared.Row.{Row}
use Rattle.rows.specs.Answer.{accepted}
use Rattle.rows.specs.Stream.{Stream, holds, insert, keeps, offer}
use Rattle.rows.specs.Row.{stream_of, held_in, keeps_row, offer_of}
use Rattle.rows.specs.Steps.{full}
use Rattle.places.proofs.Packing.{length-insert}
use Rattle.rows.proofs.Rules.{kept, room}

module _ (s : Stream) (m : Held) (time : ℕ) (x : m.number ≡ s.expected) (d : holds m.number s.held ≡ false) where
  not-stale : (m.number <? s.expected) ≡ false
  not-stale = le-ltb m.number s.expected (omega arith)

  not_full : full s m.number ≡ false
  not_full = and-not-left _ _ (le-ltb s.expected m.number (omega arith))

  pub expected-accepted : (offer s m time).answer ≡ accepted
  unfolding offer
  expected-accepted = rw (not-stale, d, not_full)

  pub expected-fits : keeps s ≡ true → ((offer s m time).after.held ≡ insert m s.held) × (length (offer s m time).after.held ≤ 16)
  unfolding offer
  expected-fits k = rw (not-stale, d, not_full) (refl, rw (length-insert m s.held) (omega (arith, room s m.number (kept s k) (omega arith) d not_full)))

pub expected-accepted-row : (r : Row) (m : Held) (time : ℕ) → keeps_row r ≡ true → m.number ≡ r.expected → holds m.number (held_in r) ≡ false → (offer_of r m time).answer ≡ accepted
expected-accepted-row r m time k x d = rw k (expected-accepted (stream_of r) m time x d)
