-- Puts, one behind the other: the room that each finds, and what they come to together.
use Rattle.std.specs.Prelude.{Option, Some, None, MatchOption, IsSomeAnd}
use Prim.Native.Nat.{ℕ, ◌+◌, ◌*◌, ◌≤◌}
use mathlib.Core.Path.{◌≡◌, sym, ap, ◌∙◌}
use mathlib.Core.Bool.{Bool, true, false}
use mathlib.Core.List.{List, [], ◌++◌}
use native.Mathlib.Omega.{arith}
use lib.ListN.{length, length-append}
use Rattle.octets.specs.Bytes.{placed}
use Rattle.octets.specs.Field.{Field, when, given_print}
use Rattle.octets.proofs.Lists.{length-placed, placed-none, placed-append}
use Rattle.layout.specs.Layout.{one}
use Rattle.datagram_head.specs.Steps.{Room, Put}

-- n bytes were put, and so many has w
pub put-by : {w : List ℕ} {at n : ℕ} {l x : List ℕ} → n ≡ length w → x ≡ placed w at l → Put w at l (at + n) x
put-by {w} {at} e b = record { place = ap (λ (k : ℕ). at + k) e; bytes = b }

-- ---- two puts

-- where both have room, the first has
pub first-room : (a b : List ℕ) {at : ℕ} {l : List ℕ} → Room (a ++ b) at l → Room a at l
first-room a b {at} {l} h = record { room = omega (arith, length-append a b, h.room) }

-- and behind it the second
pub next-room : {a : List ℕ} (b : List ℕ) {at next : ℕ} {l x : List ℕ} → Put a at l next x → Room (a ++ b) at l → Room b next x
next-room {a} b {at} {next} {l} {x} p h = record { room = omega (arith, length-append a b, h.room, p.place, ap length p.bytes, length-placed a at l) }

-- one behind the other, they are one
pub both : {a b : List ℕ} {at next end : ℕ} {l x y : List ℕ} → Room (a ++ b) at l → Put a at l next x → Put b next x end y → Put (a ++ b) at l end y
both {a} {b} {at} {next} {end} {l} {x} {y} h p q = record {
  place = omega (arith, length-append a b, p.place, q.place);
  bytes = q.bytes ∙ rw (p.bytes, p.place) (placed-append a b at l (omega (arith, length-append a b, h.room)));
}

-- ---- another way to say the same bytes

pub room_as : {w v : List ℕ} {at : ℕ} {l : List ℕ} → w ≡ v → Room w at l → Room v at l
room_as e h = rw (sym e) h

pub put_as : {w v : List ℕ} {at next : ℕ} {l x : List ℕ} → w ≡ v → Put w at l next x → Put v at l next x
put_as e p = rw (sym e) p

-- ---- a field behind a flag

module _ {A : Type 0} (b : Bool) (blank : A) (F : Field A) (a : A) where
  pub present : {at : ℕ} {l : List ℕ} → b ≡ true → Room ((when b blank F).print a) at l → Room (F.print a) at l
  present e h = rw e at h

  pub there : {at next : ℕ} {l x : List ℕ} → b ≡ true → Put (F.print a) at l next x → Put ((when b blank F).print a) at l next x
  there e p = rw e p

  pub absent : {at : ℕ} {l : List ℕ} → b ≡ false → Room ((when b blank F).print a) at l → Put ((when b blank F).print a) at l at l
  absent {at} {l} e h =
      let n : (when b blank F).print a ≡ [] = rw e in
      let k : at ≤ length l = omega (arith, h.room) in
      rw n (record { place = omega arith; bytes = sym (placed-none at l k) })

-- ---- a field of an Option

module _ {A : Type 0} (F : Field A) (o : Option A) where
  pub some-room : {a : A} {at : ℕ} {l : List ℕ} → o ≡ Some a → Room (given_print F o) at l → Room (F.print a) at l
  some-room e h = rw e at h

  pub some-put : {a : A} {at next : ℕ} {l x : List ℕ} → o ≡ Some a → Put (F.print a) at l next x → Put (given_print F o) at l next x
  some-put e p = rw e p

  pub none-put : {at : ℕ} {l : List ℕ} → o ≡ None → Room (given_print F o) at l → Put (given_print F o) at l at l
  none-put {at} {l} e h =
      let n : given_print F o ≡ [] = rw e in
      let k : at ≤ length l = omega (arith, h.room) in
      rw n (record { place = omega arith; bytes = sym (placed-none at l k) })

-- a number made wide is the same, where it is there
pub widened : (o r : Option ℕ) → MatchOption o (r ≡ None) (λ x. IsSomeAnd r (λ y. y ≡ x)) → r ≡ o
widened None r h = h
widened (Some x) None h = absurd h
widened (Some x) (Some y) h = ap Some h

-- the weight of a bit
pub weighed : (b : Bool) (w : ℕ) → b ≡ true → (w ≡ w * one b) × (w ≤ w)
weighed b w e = (rw e (omega arith), omega arith)

pub unweighed : (b : Bool) (w : ℕ) → b ≡ false → (0 ≡ w * one b) × (0 ≤ w)
unweighed b w e = (rw e (omega arith), omega arith)
