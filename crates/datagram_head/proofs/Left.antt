-- A list that is put value by value: what is left stands behind what was put.
use Prim.Native.Nat.{ℕ, ◌+◌, ◌≤◌, ◌<◌, min}
use mathlib.Core.Path.{◌≡◌, refl, sym, ap, ◌∙◌}
use mathlib.Core.List.{List, [], ◌++◌}
use native.Mathlib.Omega.{arith}
use lib.ListN.{length, take, drop, get_or, length-append, length-take, drop_of_length-le}
use Rattle.octets.specs.Bytes.{placed}
use Rattle.octets.specs.Field.{Field, num, many_print}
use Rattle.octets.proofs.Lists.{length-placed, placed-none, drop-next, placed-append}
use Rattle.headers.proofs.Cuts.{take-cut}
use Rattle.datagram_head.specs.Steps.{Room, Put}

-- what is left, w, makes at its place of the buffer what all of it makes at its place of the first buffer
pub record Left (w : List ℕ) (at : ℕ) (l : List ℕ) (all : List ℕ) (from : ℕ) (start : List ℕ) : Type 0 where
  pub place : at + length w ≡ from + length all
  pub bytes : placed w at l ≡ placed all from start
  pub same : length l ≡ length start
  pub room : at + length w ≤ length l

pub left-all : {w : List ℕ} {at : ℕ} {l : List ℕ} → Room w at l → Left w at l w at l
left-all h = record { place = refl; bytes = refl; same = refl; room = h.room }

left-next : {a : List ℕ} {at next from : ℕ} {l x all start : List ℕ} (b : List ℕ) → Left (a ++ b) at l all from start → Put a at l next x → Left b next x all from start
left-next {a} {at} {next} {from} {l} {x} {all} {start} b h p =
    let n = length-append a b in
    let same : length x ≡ length l = ap length p.bytes ∙ length-placed a at l in
    record {
      place = omega (arith, n, p.place, h.place);
      bytes = rw (p.bytes, p.place) (placed-append a b at l (omega (arith, n, h.room)) ∙ h.bytes);
      same = same ∙ h.same;
      room = omega (arith, n, p.place, h.room, same);
    }

left-none : {at from : ℕ} {l all start : List ℕ} → Left [] at l all from start → Put all from start at l
left-none {at} {from} {l} h = record { place = omega (arith, h.place); bytes = sym (placed-none at l (omega (arith, h.room))) ∙ h.bytes }

-- ---- the values of a list, from the place i on

module _ {A : Type 0} (F : Field A) (l : List A) (d : A) where
  next-value : (i : ℕ) → i < length l → many_print F (drop i l) ≡ F.print (get_or l i d) ++ many_print F (drop (i + 1) l)
  next-value i h = ap (many_print F) (drop-next l i d h)

  pub value_room : (i : ℕ) {from : ℕ} {all start : List ℕ} {at : ℕ} {buffer : List ℕ} → i < length l → Left (many_print F (drop i l)) at buffer all from start → Room (F.print (get_or l i d)) at buffer
  value_room i {from} {all} {start} {at} {buffer} h g =
      record { room = omega (arith, g.room, ap length (next-value i h), length-append (F.print (get_or l i d)) (many_print F (drop (i + 1) l))) }

  pub value-put : (i : ℕ) {from : ℕ} {all start : List ℕ} {at next : ℕ} {buffer x : List ℕ} → i < length l → Left (many_print F (drop i l)) at buffer all from start → Put (F.print (get_or l i d)) at buffer next x
      → Left (many_print F (drop (i + 1) l)) next x all from start
  value-put i {from} {all} {start} {at} {next} {buffer} {x} h g p = left-next (many_print F (drop (i + 1) l)) (rw (next-value i h) at g) p

  pub all-put : (i : ℕ) {from : ℕ} {all start : List ℕ} {at : ℕ} {buffer : List ℕ} → length l ≤ i → Left (many_print F (drop i l)) at buffer all from start → Put all from start at buffer
  all-put i {from} {all} {start} {at} {buffer} h g =
      let e : drop i l ≡ [] = drop_of_length-le l {i = i} h in
      left-none (rw e at g)

-- the count, cut to what the array has, is the list's
pub counted : {A : Type 0} (F : Field A) (w n room r : ℕ) (l : List A) → r ≡ min n room → length l ≡ room
    → (num w).print r ++ many_print F (take r l) ≡ (num w).print (length (take n l)) ++ many_print F (take n l)
counted F w n room r l e h =
    let t : take r l ≡ take n l = rw e (take-cut n l room h) in
    let s : r ≡ length (take n l) = omega (arith, e, h, length-take n l) in
    rw (t, s)
