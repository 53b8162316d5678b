-- The whole datagram, from what was tested on the way: what each of the writer's ways out comes to.
use Prim.Native.Nat.{ℕ, ◌+◌, ◌≤◌, ◌<◌}
use mathlib.Core.Path.{◌≡◌, refl, sym, ap, ◌∙◌}
use Rattle.std.proofs.Common.{Option, Some, None}
use mathlib.Core.Bool.{Bool, true, false}
use mathlib.Core.List.{List, ◌∷◌, ◌++◌, append_assoc}
use native.Mathlib.Omega.{arith}
use borrow.Author.Tests.{lt-ltb, le-ltb}
use lib.ListN.{length, take, drop, length-append}
use lib.Seq.{take-append_seam, length-take-le}
use Rattle.octets.specs.Bytes.{front, placed}
use Rattle.octets.specs.Field.{num}
use Rattle.octets.proofs.Tests.{if_yes, if_no, no_true, no_false}
use Rattle.octets.proofs.Lists.{placed-in, placed-append}
use Rattle.layout.specs.declared.Datagram.{Datagram}
use Rattle.layout.specs.Rules.{valid}
use Rattle.layout.specs.Layout.{layout}
use Rattle.datagram_bytes.specs.Bytes.{bytes_of}
use Rattle.datagram_head.specs.Head.{head_bytes}
use Rattle.datagram_head.specs.Head as head
use Rattle.datagram_writer.specs.Answer.{written, refused_with, write_of, write_left}

-- the payload behind the head
pub head-payload : (m : Datagram) (p : List ℕ) → head_bytes m (length p) ++ p ≡ bytes_of m p
unfolding head_bytes bytes_of
head-payload m p = ap (λ (l : List ℕ). 7 ∷ l) (append_assoc (layout.print m) ((num 4).print (length p)) p)

at_front : (w l : List ℕ) → length w ≤ length l → placed w 0 l ≡ front w l
at_front w l h = placed-in w 0 l (omega arith) ∙ let z : 0 + length w ≡ length w = omega arith in rw z

-- ---- the ways out

module _ (m : Datagram) (p l : List ℕ) where
  refused : {k : ℕ} → write_of m p (length l) ≡ refused_with k → (refused_with k ≡ write_of m p (length l)) × (l ≡ write_left m p l)
  unfolding write_left
  refused e = (sym e, rw e)

  pub bad-fields : valid m ≡ false → (refused_with 7 ≡ write_of m p (length l)) × (l ≡ write_left m p l)
  unfolding write_of
  bad-fields e = refused (if_yes _ _ _ (no_false (valid m) e))

  module _ (v : valid m ≡ true) where
    pub bad-payload : 4096 < length p → (refused_with 4 ≡ write_of m p (length l)) × (l ≡ write_left m p l)
    unfolding write_of
    bad-payload h = refused (if_no _ _ _ (no_true (valid m) v) ∙ if_yes _ _ _ (lt-ltb 4096 (length p) h))

    module _ (h : length p ≤ 4096) where
      pub bad-room : length l < length (bytes_of m p) → (refused_with 5 ≡ write_of m p (length l)) × (l ≡ write_left m p l)
      unfolding write_of
      bad-room k = refused (if_no _ _ _ (no_true (valid m) v) ∙ if_no _ _ _ (le-ltb 4096 (length p) h) ∙ if_yes _ _ _ (lt-ltb (length l) (length (bytes_of m p)) k))

      pub room-enough : length (bytes_of m p) ≤ length l → write_of m p (length l) ≡ written (length (bytes_of m p))
      unfolding write_of
      room-enough k = if_no _ _ _ (no_true (valid m) v) ∙ if_no _ _ _ (le-ltb 4096 (length p) h) ∙ if_no _ _ _ (le-ltb (length l) (length (bytes_of m p)) k)

      pub left-written : length (bytes_of m p) ≤ length l → write_left m p l ≡ front (bytes_of m p) l
      unfolding write_left
      left-written k = rw (room-enough k)

-- ---- the head, as the code has it

pub head-room : (w a b : List ℕ) (n : ℕ) → n ≡ length w → b ≡ front w a → n ≡ length (take n b)
head-room w a b n e f =
    let h : n ≤ length b = rw f (omega (arith, e, length-append w (drop (length w) a))) in
    sym (length-take-le n b h)

-- a message without a head is not valid; one with a head is, and the head is as long
pub no-head : (m : Datagram) (len : ℕ) (o : Option ℕ) → o ≡ head.head_length m len → o ≡ None → valid m ≡ false
unfolding head.head_length
no-head m len o e f = go (valid m) refl
  where
    go : (b : Bool) → valid m ≡ b → valid m ≡ false
    go false v = v
    go true v = let z : head.head_length m len ≡ Some (length (head_bytes m len)) = if_yes _ _ _ v in cc

pub some-head : (m : Datagram) (len : ℕ) (o : Option ℕ) (n : ℕ) → o ≡ head.head_length m len → o ≡ Some n → (valid m ≡ true) × (n ≡ length (head.valid_head m len))
unfolding head.head_length head.valid_head
some-head m len o n e f = go (valid m) refl
  where
    go : (b : Bool) → valid m ≡ b → (valid m ≡ true) × (n ≡ length (head.valid_head m len))
    go true v =
        let z : head.head_length m len ≡ Some (length (head_bytes m len)) = if_yes _ _ _ v in
        let y : n ≡ length (head_bytes m len) = cc in
        (v, y ∙ ap length (sym (if_yes _ _ _ v)))
    go false v = let z : head.head_length m len ≡ None = if_no _ _ _ v in cc

module _ (m : Datagram) (p : List ℕ) (n : ℕ) (v : valid m ≡ true) (e : n ≡ length (head.valid_head m (length p))) where
  is-head : head.valid_head m (length p) ≡ head_bytes m (length p)
  unfolding head.valid_head
  is-head = if_yes _ _ _ v

  -- the length of the whole, as the code counts it
  pub whole_length : length (bytes_of m p) ≡ n + length p
  whole_length = sym (ap length (head-payload m p)) ∙ omega (arith, length-append (head_bytes m (length p)) p, ap length is-head)

  -- what the code lends of the head's array
  pub head-part : (a b : List ℕ) → b ≡ front (head.valid_head m (length p)) a → take n b ≡ head_bytes m (length p)
  head-part a b f = rw (e, f) (take-append_seam (head.valid_head m (length p)) _) ∙ is-head

  -- the head at the front, and the payload behind it
  pub all-written : (l : List ℕ) {c x y : List ℕ} → length p ≤ 4096 → n + length p ≤ length l → c ≡ head_bytes m (length p) → x ≡ placed c 0 l → y ≡ placed p n x
      → (written (n + length p) ≡ write_of m p (length l)) × (y ≡ write_left m p l)
  all-written l {c} {x} {y} h k q f g =
      let s = whole_length in
      let w = head_bytes m (length p) in
      let z : n ≡ 0 + length w = omega (arith, e, ap length is-head) in
      let room : length (bytes_of m p) ≤ length l = omega (arith, s) in
      let sum : 0 + (length w + length p) ≤ length l = omega (arith, z) in
      let t : y ≡ placed p (0 + length w) (placed w 0 l) = g ∙ ap (λ (i : ℕ). placed p i x) z ∙ ap (placed p (0 + length w)) (f ∙ ap (λ (r : List ℕ). placed r 0 l) q) in
      let u : y ≡ placed (bytes_of m p) 0 l = t ∙ placed-append w p 0 l sum ∙ ap (λ (r : List ℕ). placed r 0 l) (head-payload m p) in
      (sym (room-enough m p l v h room ∙ ap written s), u ∙ at_front (bytes_of m p) l room ∙ sym (left-written m p l v h room))
