-- The head: the groups that it is made of, and that it has at most 2,109 bytes.
use Prim.Native.Nat.{ℕ, ◌+◌, ◌≤◌}
use mathlib.Core.Path.{◌≡◌, refl, sym, ap, ◌∙◌}
use Rattle.std.proofs.Common.{Option, Some, None}
use mathlib.Core.Bool.{true, false}
use mathlib.Core.List.{List, [], ◌++◌}
use native.Mathlib.Omega.{arith}
use lib.ListN.{length, length-append}
use Rattle.octets.specs.Bytes.{front, placed}
use Rattle.octets.specs.Field.{num, signed_num, given_print}
use Rattle.octets.proofs.Tests.{if_yes, if_no}
use Rattle.octets.proofs.Lists.{placed-in}
use Rattle.octets.proofs.NumberLaws.{length-bytes}
use Rattle.layout.specs.declared.Flags.{Flags}
use Rattle.layout.specs.declared.Datagram.{Datagram}
use Rattle.layout.specs.Rules.{valid}
use Rattle.layout.specs.Layout.{flags, hex_id, hops, opening, ends, way, options, message_flags, opening_of, ends_of, way_of, options_of, layout}
use Rattle.datagram_bytes.specs.Bytes.{payload_place, Typed}
use Rattle.datagram_bytes.proofs.Good.{layout-good}
use Rattle.datagram_bytes.proofs.Sizes.{fields-size}
use Rattle.datagram_head.specs.Head.{head_bytes, head_length, valid_head}
use Rattle.datagram_head.specs.Steps.{Put}

-- ---- the head

-- the fields are the four groups, one after the other
pub in-groups : (m : Datagram) → layout.print m ≡ opening.print (opening_of m) ++ ((ends (message_flags m)).print (ends_of m)
    ++ ((way (message_flags m)).print (way_of m) ++ (options (message_flags m)).print (options_of m)))
unfolding layout
in-groups m = refl

-- flags, id, salt and ttl, by the flags that the code counted and the ttl that it made wide
pub in-opening : (m : Datagram) (f : Flags) (t : Option ℕ) → f ≡ message_flags m → t ≡ m.fields.ttl
    → opening.print (opening_of m) ≡ flags.print f ++ (hex_id.print m.fields.id ++ (given_print signed_num m.fields.salt ++ given_print (num 4) t))
unfolding opening
in-opening m f t e q = rw (e, q)

-- the message's way, by the flood hops that it made wide
pub in-way : (m : Datagram) (n : Option ℕ) → n ≡ m.flood
    → (way (message_flags m)).print (way_of m) ≡ given_print (num 1) n ++ (given_print hops m.route ++ given_print hops m.hops)
unfolding way
in-way m n e = rw e

pub head-length : (m : Datagram) (len : ℕ) → length (head_bytes m len) ≡ payload_place m
unfolding head_bytes
head-length m len = omega (arith, length-append (layout.print m) ((num 4).print len), length-bytes 4 len)

pub head-size : (m : Datagram) (len : ℕ) → Typed m → valid m ≡ true → length (head_bytes m len) ≤ 2109
head-size m len t v = omega (arith, head-length m len, fields-size m (layout-good m t v))

at_front : (w l : List ℕ) → length w ≤ length l → placed w 0 l ≡ front w l
at_front w l h = placed-in w 0 l (omega arith) ∙ let z : 0 + length w ≡ length w = omega arith in rw z

-- ---- the two ways out

pub unwritten : (m : Datagram) (len : ℕ) (l : List ℕ) → valid m ≡ false → (None ≡ head_length m len) × Unit {0} × (l ≡ front (valid_head m len) l)
unfolding valid_head head_length
unwritten m len l e =
    let z : valid_head m len ≡ [] = if_no _ _ _ e in
    (sym (if_no _ _ _ e), tt, sym (ap (λ (w : List ℕ). front w l) z))

pub head-written : (m : Datagram) (len : ℕ) (l : List ℕ) {n : ℕ} {x : List ℕ} → valid m ≡ true → length (head_bytes m len) ≤ 2109 → length l ≡ 2109 → Put (head_bytes m len) 0 l n x
    → (Some n ≡ head_length m len) × (n ≤ 2109) × (x ≡ front (valid_head m len) l)
unfolding valid_head head_length
head-written m len l {n} e h k p =
    let z : valid_head m len ≡ head_bytes m len = if_yes _ _ _ e in
    let y : n ≡ length (head_bytes m len) = omega (arith, p.place) in
    (ap (λ (k : ℕ). Some k) y ∙ sym (if_yes _ _ _ e), omega (arith, y, h), p.bytes ∙ at_front (head_bytes m len) l (omega (arith, h, k)) ∙ sym (ap (λ (w : List ℕ). front w l) z))
