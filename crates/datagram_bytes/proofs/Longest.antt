-- Document 01, "The datagram": the longest valid datagram has 6,205 bytes.
use Prim.Native.Nat.{ℕ, ◌+◌, ◌≤◌}
use mathlib.Core.Path.{◌≡◌, ap, sym, ◌∙◌}
use mathlib.Core.Bool.{true}
use mathlib.Core.List.{List, ◌++◌}
use native.Mathlib.Omega.{arith}
use lib.ListN.{length, take, drop, length-append, length-take}
use Rattle.octets.specs.Bytes.{Bytes}
use Rattle.octets.specs.Field.{num}
use Rattle.octets.proofs.NumberLaws.{length-bytes}
use Rattle.layout.specs.declared.Datagram.{Datagram}
use Rattle.layout.specs.Rules.{valid}
use Rattle.layout.specs.Layout.{layout}
use Rattle.datagram.specs.Answer.{accepted, read_of}
use Rattle.datagram_bytes.specs.Bytes.{bytes_of, Typed}
use Rattle.datagram_bytes.proofs.Again.{whole, accepted-good, same_bytes}
use Rattle.datagram_bytes.proofs.Good.{layout-good}
use Rattle.datagram_bytes.proofs.Sizes.{fields-size}

bytes-size : (m : Datagram) (p : List ℕ) → length (bytes_of m p) ≡ 1 + length (layout.print m) + 4 + length p
unfolding bytes_of
bytes-size m p =
    let n = (num 4).print (length p) in
    omega (arith, length-append (layout.print m) (n ++ p), length-append n p, length-bytes 4 (length p))

-- written: a valid message and a payload of at most 4,096 bytes
pub longest-written : (m : Datagram) (p : List ℕ) → Typed m → valid m ≡ true → length p ≤ 4096 → length (bytes_of m p) ≤ 6205
longest-written m p t e h = omega (arith, bytes-size m p, fields-size m (layout-good m t e))

-- read: an accepted datagram
pub longest-read : (d : List ℕ) (m : Datagram) (at n : ℕ) → Bytes d → read_of d ≡ accepted m at n → length d ≤ 6205
longest-read d m at n h e =
    let w = whole d m at n e in
    let g = fields-size m (accepted-good d m at n h e) in
    let s : length d ≡ 1 + length (layout.print m) + 4 + length (take n (drop at d)) = sym (ap length (same_bytes d m at n h e)) ∙ bytes-size m (take n (drop at d)) in
    omega (arith, s, g, w.small, length-take n (drop at d))
