-- A valid message, written and read back, is the same message, and the payload stands behind its fields.
use Prim.Native.Nat.{ℕ, suc, ◌+◌, ◌^◌, ◌≤◌, ◌<◌}
use mathlib.Core.Path.{◌≡◌, ap, ◌∙◌}
use mathlib.Core.Bool.{true}
use mathlib.Core.List.{List, ◌∷◌, ◌++◌}
use native.Mathlib.Omega.{arith}
use borrow.Author.Tests.{le-ltb, lt-ltb, eq-eqb}
use lib.ListN.{length, drop, length-append}
use lib.Seq.{drop-append_seam}
use Rattle.octets.specs.Field.{got, num}
use Rattle.octets.proofs.FieldLaws.{num_laws}
use Rattle.octets.proofs.NumberLaws.{length-bytes}
use Rattle.octets.proofs.Tests.{if_yes, if_no}
use Rattle.layout.specs.declared.Datagram.{Datagram}
use Rattle.layout.specs.Rules.{valid}
use Rattle.layout.specs.Tidy.{tidy_datagram}
use Rattle.layout.specs.Layout.{layout, message}
use Rattle.layout.proofs.Valid.{message-laws}
use Rattle.datagram.specs.Answer.{accepted, after_length, after_fields, read_of}
use Rattle.datagram_bytes.specs.Bytes.{bytes_of, payload_place, Typed}
use Rattle.datagram_bytes.proofs.Good.{layout-good, message-good}
use Rattle.datagram_bytes.proofs.Tidied.{message-tidy}

-- the fields were read, then the length, and the payload is all that is left
read_by : (d : List ℕ) (m : Datagram) (u n : ℕ) → (num 4).parse (drop (1 + u) d) ≡ got n 4 → n ≤ 4096 → 1 + u + 4 + n ≡ length d → after_fields d (got m u) ≡ accepted m (1 + u + 4) n
read_by d m u n e h k = ap (after_length d m (1 + u)) e ∙ if_no _ _ _ (le-ltb 4096 n h) ∙ if_yes _ _ _ (eq-eqb (1 + u + 4 + n) (length d) k)

read-tidy : (m : Datagram) (payload : List ℕ) → Typed m → valid m ≡ true → length payload ≤ 4096
    → read_of (bytes_of m payload) ≡ accepted (message.tidy m) (payload_place m) (length payload)
unfolding bytes_of read_of message
read-tidy m payload t e h =
    let w = layout.print m in
    let n = (num 4).print (length payload) in
    let z : 1 + length w ≡ suc (length w) = omega arith in
    let small : length payload < 256 ^ 4 = omega arith in
    let four : length n ≡ 4 = length-bytes 4 (length payload) in
    let long : 1 + length w + 4 + length payload ≡ length (7 ∷ (w ++ (n ++ payload))) =
    (let a = length-append w (n ++ payload) in let b = length-append n payload in omega (arith, a, b, four)) in
    let size : (num 4).parse (drop (1 + length w) (7 ∷ (w ++ (n ++ payload)))) ≡ got (length payload) 4 =
    rw (z, drop-append_seam w (n ++ payload)) ((num_laws 4).back (length payload) payload (lt-ltb (length payload) (256 ^ 4) small) ∙ ap (λ (k : ℕ). got (length payload) k) four) in
    ap (after_fields (7 ∷ (w ++ (n ++ payload)))) (message-laws.back m (n ++ payload) (message-good m t e))
    ∙ read_by (7 ∷ (w ++ (n ++ payload))) (message.tidy m) (length w) (length payload) size h long

pub read_back : (m : Datagram) (payload : List ℕ) → Typed m → valid m ≡ true → length payload ≤ 4096
    → read_of (bytes_of m payload) ≡ accepted (tidy_datagram m) (payload_place m) (length payload)
read_back m payload t e h = read-tidy m payload t e h ∙ ap (λ (x : Datagram). accepted x (payload_place m) (length payload)) (message-tidy m t (layout-good m t e))
