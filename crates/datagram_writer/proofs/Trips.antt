-- What writing and reading come to together, from the two public promises: a valid message that fits, written and read back, is the same
-- message with its payload; an accepted datagram, its message and payload written again, has the same bytes.
use Prim.Native.Nat.{ℕ, ◌+◌, ◌≤◌}
use mathlib.Core.Path.{◌≡◌, ap, ◌∙◌}
use mathlib.Core.Bool.{true}
use mathlib.Core.List.{List, ◌++◌}
use native.Mathlib.Omega.{arith}
use borrow.Author.Tests.{le-leb}
use lib.ListN.{length, take, drop, length-append, length-take}
use lib.Seq.{take-append_seam, drop-append_seam, take_all}
use Rattle.octets.specs.Bytes.{Bytes, front}
use Rattle.octets.proofs.Tests.{if_yes}
use Rattle.layout.specs.declared.Datagram.{Datagram}
use Rattle.layout.specs.Rules.{valid}
use Rattle.layout.specs.Tidy.{tidy_datagram}
use Rattle.datagram.specs.Answer.{accepted, read_of, part_of}
use Rattle.datagram_bytes.specs.Bytes.{bytes_of, payload_place, Typed}
use Rattle.datagram_bytes.proofs.Back.{read_back}
use Rattle.datagram_bytes.proofs.Again.{whole, accepted-valid, same_bytes}
use Rattle.datagram_writer.specs.Answer.{write_of, write_left}
use Rattle.datagram_writer.specs.Answer as answer
use Rattle.datagram_head.specs.Head.{head_bytes}
use Rattle.datagram_head.proofs.Whole.{head-length}
use Rattle.datagram_writer.proofs.Whole.{head-payload, room-enough, left-written}

-- the payload's place in the bytes of a message
payload-part : (m : Datagram) (p : List ℕ) → part_of (bytes_of m p) (payload_place m) (length p) ≡ p
unfolding part_of
payload-part m p =
    let w = head_bytes m (length p) in
    let n = head-length m (length p) in
    rw (← head-payload m p, ← n)
    (if_yes _ _ _ (le-leb (length w + length p) (length (w ++ p)) (omega (arith, length-append w p))) ∙ ap (take (length p)) (drop-append_seam w p) ∙ take_all (length p) p (omega arith))

module _ (m : Datagram) (payload buffer : List ℕ) (t : Typed m) (v : valid m ≡ true) (h : length payload ≤ 4096) (k : length (bytes_of m payload) ≤ length buffer) where
  -- it is written
  pub written : write_of m payload (length buffer) ≡ answer.written (length (bytes_of m payload))
  written = room-enough m payload buffer v h k

  bytes-written : take (length (bytes_of m payload)) (write_left m payload buffer) ≡ bytes_of m payload
  bytes-written = ap (take (length (bytes_of m payload))) (left-written m payload buffer v h k) ∙ take-append_seam (bytes_of m payload) _

  -- what was written is read back as the same message
  pub written_read : read_of (take (length (bytes_of m payload)) (write_left m payload buffer)) ≡ accepted (tidy_datagram m) (payload_place m) (length payload)
  written_read = ap read_of bytes-written ∙ read_back m payload t v h

  -- and the payload stands where the answer says
  pub payload-read : part_of (take (length (bytes_of m payload)) (write_left m payload buffer)) (payload_place m) (length payload) ≡ payload
  payload-read = ap (λ (d : List ℕ). part_of d (payload_place m) (length payload)) bytes-written ∙ payload-part m payload

module _ (d : List ℕ) (m : Datagram) (at n : ℕ) (buffer : List ℕ) (hd : Bytes d) (e : read_of d ≡ accepted m at n) (k : length d ≤ length buffer) where
  part-read : part_of d at n ≡ take n (drop at d)
  unfolding part_of
  part-read = if_yes _ _ _ (le-leb (at + n) (length d) (omega (arith, (whole d m at n e).ends)))

  same : bytes_of m (part_of d at n) ≡ d
  same = ap (bytes_of m) part-read ∙ same_bytes d m at n hd e

  small : length (part_of d at n) ≤ 4096
  small = rw part-read (omega (arith, length-take n (drop at d), (whole d m at n e).small))

  room : length (bytes_of m (part_of d at n)) ≤ length buffer
  room = rw same k

  -- written again, the datagram is as long
  pub read-written : write_of m (part_of d at n) (length buffer) ≡ answer.written (length d)
  read-written = room-enough m (part_of d at n) buffer (accepted-valid d m at n hd e) small room ∙ ap (λ (b : List ℕ). answer.written (length b)) same

  -- and has the same bytes
  pub read_left : write_left m (part_of d at n) buffer ≡ front d buffer
  read_left = left-written m (part_of d at n) buffer (accepted-valid d m at n hd e) small room ∙ ap (λ (b : List ℕ). front b buffer) same
