-- THEOREM: what `write_line` promises to leave in a lent buffer, handed without its LF to `read_line`, is read as the message that was written.
use Prim.Native.Nat.{ℕ, zero, suc, ◌-◌}
use mathlib.Core.Path.{◌≡◌, refl, sym, ap, ◌∙◌, subst}
use mathlib.Core.List.{List, [], ◌∷◌, ◌++◌, append_assoc}
use native.Mathlib.Omega.{arith}
use lib.ListN.{length, take, drop, length-append}
use lib.Seq.{take-append_seam}
use Rattle.octets.specs.Bytes.{front}
use Rattle.line.specs.Reading.{read_of}
use Rattle.line.specs.Writing.{print_of, line_written, write_refusal}
use Rattle.line.specs.declared.Line.{Line}
use Rattle.line_writer.specs.Answer.{Writing, Written, Refused, answer_by, left_by, write_answer, write_left}
use Rattle.line_trip.proofs.Message.{Typed}
use Rattle.line_trip.proofs.RoundTrip.{read_back, written_read}

abbrev count_of : Writing → ℕ
count_of (Written n) = n
count_of (Refused n) = 0

abbrev WasRefused : Writing → Type 0
WasRefused (Written n) = ⊥
WasRefused (Refused n) = Unit

-- a line with its LF at the front of a buffer: the bytes before the LF
front-line : (w rest : List ℕ) → take (length (w ++ (0x0A ∷ [])) - 1) ((w ++ (0x0A ∷ [])) ++ rest) ≡ w
front-line w rest =
    let n : length (w ++ (0x0A ∷ [])) - 1 ≡ length w = omega (arith, length-append w (0x0A ∷ [])) in
    rw (n, append_assoc w (0x0A ∷ []) rest) (take-append_seam w ((0x0A ∷ []) ++ rest))

pub written-then-read : (m : Line) (buffer : List ℕ) (n : ℕ) → Typed m → write_answer m buffer ≡ Written n
    → read_of (take (n - 1) (write_left m buffer)) ≡ read_back m
unfolding write_answer write_left
written-then-read m buffer n typed e = go (write_refusal m (length buffer)) refl e
  where
    go : (k : ℕ) → write_refusal m (length buffer) ≡ k → answer_by k (length (line_written m)) ≡ Written n
        → read_of (take (n - 1) (left_by k (line_written m) buffer)) ≡ read_back m
    go zero r h =
        ap (λ j. read_of (take (j - 1) (front (line_written m) buffer))) (sym (ap count_of h))
        ∙ ap read_of (front-line (print_of m) (drop (length (line_written m)) buffer))
        ∙ written_read m (length buffer) typed r
    go (suc k) r h = absurd (subst WasRefused h tt)
