-- THEOREMS of the calls: which messages `write_line` writes, and that an accepted line in the writer's order, with `chk`, comes back byte for
-- byte, with its LF, at the front of the lent buffer.
use Prim.Native.Nat.{ℕ, ◌+◌, ◌≤◌, ◌<◌}
use mathlib.Core.Path.{◌≡◌, refl, ap, ◌∙◌}
use mathlib.Core.Bool.{true}
use mathlib.Core.List.{List, [], ◌∷◌, ◌++◌}
use native.Mathlib.Omega.{arith}
use borrow.Author.Tests.{le-leb, leb-true, le-ltb}
use lib.ListN.{length, length-append}
use Rattle.octets.specs.Words.{◌and◌, ◌≤?◌, every}
use Rattle.octets.specs.Bytes.{front}
use Rattle.octets.proofs.Tests.{and_both, and_left, if_no, no_true}
use Rattle.utf8.specs.Utf8.{utf8}
use Rattle.refusals.specs.Numbers.{longest_payload}
use Rattle.envelope.specs.Rules.{envelope}
use Rattle.tokens.specs.Cuts.{before, after, split}
use Rattle.tokens.specs.Tokens.{tokens, present, others}
use Rattle.line.specs.Reading.{rest_of, plain, is_text, line_of, refusal_of}
use Rattle.line.specs.Writing.{print_of, line_written, message_good, write_refusal}
use Rattle.line.specs.declared.Line.{Line}
use Rattle.line_writer.specs.Answer.{Written, answer_by, left_by, write_answer, write_left}
use Rattle.line_trip.specs.Order.{InOrder}
use Rattle.names.specs.Reserved.{reserved, reserved_keys}
use Rattle.line_trip.proofs.Examples.{'with-chk', with-chk}
use Rattle.line_trip.proofs.Accepted.{kept, accepted-valid, accepted-short}
use Rattle.line_trip.proofs.Ordered.{printed-again}

-- a valid message with `len` at most 4,096, whose line has at most 512 bytes, with room for it and its LF, is written
module _ (m : Line) (buffer : List ℕ) (valid : envelope m.fields ≡ true) (small : m.len ≤ longest_payload) (short : length (print_of m) ≤ 512) (room : length (print_of m) < length buffer) where
  none-refuses : write_refusal m (length buffer) ≡ 0
  unfolding write_refusal message_good
  none-refuses =
      let n = length-append (print_of m) (0x0A ∷ []) in
      if_no _ _ _ (no_true _ (and_both (envelope m.fields) _ valid (and_both (m.len ≤? 2147483647) _ (le-leb m.len 2147483647 (omega arith)) (le-leb (length (print_of m)) 512 short))))
      ∙ if_no _ _ _ (le-ltb longest_payload m.len small)
      ∙ if_no _ _ _ (le-ltb (length buffer) (length (line_written m)) (omega arith))

  pub valid-written : write_answer m buffer ≡ Written (length (print_of m) + 1)
  unfolding write_answer
  valid-written = ap (λ (k : ℕ). answer_by k (length (line_written m))) none-refuses ∙ ap Written (length-append (print_of m) (0x0A ∷ []))

  pub valid-left : write_left m buffer ≡ front (line_written m) buffer
  unfolding write_left
  valid-left = ap (λ (k : ℕ). left_by k (line_written m) buffer) none-refuses

-- an accepted line in the writer's order, with `chk`
module _ (s : List ℕ) (ok : refusal_of s ≡ 0) (ordered : InOrder (tokens (rest_of s))) (buffer : List ℕ) (room : length s < length buffer) where
  same_line : print_of (line_of s) ≡ s
  same_line = printed-again s ok ordered

  short : length (print_of (line_of s)) ≤ 512
  unfolding is_text
  short = let l = leb-true (length s) 512 (and_left (length s ≤? 512) (utf8 s and every plain s) (kept s ok).text) in omega (arith, ap length same_line)

  room_for : length (print_of (line_of s)) < length buffer
  room_for = omega (arith, ap length same_line)

  pub line-written-again : write_answer (line_of s) buffer ≡ Written (length s + 1)
  line-written-again = valid-written (line_of s) buffer (accepted-valid s ok) (accepted-short s ok) short room_for ∙ ap (λ (l : List ℕ). Written (length l + 1)) same_line

  pub line-left-again : write_left (line_of s) buffer ≡ front (s ++ (0x0A ∷ [])) buffer
  line-left-again = valid-left (line_of s) buffer (accepted-valid s ok) (accepted-short s ok) short room_for ∙ ap (λ (l : List ℕ). front (l ++ (0x0A ∷ [])) buffer) same_line

-- there are such lines, 000's among them
pub ordered-there : (refusal_of 'with-chk' ≡ 0) × InOrder (tokens (rest_of 'with-chk'))
unfolding before after split present others reserved reserved_keys
ordered-there = (with-chk, refl)
