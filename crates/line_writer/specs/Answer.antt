-- Document 01, "The ihave line": what the writer of a line answers, and what the lent buffer then holds.
use Rattle.std.specs.Prelude.{ℕ, zero, suc, List, length, Result, Ok, Err}
use Rattle.octets.specs.Bytes.{front}
use Rattle.refusals.specs.declared.Refusal.{Refusal}
use Rattle.refusals.specs.Refusals.{number_of}
use Rattle.line.specs.Writing.{line_written, write_refusal}
use Rattle.line.specs.declared.Line.{Line}

-- written, in so many bytes, its LF counted; refused, with the number of the table
pub data Writing : Type 0 where
  Written : (bytes : ℕ) → Writing
  Refused : (number : ℕ) → Writing

-- the number and the values for each case of what the code answers
abbrev pub says : Result ℕ Refusal → Writing
says (Ok n) = Written n
says (Err r) = Refused (number_of r)

-- by the number of the refusal, 0 where there is none: the number of bytes, its LF counted; the bytes at the front, or all as it was
abbrev pub answer_by : ℕ → ℕ → Writing
answer_by zero n = Written n
answer_by (suc k) n = Refused (suc k)

abbrev pub left_by : ℕ → List ℕ → List ℕ → List ℕ
left_by zero w buffer = front w buffer
left_by (suc k) w buffer = buffer

unfoldable pub write_answer : Line → List ℕ → Writing
write_answer m buffer = answer_by (write_refusal m (length buffer)) (length (line_written m))

unfoldable pub write_left : Line → List ℕ → List ℕ
write_left m buffer = left_by (write_refusal m (length buffer)) (line_written m) buffer
