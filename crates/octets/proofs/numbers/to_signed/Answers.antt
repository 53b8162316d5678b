-- The signed number of the bits: those from 2 ^ 63 up count down from -1.
use mathlib.Core.Path.{sym, ap, ◌∙◌}
use borrow.Author.Rules.{rules}
use mir.Syntax.{w64}
use mir.ValLaws.{to_z-of_z, to_z-Fits}
use Rattle.octets.proofs.SignLaws.{bits64, signed64, from-kit, high}
use Rattle.octets.proofs.numbers.to_signed.Goals as goal

pub overflow_sub-result : goal.overflow_sub-result
overflow_sub-result c = rw (high c.args.v (search rules) (search rules)) (to_z-Fits w64 c.args.v c.ranges.v)

pub returns-then-v-lt9223372036854775808 : goal.returns-then-v-lt9223372036854775808
returns-then-v-lt9223372036854775808 c = rw (from-kit c.args.v)

pub returns-else-v-lt9223372036854775808 : goal.returns-else-v-lt9223372036854775808
returns-else-v-lt9223372036854775808 c = ap (λ z. signed64 (bits64 z)) (high c.args.v (search rules) (search rules)) ∙ to_z-of_z w64 (signed64 c.args.v) (to_z-Fits w64 c.args.v c.ranges.v) ∙ sym (from-kit c.args.v)
