-- A magnitude has fewer digits than there are numbers.
use native.Mathlib.Omega.{arith}
use Rattle.text.proofs.Decimals.{count_most, length-decimal}
use Rattle.text.proofs.signed_size.Goals as goal

pub overflow_add-result : goal.overflow_add-result
overflow_add-result c = omega (arith, c.number_size-n.ensures, c.unsigned_abs.ensures.bound, length-decimal c.unsigned_abs.result, count_most c.unsigned_abs.result)
