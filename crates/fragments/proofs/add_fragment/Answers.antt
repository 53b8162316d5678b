-- What the groups say, and the bytes at their place.
use Rattle.std.proofs.Common.{ap, arith}
use Rattle.groupcalls.specs.Answer.{added, saying}
use Rattle.groupcalls.proofs.Moves.{added-at}
use Rattle.fragments.proofs.add_fragment.Goals as goal

pub overflow_mul-g : goal.overflow_mul-g
overflow_mul-g c = let k = added-at _ _ _ _ _ _ c.add-s.ensures (ap (saying (λ g. added g)) c.in-Ok.is) in omega arith

pub overflow_add-g : goal.overflow_add-g
overflow_add-g c = let k = added-at _ _ _ _ _ _ c.add-s.ensures (ap (saying (λ g. added g)) c.in-Ok.is) in omega arith

pub overflow_sub-g : goal.overflow_sub-g
overflow_sub-g c = let k = added-at _ _ _ _ _ _ c.add-s.ensures (ap (saying (λ g. added g)) c.in-Ok.is) in omega arith

pub overflow_mul-g-in-Ok : goal.overflow_mul-g-in-Ok
overflow_mul-g-in-Ok c = let k = added-at _ _ _ _ _ _ c.add-s.ensures (ap (saying (λ g. added g)) c.in-Ok.is) in omega arith
