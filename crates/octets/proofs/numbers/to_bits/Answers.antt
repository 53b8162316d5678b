-- The bits of a signed number: those of a number below 0 count down from all ones.
use native.Mathlib.Omega.{arith}
use mir.Syntax.{w64}
use mir.ValLaws.{of_z_fits, to_z_pos}
use Rattle.octets.proofs.SignLaws.{twos-kit, low, under}
use Rattle.octets.proofs.numbers.to_bits.Goals as goal

pub overflow_cast-result : goal.overflow_cast-result
overflow_cast-result c = rw (low c.args.z c.ranges.z c.if-z-ge0.true) (tt, of_z_fits w64 c.args.z c.ranges.z)

pub overflow_sub-m : goal.overflow_sub-m
overflow_sub-m c = let w = under c.args.z c.ranges.z c.if-z-ge0.false in rw w.back (record { sfits = w.small })

pub overflow_cast-result-else-z-ge0 : goal.overflow_cast-result-else-z-ge0
overflow_cast-result-else-z-ge0 c = let w = under c.args.z c.ranges.z c.if-z-ge0.false in let p = to_z_pos w64 w.depth w.small in rw (w.back, p) (tt, record { fits = omega (arith, w.small) })

pub overflow_sub-result : goal.overflow_sub-result
overflow_sub-result c = let w = under c.args.z c.ranges.z c.if-z-ge0.false in let p = to_z_pos w64 w.depth w.small in rw (w.back, p) (omega (arith, w.small))

pub returns-then-z-ge0 : goal.returns-then-z-ge0
returns-then-z-ge0 c = rw (twos-kit c.args.z, low c.args.z c.ranges.z c.if-z-ge0.true)

pub returns-else-z-ge0 : goal.returns-else-z-ge0
returns-else-z-ge0 c = let w = under c.args.z c.ranges.z c.if-z-ge0.false in let p = to_z_pos w64 w.depth w.small in rw (twos-kit c.args.z, w.back, p, w.bits)
