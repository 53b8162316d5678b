-- The weights of the bits that are set.
use native.Mathlib.Omega.{arith}
use Rattle.layout.specs.Layout.{flags_number}
use Rattle.datagram_head.proofs.numbers.number_of.Goals as goal

pub returns : goal.returns
unfolding flags_number
returns c = omega (arith, c.bit.ensures.0, c.bit-2.ensures.0, c.bit-3.ensures.0, c.bit-4.ensures.0, c.bit-5.ensures.0, c.bit-6.ensures.0, c.bit-7.ensures.0, c.bit-8.ensures.0, c.bit-9.ensures.0, c.bit-10.ensures.0)
