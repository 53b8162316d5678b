-- The upper half of the register meets the byte, the lower half moves up.
use Prim.Native.Nat.{ℕ, ◌*◌, ◌/◌, ◌%◌, ◌^◌}
use mathlib.Core.Path.{ap, ◌∙◌}
use native.Mathlib.Omega.{arith}
use borrow.Author.Rules.{rules}
use lib.Bits.{bit_xor, xor_lt}
use Rattle.crc16.specs.Crc.{bits_feed, bits}
use Rattle.crc16.proofs.Register.{by-halves}
use Rattle.crc16.proofs.byte.Goals as goal

pub from_zero-requires : goal.from_zero-requires
from_zero-requires c = rw c.from.ensures (xor_lt 8 (c.args.crc / 2 ^ 8) c.args.b (omega arith) (omega arith))

pub returns : goal.returns
returns c =
    ap (λ (x : ℕ). bit_xor x (c.args.crc % 256 * 256)) c.from_zero.ensures
    ∙ ap (λ (x : ℕ). bit_xor (bits_feed 0 (bits (bit_xor (c.args.crc / 2 ^ 8) x))) (c.args.crc % 256 * 256)) c.from.ensures
    ∙ by-halves c.args.crc c.args.b (search rules) (search rules)
