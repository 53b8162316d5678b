-- Both sides are computed at each of the 256 bytes.
use Prim.Native.Nat.{◌*◌, ◌/◌, ◌%◌, ◌^◌}
use mathlib.Core.Path.{refl}
use borrow.Author.Rules.{rules}
use lib.Bits.{bit_xor}
use Rattle.crc16.specs.Crc.{bit_feed, bits_feed, bits}
use Rattle.crc16.proofs.Every.{agreed}
use Rattle.crc16.proofs.from_zero.Goals as goal

pub returns : goal.returns
unfolding bit_feed
returns c = agreed (λ b. let x = bit_xor b (b / 2 ^ 4) in bit_xor (bit_xor (x * 2 ^ 12 % 2 ^ 16) (x * 2 ^ 5 % 2 ^ 16)) x) (λ b. bits_feed 0 (bits b)) 256 refl c.args.b (search rules)
