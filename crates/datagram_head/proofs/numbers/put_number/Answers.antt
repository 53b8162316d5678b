-- The number's bytes, and the place behind them.
use mathlib.Core.Path.{◌≡◌, sym}
use native.Mathlib.Omega.{arith}
use lib.ListN.{length}
use Rattle.octets.specs.Field.{num}
use Rattle.octets.proofs.NumberLaws.{length-bytes}
use Rattle.datagram_head.proofs.Puts.{put-by}
use Rattle.datagram_head.proofs.numbers.put_number.Goals as goal

pub overflow_add-result : goal.overflow_add-result
overflow_add-result c = let n : length ((num c.args.width).print c.args.v) ≡ c.args.width = length-bytes c.args.width c.args.v in omega (arith, c.requires.room)

pub returns : goal.returns
returns c = put-by (sym (length-bytes c.args.width c.args.v)) c.put_number.ensures.1
