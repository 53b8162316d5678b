-- Seven hexadecimal digits.
use mathlib.Core.Path.{sym}
use Rattle.text.proofs.Numerals.{length_digits}
use Rattle.layout.specs.Layout.{hex_id}
use Rattle.datagram_head.proofs.Puts.{put-by}
use Rattle.datagram_head.proofs.numbers.put_id.Goals as goal

pub returns : goal.returns
unfolding hex_id
returns c = put-by (sym (length_digits 16 7 c.args.id)) c.write_id.ensures.1
