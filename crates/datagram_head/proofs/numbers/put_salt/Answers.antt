-- Where it is there, eight bytes in two's complement.
use mathlib.Core.Path.{sym, ap, ◌∙◌}
use lib.IntN.{ℤ}
use borrow.Author.Rules.{rules}
use mir.Syntax.{w64}
use mir.ValLaws.{to_z-of_z}
use Rattle.octets.specs.Bytes.{placed}
use Rattle.octets.specs.Numbers.{little_bytes, twos}
use Rattle.octets.specs.Field.{signed_num}
use Rattle.octets.proofs.NumberLaws.{length-bytes}
use Rattle.datagram_head.proofs.Puts.{put-by, some-put}
use Rattle.datagram_head.proofs.numbers.put_salt.Goals as goal

pub returns : goal.returns
returns c = some-put signed_num c.args.salt c.in-Some.is (put-by (sym (length-bytes 8 (twos c.in-Some.salt))) (c.put_i64.ensures.1 ∙ ap (λ (z : ℤ). placed (little_bytes 8 (twos z)) c.args.at c.args.out.now) (to_z-of_z w64 c.in-Some.salt (search rules))))
