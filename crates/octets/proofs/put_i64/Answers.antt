-- The signed number's eight bytes stand at their place, or nothing changed.
use mathlib.Core.Path.{ap, ◌∙◌}
use mir.Syntax.{w64}
use mir.ValLaws.{to_z-of_z}
use Rattle.octets.specs.Numbers.{little_bytes, twos}
use Rattle.octets.specs.Bytes.{fits, placed}
use Rattle.octets.proofs.put_i64.Goals as goal

pub returns : goal.returns
returns c = let e = c.to_bits.ensures ∙ ap twos (to_z-of_z w64 c.args.v c.ranges.v) in
    (c.put_number.ensures.0 ∙ ap (λ b. fits (little_bytes 8 b) c.args.at c.args.out.now) e, c.put_number.ensures.1 ∙ ap (λ b. placed (little_bytes 8 b) c.args.at c.args.out.now) e)
