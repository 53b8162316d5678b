-- Its key and its value, or nothing.
use Rattle.std.proofs.Common.{rules, w64, FitsSigned}
use Rattle.std.proofs.lemmas.Int.{to_z-of_z}
use Rattle.text.specs.Decimal.{signed_decimal}
use Rattle.names.specs.Reserved.{key_s}
use Rattle.line.specs.Writing.{chosen}
use Rattle.line_draft.proofs.Drafts.{adds_none, adds_then, put-adds}
use Rattle.line_body.specs.Steps.{key_part, add_tokens}
use Rattle.line_body.proofs.Drafts.{absent}
use Rattle.line_body.proofs.parts.salt.Goals as goal

pub returns-in_default : goal.returns-in_default
unfolding chosen add_tokens
returns-in_default c = rw (absent c.args.salt c.in_default.not-Some) adds_none

pub returns : goal.returns
unfolding chosen add_tokens
returns c =
    let fits : FitsSigned w64 c.in-Some.salt = search rules in
    let b = rw (to_z-of_z w64 c.in-Some.salt fits) at c.put_signed.ensures in
    rw c.in-Some.is (adds_then (put-adds (key_part key_s) c.put.ensures.0 c.put.ensures.1) (put-adds (signed_decimal c.in-Some.salt) b.0 b.1))
