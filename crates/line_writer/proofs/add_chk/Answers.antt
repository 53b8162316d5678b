-- A key and the check of the bytes before it.
use Prim.Native.Nat.{ℕ}
use mathlib.Core.Path.{ap, ◌∙◌}
use mathlib.Core.List.{◌++◌}
use Rattle.text.specs.Hex.{hex_digits}
use Rattle.names.specs.Reserved.{key_chk}
use Rattle.crc16.specs.Crc.{crc16}
use Rattle.line_draft.specs.Drafts.{added}
use Rattle.line_draft.proofs.Drafts.{add-append, adds_then, adds-as, put-adds}
use Rattle.line_body.specs.Steps.{key_part}
use Rattle.line_writer.proofs.add_chk.Goals as goal

pub returns : goal.returns
returns c =
    adds-as
    (λ d. add-append (key_part key_chk) (hex_digits 4 c.crc-chk.result) d ∙ ap (λ (n : ℕ). added (key_part key_chk ++ hex_digits 4 n) d) (c.crc-chk.ensures ∙ ap crc16 c.part.ensures))
    (adds_then (put-adds (key_part key_chk) c.put.ensures.0 c.put.ensures.1) (put-adds (hex_digits 4 c.crc-chk.result) c.put_chk.ensures.0 c.put_chk.ensures.1))
