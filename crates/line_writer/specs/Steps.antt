-- What the private function promises; no public promise speaks of it.
use Rattle.std.specs.Prelude.{ℕ, List, ◌++◌, take}
use Rattle.text.specs.Hex.{hex_digits}
use Rattle.names.specs.Reserved.{key_chk}
use Rattle.crc16.specs.Crc.{crc16}
use Rattle.line_draft.specs.declared.Draft.{Draft}
use Rattle.line_body.specs.Steps.{key_part}

-- ` chk=`, and the check of a body
abbrev pub chk_text : List ℕ → List ℕ
chk_text body = key_part key_chk ++ hex_digits 4 (crc16 body)

-- the same behind what a draft holds
abbrev pub chk_behind : Draft → List ℕ
chk_behind d = chk_text (take d.len d.bytes)
