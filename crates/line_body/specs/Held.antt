-- Document 01, "The ihave line": the bytes before the space that precedes `chk=`, held in an array of 512.
use Rattle.std.specs.Prelude.{length, replicate, if◌then◌else◌}
use Rattle.octets.specs.Words.{◌≤?◌}
use Rattle.octets.specs.Bytes.{front}
use Rattle.line.specs.Writing.{body_of}
use Rattle.line.specs.declared.Line.{Line}
use Rattle.line_draft.specs.Drafts.{full_draft}
use Rattle.line_draft.specs.declared.Draft.{Draft}

-- the bytes, then zeros; a body that is too long for a line is a full draft
unfoldable pub body_held : Line → Draft
body_held m = if length (body_of m) ≤? 512 then record { bytes = front (body_of m) (replicate 512 0); len = length (body_of m) } else full_draft
