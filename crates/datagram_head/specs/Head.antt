-- Document 01, "The datagram": what stands before the payload.
use Rattle.std.specs.Prelude.{ℕ, List, [], ◌∷◌, ◌++◌, length, Option, Some, None, if◌then◌else◌}
use Rattle.octets.specs.Field.{num}
use Rattle.layout.specs.declared.Datagram.{Datagram}
use Rattle.layout.specs.Rules.{valid}
use Rattle.layout.specs.Layout.{layout}

-- the bytes before the payload: version, fields, payload length
unfoldable pub head_bytes : Datagram → ℕ → List ℕ
head_bytes m len = 7 ∷ (layout.print m ++ (num 4).print len)

-- what is written of a message: the head of a valid one
unfoldable pub valid_head : Datagram → ℕ → List ℕ
valid_head m len = if valid m then head_bytes m len else []

-- how many bytes it has, where there is one
unfoldable pub head_length : Datagram → ℕ → Option ℕ
head_length m len = if valid m then Some (length (head_bytes m len)) else None
