-- Source 000, "Datagram bearer": the bytes of a datagram. The fields before the payload length are the layout that the reader reads by.
use Rattle.std.specs.Prelude.{ℕ, ◌+◌, ◌^◌, ◌<◌, ◌≡◌, List, ◌∷◌, ◌++◌, length, IfSome}
use Rattle.std.specs.Int.Signed.{mag}
use Rattle.octets.specs.Field.{num}
use Rattle.layout.specs.declared.Datagram.{Datagram}
use Rattle.layout.specs.Layout.{layout}

-- [1] version = 7, the fields, [4] payload length, [P] payload bytes
unfoldable pub bytes_of : Datagram → List ℕ → List ℕ
bytes_of m payload = 7 ∷ (layout.print m ++ ((num 4).print (length payload) ++ payload))

-- where the payload begins
abbrev pub payload_place : Datagram → ℕ
payload_place m = 1 + length (layout.print m) + 4

-- a value of the Rust type: each number in its type's range, and the arrays as long as they are
pub record Typed (m : Datagram) : Type 0 where
  pub salt : IfSome m.fields.salt (λ z. mag z < 2 ^ 63)
  pub ttl : IfSome m.fields.ttl (λ v. v < 2 ^ 32)
  pub flood : IfSome m.flood (λ v. v < 2 ^ 8)
  pub fragment : IfSome m.fields.fragment (λ f. (f.index < 2 ^ 16) × (f.total < 2 ^ 16))
  pub stream : IfSome m.fields.stream (λ s. (s.sn < 2 ^ 32) × (s.gt < 2 ^ 32))
  pub headers : length m.fields.headers.items ≡ 8
