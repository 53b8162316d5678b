-- Document 01, "Fragments": "fragment N of group 0 to 3 goes to byte (16 × group + N - 1) × 1,024 on; nothing else in the store is ever written".
use Rattle.std.specs.Prelude.{ℕ, ◌+◌, ◌*◌, ◌-◌, List, [], ◌∷◌, ◌++◌, take, drop}
use Rattle.octets.specs.Bytes.{front, placed}
use Rattle.groups.specs.declared.Piece.{Piece}
use Rattle.groups.specs.declared.Group.{Group}
use Rattle.groups.specs.declared.Groups.{Groups}
use Rattle.groups.specs.Groups.{place, fragments, group_at}
use Rattle.groupcalls.specs.Answer.{Said, added, collected, swept, refused}

-- where fragment N of group g begins
abbrev pub store_place : ℕ → ℕ → ℕ
store_place g number = (16 * g + number - 1) * place

-- the store after an add: the fragment's bytes at its place, and all else as it was
abbrev pub store_after : Said → ℕ → List ℕ → List ℕ → List ℕ
store_after (added g) number bytes store = placed bytes (store_place g number) store
store_after (collected g n) number bytes store = store
store_after swept number bytes store = store
store_after (refused n) number bytes store = store

-- the bytes of the fragment that is counted n from 0
abbrev pub bytes_at : List ℕ → ℕ → ℕ → Piece → List ℕ
bytes_at store g n p = take p.len (drop ((16 * g + n) * place) store)

-- fragments joined, the first of them counted n from 0
abbrev pub joined_from : List ℕ → ℕ → ℕ → List Piece → List ℕ
joined_from store g n [] = []
joined_from store g n (p ∷ rest) = bytes_at store g n p ++ joined_from store g (n + 1) rest

-- fragments 1 to M joined
abbrev pub joined : List ℕ → ℕ → Group → List ℕ
joined store g x = joined_from store g 0 (fragments x)

-- the lent buffer after a collect: what is joined stands at its front
abbrev pub out_after : Said → Groups → List ℕ → List ℕ → List ℕ
out_after (collected g n) t store out = front (joined store g (group_at t g)) out
out_after (added g) t store out = out
out_after swept t store out = out
out_after (refused n) t store out = out
