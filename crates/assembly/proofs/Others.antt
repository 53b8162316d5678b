-- THEOREMS: a call on one group leaves the others as they were, in the groups and in the store.
use mathlib.Core.Path.{◌≡◌, refl, ◌∙◌}
use Prim.Native.Nat.{ℕ, ◌*◌, ◌≤◌, ◌<◌}
use native.Mathlib.Omega.{arith}
use native.Mathlib.Decide.{dec_lt}
use mathlib.Core.List.{List}
use lib.ListN.{length, take, drop}
use lib.Seq.{get_or-set_other}
use Rattle.octets.specs.Bytes.{placed}
use Rattle.groups.specs.Groups.{place, store_size, past_group, group_at}
use Rattle.groupcalls.specs.Answer.{added, collected, Outcome}
use Rattle.groupcalls.proofs.Moves.{Move, joining, opening, add-moves, Taking, taking, collect-takes}
use Rattle.fragments.specs.Store.{store_place, store_after}
use Rattle.assembly.specs.History.{Names, named, Arrival, fragment, adding, collecting, House, outcome, after}
use Rattle.assembly.proofs.Places.{placed-before, placed-behind}

-- the 16 places of group j in the store
abbrev pub places_of : ℕ → List ℕ → List ℕ
places_of j store = take (16 * place) (drop (16 * j * place) store)

-- ---- the groups

pub add-others : (w : House) (a : Names) (f : Arrival) (at j : ℕ) → (outcome w (adding a f)).answer ≡ added at → (j ≡ at → ⊥)
    → group_at (after w (adding a f)).groups j ≡ group_at w.groups j
add-others w a f at j e d = go (outcome w (adding a f)) (add-moves w.groups (length w.store) (named a) (fragment f)) e
  where
    go : (o : Outcome) → Move w.groups (length w.store) (named a) (fragment f) o → o.answer ≡ added at → group_at o.after j ≡ group_at w.groups j
    go o (Move.refusing m) q = refl
    go o (joining {g} k s r b u v x) q = let z : g ≡ at = cc in get_or-set_other w.groups.items g j _ past_group (λ h. d (h ∙ z))
    go o (opening {g} k s r b u v x) q = let z : g ≡ at = cc in get_or-set_other w.groups.items g j _ past_group (λ h. d (h ∙ z))

pub collect-others : (w : House) (a : Names) (out : List ℕ) (at n j : ℕ) → (outcome w (collecting a out)).answer ≡ collected at n → (j ≡ at → ⊥)
    → group_at (after w (collecting a out)).groups j ≡ group_at w.groups j
collect-others w a out at n j e d = go (outcome w (collecting a out)) (collect-takes w.groups (length w.store) (named a) (length out)) e
  where
    go : (o : Outcome) → Taking w.groups (length w.store) (named a) (length out) o → o.answer ≡ collected at n → group_at o.after j ≡ group_at w.groups j
    go o (Taking.refusing m) q = refl
    go o (taking {g} k s r b u v x) q = let z : g ≡ at = cc in get_or-set_other w.groups.items g j _ past_group (λ h. d (h ∙ z))

-- ---- the store: only an add writes to it, and only to its own group's places

places-stay : (bytes store : List ℕ) (g number j : ℕ) → length store ≡ store_size → length bytes ≤ place → g < 4 → 1 ≤ number → number ≤ 16 → (j ≡ g → ⊥)
    → places_of j (placed bytes (store_place g number) store) ≡ places_of j store
places-stay bytes store g number j s b h k m d = go (dec_lt j g)
  where
    go : Dec (j < g) → places_of j (placed bytes (store_place g number) store) ≡ places_of j store
    go (yes lt) = placed-before bytes (store_place g number) store (omega arith) (16 * j * place) (16 * place) (omega arith)
    go (no ge) = let z : g < j = omega (arith, d) in placed-behind bytes (store_place g number) store (omega arith) (16 * j * place) (16 * place) (omega arith)

pub add-places : (w : House) (a : Names) (f : Arrival) (at j : ℕ) → (outcome w (adding a f)).answer ≡ added at → (j ≡ at → ⊥)
    → places_of j (after w (adding a f)).store ≡ places_of j w.store
add-places w a f at j e d =
    go (outcome w (adding a f)) (add-moves w.groups (length w.store) (named a) (fragment f)) e
  where
    go : (o : Outcome) → Move w.groups (length w.store) (named a) (fragment f) o → o.answer ≡ added at
        → places_of j (store_after o.answer f.number f.bytes w.store) ≡ places_of j w.store
    go o (Move.refusing m) q = refl
    go o (joining {g} k s r b u v x) q = let z : g ≡ at = cc in places-stay f.bytes w.store g f.number j s r.size b r.from (omega (arith, r.to, r.most)) (λ h. d (h ∙ z))
    go o (opening {g} k s r b u v x) q = let z : g ≡ at = cc in places-stay f.bytes w.store g f.number j s r.size b r.from (omega (arith, r.to, r.most)) (λ h. d (h ∙ z))

-- a collect writes no store
pub collect-store : (w : House) (a : Names) (out : List ℕ) → (after w (collecting a out)).store ≡ w.store
collect-store w a out = refl
