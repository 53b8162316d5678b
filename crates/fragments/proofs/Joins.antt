-- The fragments' bytes, joined: how long they are together, and how a loop that copies them one by one comes to the whole.
use Rattle.std.specs.Prelude.{if◌then◌else◌}
use mathlib.Core.Path.{◌≡◌, refl, sym, ap, ◌∙◌}
use Prim.Native.Nat.{ℕ, zero, suc, ◌+◌, ◌*◌, ◌-◌, ◌≤◌, ◌<◌, min}
use native.Mathlib.Omega.{arith}
use mathlib.Core.Bool.{Bool, true, false}
use mathlib.Core.List.{List, [], ◌∷◌, ◌++◌}
use lib.ListN.{length, take, drop, get_or, length-append, length-take, length-drop}
use Rattle.std.proofs.lemmas.List.{take_min}
use Rattle.std.proofs.lemmas.List.Sums.{sum_by-cons}
use borrow.Author.Tests.{eqb-true, leb-true, le-leb}
use Rattle.octets.specs.Words.{◌and◌, every, ◌<?◌, ◌≤?◌, ◌=?◌}
use Rattle.octets.specs.Bytes.{front, placed}
use Rattle.octets.proofs.Tests.{and_left, and_right, and_both}
use Rattle.octets.proofs.Lists.{length-placed, placed-in, placed-none, placed-append, every-at}
use Rattle.groups.specs.declared.Piece.{Piece}
use Rattle.groups.specs.declared.Group.{Group}
use Rattle.groups.specs.Groups.{place, store_size, no_piece, fragments, bytes_in, keeps_piece, keeps_pieces}
use Rattle.fragments.specs.Store.{bytes_at, joined_from}

-- ---- no fragment is longer than its place

abbrev pub short : Piece → Bool
short p = p.len ≤? place

piece-short : (total n : ℕ) (p : Piece) → keeps_piece total n p ≡ true → short p ≡ true
unfolding keeps_piece
piece-short total n p e = go p.held e
  where
    go : (b : Bool) → (if b then n <? total and p.len ≤? place else p.len =? 0) ≡ true → (p.len ≤? place) ≡ true
    go true q = and_right (n <? total) _ q
    go false q = le-leb p.len place (let z = eqb-true p.len 0 q in omega arith)

pub all_short : (total n : ℕ) (l : List Piece) → keeps_pieces total n l ≡ true → every short l ≡ true
all_short total n [] e = refl
all_short total n (p ∷ l) e = and_both _ _ (piece-short total n p (and_left (keeps_piece total n p) _ e)) (all_short total (n + 1) l (and_right (keeps_piece total n p) _ e))

every_take : (p : Piece → Bool) (n : ℕ) (l : List Piece) → every p l ≡ true → every p (take n l) ≡ true
every_take p zero l e = refl
every_take p (suc n) [] e = refl
every_take p (suc n) (x ∷ l) e = and_both _ _ (and_left (p x) _ e) (every_take p n l (and_right (p x) _ e))

every_drop : (p : Piece → Bool) (n : ℕ) (l : List Piece) → every p l ≡ true → every p (drop n l) ≡ true
every_drop p zero l e = e
every_drop p (suc n) [] e = refl
every_drop p (suc n) (x ∷ l) e = every_drop p n l (and_right (p x) _ e)

-- the first fragments of a group that keeps its rules
pub short_first : (x : Group) (n : ℕ) → keeps_pieces x.total 0 x.pieces ≡ true → every short (take n x.pieces) ≡ true
short_first x n e = every_take short n x.pieces (all_short x.total 0 x.pieces e)

pub short-at : (ps : List Piece) (i : ℕ) → every short ps ≡ true → i < length ps → (get_or ps i no_piece).len ≤ place
short-at ps i e h = leb-true (get_or ps i no_piece).len place (every-at short ps i no_piece e h)

-- the fragments 1 to M stand in the first places, as many as there are
module _ (x : Group) (n : ℕ) (m : n ≡ min x.total 16) (l : length x.pieces ≡ 16) where
  pub first-fragments : take n x.pieces ≡ fragments x
  first-fragments = ap (λ (k : ℕ). take k x.pieces) (m ∙ ap (min x.total) (sym l)) ∙ take_min x.total x.pieces

  pub first-few : length (take n x.pieces) ≤ 16
  first-few = rw length-take (omega (arith, m))

-- ---- how long the fragments are together

module _ (s : List ℕ) (g : ℕ) (h : g < 4) (k : length s ≡ store_size) where
  length-bytes : (n : ℕ) (p : Piece) → n < 16 → short p ≡ true → length (bytes_at s g n p) ≡ p.len
  length-bytes n p i e = simp (length-take, length-drop) (omega (arith, leb-true p.len place e))

  length_from : (n : ℕ) (ps : List Piece) → n + length ps ≤ 16 → every short ps ≡ true → length (joined_from s g n ps) ≡ bytes_in ps
  length_from n [] i e = refl
  length_from n (p ∷ ps) i e =
      length-append (bytes_at s g n p) _
      ∙ omega (arith, sum_by-cons (λ (q : Piece). q.len) p ps, length-bytes n p (omega arith) (and_left (short p) _ e), length_from (n + 1) ps (omega arith) (and_right (short p) _ e))

  -- from the fragment n on
  pub length_rest : (ps : List Piece) (n : ℕ) → n ≤ length ps → length ps ≤ 16 → every short ps ≡ true → length (joined_from s g n (drop n ps)) ≡ bytes_in (drop n ps)
  length_rest ps n i l e =
      let m : length (drop n ps) ≡ length ps - n = length-drop n ps in
      length_from n (drop n ps) (omega arith) (every_drop short n ps e)

-- ---- what is still to be written is placed behind what was

pub join-next : (s : List ℕ) (g i at len : ℕ) (ps rest : List Piece) (p : Piece) (w out out' : List ℕ) → ps ≡ p ∷ rest → w ≡ bytes_at s g i p → out' ≡ placed w at out
    → length w ≡ len → at + (len + length (joined_from s g (i + 1) rest)) ≤ length out
    → (length out' ≡ length out) × (placed (joined_from s g (i + 1) rest) (at + len) out' ≡ placed (joined_from s g i ps) at out)
join-next s g i at len ps rest p w out out' e f q l h = (
  ap length q ∙ length-placed w at out,
  ap (λ (n : ℕ). placed (joined_from s g (i + 1) rest) (at + n) out') (sym l)
      ∙ ap (placed (joined_from s g (i + 1) rest) (at + length w)) q
      ∙ placed-append w (joined_from s g (i + 1) rest) at out (omega arith)
      ∙ ap (λ (v : List ℕ). placed (v ++ joined_from s g (i + 1) rest) at out) f
      ∙ ap (λ (l : List Piece). placed (joined_from s g i l) at out) (sym e),
)

pub join-end : (s : List ℕ) (g i at : ℕ) (ps : List Piece) (v out out₀ : List ℕ) → ps ≡ [] → at ≤ length out → placed (joined_from s g i ps) at out ≡ placed v 0 out₀ → length v ≤ length out₀
    → out ≡ front v out₀
join-end s g i at ps v out out₀ e h q k =
    let z : 0 + length v ≡ length v = omega arith in
    sym (placed-none at out h)
    ∙ ap (λ (l : List Piece). placed (joined_from s g i l) at out) (sym e)
    ∙ q
    ∙ placed-in v 0 out₀ (omega arith)
    ∙ rw z

-- the part of the store that the code copies is the fragment's bytes, len being its length
pub part_bytes : (s : List ℕ) (g i : ℕ) (p : Piece) (len : ℕ) → g < 4 → i < 16 → length s ≡ store_size → p.len ≤ place → len ≡ p.len
    → (take ((16 * g + i) * place + len - (16 * g + i) * place) (drop ((16 * g + i) * place) s) ≡ bytes_at s g i p)
    × (length (take ((16 * g + i) * place + len - (16 * g + i) * place) (drop ((16 * g + i) * place) s)) ≡ len)
part_bytes s g i p len h j k q e =
    let z : (16 * g + i) * place + len - (16 * g + i) * place ≡ p.len = omega arith in
    (rw z, rw z (simp (length-take, length-drop) (omega arith)))
