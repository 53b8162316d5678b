-- A group and the fragments that made it: what it holds, and where their bytes lie in the store.
use mathlib.Core.Path.{◌≡◌, refl, sym, ap, ◌∙◌}
use Prim.Native.Nat.{ℕ, zero, suc, ◌+◌, ◌*◌, ◌-◌, ◌≤◌, ◌<◌}
use native.Mathlib.Omega.{arith}
use native.Mathlib.Decide.{dec_lt, ℕ_discrete}
use mathlib.Core.Bool.{true, false}
use mathlib.Core.List.{List, [], ◌∷◌, ◌++◌}
use lib.ListN.{length, get_or, set, take, drop, replicate, get_or-replicate}
use lib.Seq.{get_or-set_same, get_or-set_other}
use borrow.Author.Tests.{eq-eqb, ne_eqb}
use Rattle.octets.specs.Words.{◌and◌, every, some}
use Rattle.octets.specs.Bytes.{placed}
use Rattle.octets.proofs.Tests.{if_yes, if_no, and_both, or_left, or-next, no_false}
use Rattle.groups.specs.declared.Piece.{Piece}
use Rattle.groups.specs.Groups.{place, store_size, no_piece, is_held}
use Rattle.fragments.specs.Store.{store_place, bytes_at, joined_from}
use Rattle.assembly.specs.History.{Arrival, is_number, numbers, bytes_of, joined_by, once}
use Rattle.assembly.proofs.Places.{placed-here, placed-before, placed-behind}

-- the places of group g, against the fragments l that were added to it
pub record Parts (l : List Arrival) (g : ℕ) (ps : List Piece) (store : List ℕ) : Type 0 where
  pub held : (n : ℕ) → n < 16 → (get_or ps n no_piece).held ≡ some (is_number (suc n)) l
  pub bytes : (n : ℕ) → n < 16 → bytes_at store g n (get_or ps n no_piece) ≡ bytes_of (suc n) l
  pub single : once l ≡ true

-- a free group holds nothing
pub parts_none : (g : ℕ) (store : List ℕ) → Parts [] g (replicate 16 no_piece) store
parts_none g store =
    record {
      held = λ n h. ap (λ (p : Piece). p.held) (get_or-replicate 16 n no_piece no_piece h);
      bytes = λ n h. ap (bytes_at store g n) (get_or-replicate 16 n no_piece no_piece h);
      single = refl;
    }

-- an add to the store: the place of fragment n (from 0) of group i
module _ (b store : List ℕ) (g number : ℕ) (s : length store ≡ store_size) (r : length b ≤ place) (h : g < 4) (one : 1 ≤ number) (top : number ≤ 16) where
  fits : store_place g number + length b ≤ length store
  fits = omega arith

  -- its own place holds the fragment
  pub own-place : (n : ℕ) → suc n ≡ number → take (length b) (drop ((16 * g + n) * place) (placed b (store_place g number) store)) ≡ b
  own-place n e =
      let z : (16 * g + n) * place ≡ store_place g number = omega arith in
      ap (λ (m : ℕ). take (length b) (drop m (placed b (store_place g number) store))) z ∙ placed-here b (store_place g number) store fits

  -- every other place is as it was
  pub other_place : (i n : ℕ) (p : Piece) → p.len ≤ place → n < 16 → ((i ≡ g) × (suc n ≡ number) → ⊥) → bytes_at (placed b (store_place g number) store) i n p ≡ bytes_at store i n p
  other_place i n p q k d = go (dec_lt (16 * i + n) (16 * g + number - 1))
    where
      go : Dec (16 * i + n < 16 * g + number - 1) → bytes_at (placed b (store_place g number) store) i n p ≡ bytes_at store i n p
      go (yes lt) = placed-before b (store_place g number) store fits ((16 * i + n) * place) p.len (omega arith)
      go (no ge) =
          let z : 16 * g + number - 1 < 16 * i + n = bigger (ℕ_discrete i g) in
          placed-behind b (store_place g number) store fits ((16 * i + n) * place) p.len (omega arith)
        where
          bigger : Dec (i ≡ g) → 16 * g + number - 1 < 16 * i + n
          bigger (yes e) = differs (ℕ_discrete (suc n) number)
            where
              differs : Dec (suc n ≡ number) → 16 * g + number - 1 < 16 * i + n
              differs (yes f) = absurd (d (e, f))
              differs (no f) = omega (arith, f)
          bigger (no e) = omega (arith, e)

-- the other groups' parts are as they were
pub parts_stay : (l : List Arrival) (i : ℕ) (ps : List Piece) (b store : List ℕ) (g number : ℕ) → length store ≡ store_size → length b ≤ place → g < 4 → 1 ≤ number → number ≤ 16
    → ((n : ℕ) → n < 16 → (get_or ps n no_piece).len ≤ place) → (i ≡ g → ⊥) → Parts l i ps store → Parts l i ps (placed b (store_place g number) store)
parts_stay l i ps b store g number s r h one top q d k =
    record {
      held = k.held;
      bytes = λ n m. other_place b store g number s r h one top i n (get_or ps n no_piece) (q n m) m (λ e. d e.0) ∙ k.bytes n m;
      single = k.single;
    }

-- one fragment more
pub parts_add : (l : List Arrival) (g : ℕ) (ps : List Piece) (store : List ℕ) (f : Arrival) → length store ≡ store_size → length f.bytes ≤ place → g < 4 → 1 ≤ f.number
    → f.number ≤ 16 → length ps ≡ 16 → ((n : ℕ) → n < 16 → (get_or ps n no_piece).len ≤ place) → (get_or ps (f.number - 1) no_piece).held ≡ false → Parts l g ps store
    → Parts (f ∷ l) g (set ps (f.number - 1) (record { held = true; len = length f.bytes })) (placed f.bytes (store_place g f.number) store)
parts_add l g ps store f s r h one top long q new k =
    record {
      held = λ n m. holds n m (ℕ_discrete (suc n) f.number);
      bytes = λ n m. writes n m (ℕ_discrete (suc n) f.number);
      single = and_both _ _ (no_false _ fresh) k.single;
    }
  where
    p : Piece
    p = record { held = true; len = length f.bytes }

    store' : List ℕ
    store' = placed f.bytes (store_place g f.number) store

    here : (n : ℕ) → suc n ≡ f.number → get_or (set ps (f.number - 1) p) n no_piece ≡ p
    here n e =
        let z : n ≡ f.number - 1 = omega arith in
        ap (λ (m : ℕ). get_or (set ps (f.number - 1) p) m no_piece) z ∙ get_or-set_same ps (f.number - 1) p no_piece (omega arith)

    there : (n : ℕ) → (suc n ≡ f.number → ⊥) → get_or (set ps (f.number - 1) p) n no_piece ≡ get_or ps n no_piece
    there n d = get_or-set_other ps (f.number - 1) n p no_piece (λ e. d (omega arith))

    fresh : some (is_number f.number) l ≡ false
    fresh =
        let z : suc (f.number - 1) ≡ f.number = omega arith in
        ap (λ (m : ℕ). some (is_number m) l) (sym z) ∙ sym (k.held (f.number - 1) (omega arith)) ∙ new

    holds : (n : ℕ) → n < 16 → Dec (suc n ≡ f.number) → (get_or (set ps (f.number - 1) p) n no_piece).held ≡ some (is_number (suc n)) (f ∷ l)
    holds n m (yes e) = ap (λ (x : Piece). x.held) (here n e) ∙ sym (or_left _ _ (eq-eqb f.number (suc n) (sym e)))
    holds n m (no d) = ap (λ (x : Piece). x.held) (there n d) ∙ k.held n m ∙ sym (or-next _ _ (ne_eqb f.number (suc n) (λ e. d (sym e))))

    writes : (n : ℕ) → n < 16 → Dec (suc n ≡ f.number) → bytes_at store' g n (get_or (set ps (f.number - 1) p) n no_piece) ≡ bytes_of (suc n) (f ∷ l)
    writes n m (yes e) =
        ap (bytes_at store' g n) (here n e) ∙ own-place f.bytes store g f.number s r h one top n e ∙ sym (if_yes _ _ _ (eq-eqb f.number (suc n) (sym e)))
    writes n m (no d) =
        ap (bytes_at store' g n) (there n d)
        ∙ other_place f.bytes store g f.number s r h one top g n (get_or ps n no_piece) (q n m) m (λ e. d e.1)
        ∙ k.bytes n m
        ∙ sym (if_no _ _ _ (ne_eqb f.number (suc n) (λ e. d (sym e))))

-- ---- the first m places, from the place n on

pub held_whole : (l : List Arrival) (n m : ℕ) (ps : List Piece) → m ≤ length ps → ((i : ℕ) → i < length ps → (get_or ps i no_piece).held ≡ some (is_number (suc (n + i))) l)
    → every is_held (take m ps) ≡ every (λ k. some (is_number k) l) (numbers (suc n) m)
held_whole l n zero ps h k = refl
held_whole l n (suc m) [] h k = absurd (omega arith)
held_whole l n (suc m) (p ∷ ps) h k =
    let z : n + 0 ≡ n = omega arith in
    let e : p.held ≡ some (is_number (suc n)) l = k 0 (omega arith) ∙ ap (λ (j : ℕ). some (is_number (suc j)) l) z in
    let r : every is_held (take m ps) ≡ every (λ k. some (is_number k) l) (numbers (suc (suc n)) m) =
    held_whole l (suc n) m ps (omega arith) (λ i j. k (suc i) (omega arith) ∙ ap (λ (x : ℕ). some (is_number (suc x)) l) (omega arith)) in
    λ i. e i and r i

pub joined-whole : (l : List Arrival) (store : List ℕ) (g n m : ℕ) (ps : List Piece) → m ≤ length ps
    → ((i : ℕ) → i < length ps → bytes_at store g (n + i) (get_or ps i no_piece) ≡ bytes_of (suc (n + i)) l) → joined_from store g n (take m ps) ≡ joined_by (numbers (suc n) m) l
joined-whole l store g n zero ps h k = refl
joined-whole l store g n (suc m) [] h k = absurd (omega arith)
joined-whole l store g n (suc m) (p ∷ ps) h k =
    let z : n + 0 ≡ n = omega arith in
    let y : n + 1 ≡ suc n = omega arith in
    let e : bytes_at store g n p ≡ bytes_of (suc n) l = ap (λ (j : ℕ). bytes_at store g j p) (sym z) ∙ k 0 (omega arith) ∙ ap (λ (j : ℕ). bytes_of (suc j) l) z in
    let r : joined_from store g (suc n) (take m ps) ≡ joined_by (numbers (suc (suc n)) m) l =
    joined-whole l store g (suc n) m ps (omega arith)
    (λ i j. let x : suc n + i ≡ n + suc i = omega arith in ap (λ (v : ℕ). bytes_at store g v (get_or ps i no_piece)) x ∙ k (suc i) (omega arith) ∙ ap (λ (v : ℕ). bytes_of (suc v) l) (sym x)) in
    let q : joined_from store g (n + 1) (take m ps) ≡ joined_by (numbers (suc (suc n)) m) l = ap (λ (j : ℕ). joined_from store g j (take m ps)) y ∙ r in
    λ i. e i ++ q i
