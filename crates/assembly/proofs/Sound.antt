-- Groups and a store that agree with what a history says: in the empty house, and after every call.
use Rattle.std.specs.Prelude.{if◌then◌else◌}
use mathlib.Core.Path.{◌≡◌, refl, sym, ap, ◌∙◌, subst}
use Prim.Native.Nat.{ℕ, zero, suc, ◌+◌, ◌-◌, ◌≤◌, ◌<◌}
use native.Mathlib.Omega.{arith}
use native.Mathlib.Decide.{ℕ_discrete}
use mathlib.Core.Bool.{Bool, true, false}
use mathlib.Core.List.{List, [], ◌∷◌, map}
use mathlib.Core.Logic.{◌⊎◌, inl, inr}
use lib.ListN.{length, get_or, get_or-replicate, get_or-map}
use lib.Seq.{get_or-set_same, get_or-set_other}
use Rattle.octets.specs.Words.{◌and◌, no as nay, every, some, ◌≤?◌}
use Rattle.octets.specs.Bytes.{placed}
use Rattle.octets.proofs.Tests.{if_yes, if_no, and_left, and_right, and_both, and-next, true-not-false}
use Rattle.groupkeys.specs.declared.Key.{Key}
use Rattle.groupkeys.specs.Key.{same_key}
use Rattle.groupkeys.proofs.SameKey.{same_key-sym, same_key-trans}
use Rattle.groups.specs.declared.Group.{Group}
use Rattle.groups.specs.declared.Groups.{Groups}
use Rattle.groups.specs.Groups.{place, store_size, no_piece, free_group, has_key, complete, keeps_group, keeps_groups, distinct, twice, past_group, group_at, with_group, empty}
use Rattle.groupcalls.specs.Calls.{swept_group}
use Rattle.groupcalls.proofs.Tests.{Ranged, kept, pieces_kept, group-kept}
use Rattle.groupcalls.proofs.Moves.{not_free}
use Rattle.fragments.specs.Store.{store_place, joined}
use Rattle.fragments.proofs.Joins.{all_short, short-at}
use Rattle.assembly.specs.History.{Arrival, fragment, is_number, numbers, joined_by, total_of, first_time, whole, stale, in_order, agreed}
use Rattle.assembly.proofs.Rules.{some_at, free-key, open-key, total_kept}
use Rattle.assembly.proofs.Parts.{Parts, parts_stay, held_whole, joined-whole}

-- ---- a group has a key, or another

pub has_same : (j k : Key) (x : Group) → same_key j k ≡ true → has_key j x ≡ true → has_key k x ≡ true
unfolding has_key
has_same j k x e h = and_both _ _ (and_left x.is_open _ h) (same_key-trans k j x.key (same_key-sym j k e) (and_right x.is_open _ h))

has_both : (j k : Key) (x : Group) → has_key j x ≡ true → has_key k x ≡ true → same_key j k ≡ true
unfolding has_key
has_both j k x a b = same_key-trans j x.key k (and_right x.is_open _ a) (same_key-sym k x.key (and_right x.is_open _ b))

pub has_other : (j k : Key) (x : Group) → same_key j k ≡ false → has_key j x ≡ true → has_key k x ≡ false
has_other j k x e h = go (has_key k x) refl
  where
    go : (b : Bool) → has_key k x ≡ b → b ≡ false
    go true q = true-not-false (same_key j k) (has_both j k x h q) e
    go false q = refl

has-key : (k : Key) (x y : Group) → has_key k x ≡ true → y.is_open ≡ true → has_key x.key y ≡ true → has_key k y ≡ true
unfolding has_key
has-key k x y a u b = and_both _ _ u (same_key-trans k x.key y.key (and_right x.is_open _ a) (and_right y.is_open _ b))

of-key : (k : Key) (x y : Group) → has_key k x ≡ true → has_key k y ≡ true → has_key x.key y ≡ true
unfolding has_key
of-key k x y a b = and_both _ _ (and_left y.is_open _ b) (same_key-trans x.key k y.key (same_key-sym k x.key (and_right x.is_open _ a)) (and_right y.is_open _ b))

-- groups with distinct keys: a key is had by one
pub one-holder : (l : List Group) → distinct l ≡ true → (k : Key) (i j : ℕ) → has_key k (get_or l i past_group) ≡ true → has_key k (get_or l j past_group) ≡ true → i ≡ j
one-holder [] e k i j a b = true-not-false (has_key k past_group) a (free-key k past_group refl)
one-holder (x ∷ l) e k zero zero a b = refl
one-holder (x ∷ l) e k zero (suc j) a b = true-not-false _ (of-key k x (get_or l j past_group) a b) (lone x l e (open-key k x a) j)
  where
    lone : (x : Group) (l : List Group) → distinct (x ∷ l) ≡ true → x.is_open ≡ true → (j : ℕ) → has_key x.key (get_or l j past_group) ≡ false
    lone x l e u j =
        some_at (has_key x.key) l j (sym (and-next x.is_open _ u) ∙ not_free (twice x l) (and_left (nay (twice x l)) _ e)) (free-key x.key past_group refl)
one-holder (x ∷ l) e k (suc i) zero a b = true-not-false _ (of-key k x (get_or l i past_group) b a) (lone x l e (open-key k x b) i)
  where
    lone : (x : Group) (l : List Group) → distinct (x ∷ l) ≡ true → x.is_open ≡ true → (j : ℕ) → has_key x.key (get_or l j past_group) ≡ false
    lone x l e u j =
        some_at (has_key x.key) l j (sym (and-next x.is_open _ u) ∙ not_free (twice x l) (and_left (nay (twice x l)) _ e)) (free-key x.key past_group refl)
one-holder (x ∷ l) e k (suc i) (suc j) a b = ap suc (one-holder l (and_right (nay (twice x l)) _ e) k i j a b)

-- ---- a group that the fragments l made

pub record Match (l : List Arrival) (g : ℕ) (x : Group) (store : List ℕ) : Type 0 where
  pub filled : 0 < length l
  pub total : total_of l ≡ x.total
  pub agree : agreed l ≡ true
  pub began : first_time l ≡ x.began
  pub parts : Parts l g x.pieces store

module _ (l : List Arrival) (g : ℕ) (x : Group) (store : List ℕ) (m : Match l g x store) (k : keeps_group x ≡ true) (u : x.is_open ≡ true) where
  -- it is complete if each of the fragments 1 to M is there
  pub match-complete : complete x ≡ whole l
  match-complete =
      let n = (pieces_kept x k).0 in
      let t = total_kept x k u in
      held_whole l 0 x.total x.pieces (omega arith) (λ i h. let z : 0 + i ≡ i = omega arith in rw z (m.parts.held i (omega arith))) ∙ ap (λ (c : ℕ). every (λ n. some (is_number n) l) (numbers 1 c)) (sym m.total)

  -- and what is joined are their bytes, in order
  pub match-joined : joined store g x ≡ in_order l
  match-joined =
      let n = (pieces_kept x k).0 in
      let t = total_kept x k u in
      joined-whole l store g 0 x.total x.pieces (omega arith) (λ i h. let z : 0 + i ≡ i = omega arith in rw z (m.parts.bytes i (omega arith))) ∙ ap (λ (c : ℕ). joined_by (numbers 1 c) l) (sym m.total)

match-stale : (l : List Arrival) (g : ℕ) (x : Group) (store : List ℕ) (time : ℕ) → Match l g x store → keeps_group x ≡ true → x.is_open ≡ true
    → stale time l ≡ (x.is_open and nay (complete x) and 604800 ≤? time - x.began)
match-stale [] g x store time m k u = let h = m.filled in absurd (omega arith)
match-stale (f ∷ l) g x store time m k u =
    let c : whole (f ∷ l) ≡ complete x = sym (match-complete (f ∷ l) g x store m k u) in
    let b : first_time (f ∷ l) ≡ x.began = m.began in
    (λ i. nay (c i) and 604800 ≤? time - b i) ∙ sym (and-next x.is_open _ u)

-- ---- groups and a store that agree with what a history says, `said k` being the fragments under the key k

pub record Good (t : Groups) (store : List ℕ) (said : Key → List Arrival) : Type 0 where
  pub keeps : keeps_groups t ≡ true
  pub there : (k : Key) (g : ℕ) → g < 4 → has_key k (group_at t g) ≡ true → Match (said k) g (group_at t g) store
  pub none : (k : Key) → ((g : ℕ) → g < 4 → has_key k (group_at t g) ≡ false) → said k ≡ []

-- in the empty house
pub good-empty : (keeps : keeps_groups empty ≡ true) (store : List ℕ) → Good empty store (λ k. [])
good-empty keeps store =
    record {
      keeps = keeps;
      there = λ k g h e. true-not-false (has_key k free_group) (ap (has_key k) (sym (get_or-replicate 4 g free_group past_group h)) ∙ e) (free-key k free_group refl);
      none = λ k z. refl;
    }

-- the lengths of a group's places
pub shorts : (x : Group) → keeps_group x ≡ true → (n : ℕ) → n < 16 → (get_or x.pieces n no_piece).len ≤ place
shorts x k n h = let l = pieces_kept x k in short-at x.pieces n (all_short x.total 0 x.pieces l.1) (omega (arith, l.0))

-- ---- after an add: the group g is y, which has the key j and one fragment more
module _ (t : Groups) (store : List ℕ) (said : Key → List Arrival) (o : Good t store said) (j : Key) (g : ℕ) (y : Group) (f : Arrival)
    (keeps : keeps_groups (with_group t g y) ≡ true) (s : length store ≡ store_size) (r : Ranged (fragment f)) (h : g < 4) (hy : has_key j y ≡ true)
    (before : (k : Key) → same_key j k ≡ false → has_key k (group_at t g) ≡ false)
    (made : (k : Key) → same_key j k ≡ true → Match (f ∷ said k) g y (placed f.bytes (store_place g f.number) store)) where
  long : length t.items ≡ 4
  long = (kept t o.keeps).long

  abbrev store' : List ℕ
  store' = placed f.bytes (store_place g f.number) store

  abbrev t' : Groups
  t' = with_group t g y

  at_own : group_at t' g ≡ y
  at_own = get_or-set_same t.items g y past_group (omega (arith, long))

  at_other : (i : ℕ) → (i ≡ g → ⊥) → group_at t' i ≡ group_at t i
  at_other i d = get_or-set_other t.items g i y past_group d

  at : (i : ℕ) → i ≡ g → group_at t' i ≡ y
  at i e = ap (group_at t') e ∙ at_own

  stays : (k : Key) (i : ℕ) → i < 4 → (i ≡ g → ⊥) → has_key k (group_at t i) ≡ true → Match (said k) i (group_at t i) store'
  stays k i b d e =
      let m = o.there k i b e in
      record {
        filled = m.filled;
        total = m.total;
        agree = m.agree;
        began = m.began;
        parts = parts_stay (said k) i (group_at t i).pieces f.bytes store g f.number s r.size h r.from (omega (arith, r.to, r.most)) (shorts (group_at t i) (group-kept t (kept t o.keeps) i b)) d m.parts;
      }

  pub good-add : Good t' store' (λ k. if same_key j k then f ∷ said k else said k)
  good-add = record { keeps = keeps; there = λ k i b e. found k i b e (same_key j k) refl (ℕ_discrete i g); none = λ k z. gone k z (same_key j k) refl }
    where
      found : (k : Key) (i : ℕ) → i < 4 → has_key k (group_at t' i) ≡ true → (c : Bool) → same_key j k ≡ c → Dec (i ≡ g) → Match (if c then f ∷ said k else said k) i (group_at t' i) store'
      found k i b e true q (yes z) = subst (λ (n : ℕ). Match (f ∷ said k) n (group_at t' n) store') (sym z) (subst (λ (x : Group). Match (f ∷ said k) g x store') (sym at_own) (made k q))
      found k i b e true q (no d) =
          absurd (d (one-holder t'.items (kept t' keeps).apart k i g e (ap (has_key k) at_own ∙ has_same j k y q hy)))
      found k i b e false q (yes z) = true-not-false (has_key k y) (ap (has_key k) (sym (at i z)) ∙ e) (has_other j k y q hy)
      found k i b e false q (no d) =
          subst (λ (x : Group). Match (said k) i x store') (sym (at_other i d)) (stays k i b d (ap (has_key k) (sym (at_other i d)) ∙ e))

      gone : (k : Key) → ((i : ℕ) → i < 4 → has_key k (group_at t' i) ≡ false) → (c : Bool) → same_key j k ≡ c → (if c then f ∷ said k else said k) ≡ []
      gone k z true q = true-not-false (has_key k y) (has_same j k y q hy) (ap (has_key k) (sym at_own) ∙ z g h)
      gone k z false q = o.none k (λ i b. without i b (ℕ_discrete i g))
        where
          without : (i : ℕ) → i < 4 → Dec (i ≡ g) → has_key k (group_at t i) ≡ false
          without i b (yes e) = ap (λ (n : ℕ). has_key k (group_at t n)) e ∙ before k q
          without i b (no d) = ap (has_key k) (sym (at_other i d)) ∙ z i b

-- ---- after a collect: the group g, which has the key j, is free
module _ (t : Groups) (store : List ℕ) (said : Key → List Arrival) (o : Good t store said) (j : Key) (g : ℕ) (keeps : keeps_groups (with_group t g free_group) ≡ true) (h : g < 4)
    (hx : has_key j (group_at t g) ≡ true) where
  abbrev freed : Groups
  freed = with_group t g free_group

  free_own : group_at freed g ≡ free_group
  free_own = get_or-set_same t.items g free_group past_group (omega (arith, (kept t o.keeps).long))

  free_other : (i : ℕ) → (i ≡ g → ⊥) → group_at freed i ≡ group_at t i
  free_other i d = get_or-set_other t.items g i free_group past_group d

  pub good-collect : Good freed store (λ k. if same_key j k then [] else said k)
  good-collect = record { keeps = keeps; there = λ k i b e. found k i b e (same_key j k) refl (ℕ_discrete i g); none = λ k z. gone k z (same_key j k) refl }
    where
      found : (k : Key) (i : ℕ) → i < 4 → has_key k (group_at freed i) ≡ true → (c : Bool) → same_key j k ≡ c → Dec (i ≡ g) → Match (if c then [] else said k) i (group_at freed i) store
      found k i b e c q (yes z) = true-not-false (has_key k free_group) (ap (has_key k) (sym (ap (group_at freed) z ∙ free_own)) ∙ e) (free-key k free_group refl)
      found k i b e true q (no d) =
          absurd (d (one-holder t.items (kept t o.keeps).apart k i g (ap (has_key k) (sym (free_other i d)) ∙ e) (has_same j k (group_at t g) q hx)))
      found k i b e false q (no d) =
          subst (λ (x : Group). Match (said k) i x store) (sym (free_other i d)) (o.there k i b (ap (has_key k) (sym (free_other i d)) ∙ e))

      gone : (k : Key) → ((i : ℕ) → i < 4 → has_key k (group_at freed i) ≡ false) → (c : Bool) → same_key j k ≡ c → (if c then [] else said k) ≡ []
      gone k z true q = refl
      gone k z false q = o.none k (λ i b. without i b (ℕ_discrete i g))
        where
          without : (i : ℕ) → i < 4 → Dec (i ≡ g) → has_key k (group_at t i) ≡ false
          without i b (yes e) = ap (λ (n : ℕ). has_key k (group_at t n)) e ∙ has_other j k (group_at t g) q hx
          without i b (no d) = ap (has_key k) (sym (free_other i d)) ∙ z i b

-- ---- after a sweep

-- among the first n, one passes the test, or none does
scan : (p : ℕ → Bool) (n : ℕ) → ((i : ℕ) × (i < n) × (p i ≡ true)) ⊎ ((i : ℕ) → i < n → p i ≡ false)
scan p zero = inr (λ i h. absurd (omega arith))
scan p (suc n) = go (scan p n) (p n) refl
  where
    go : ((i : ℕ) × (i < n) × (p i ≡ true)) ⊎ ((i : ℕ) → i < n → p i ≡ false) → (b : Bool) → p n ≡ b → ((i : ℕ) × (i < suc n) × (p i ≡ true)) ⊎ ((i : ℕ) → i < suc n → p i ≡ false)
    go (inl w) b q = let h = w.1 in inl (w.0, omega arith, w.2)
    go (inr z) true q = inl (n, omega arith, q)
    go (inr z) false q = inr (λ i h. last i h (ℕ_discrete i n))
      where
        last : (i : ℕ) → i < suc n → Dec (i ≡ n) → p i ≡ false
        last i h (yes e) = ap p e ∙ q
        last i h (no d) = z i (omega (arith, d))

module _ (t : Groups) (store : List ℕ) (said : Key → List Arrival) (o : Good t store said) (time : ℕ) (keeps : keeps_groups (record { items = map (swept_group time) t.items }) ≡ true) where
  abbrev left : Groups
  left = record { items = map (swept_group time) t.items }

  abbrev old : Group → Bool
  old x = x.is_open and nay (complete x) and 604800 ≤? time - x.began

  past-stays : swept_group time past_group ≡ past_group
  unfolding swept_group
  past-stays = refl

  left_at : (i : ℕ) → group_at left i ≡ swept_group time (group_at t i)
  left_at i = ap (λ (d : Group). get_or (map (swept_group time) t.items) i d) (sym past-stays) ∙ get_or-map (swept_group time) t.items i past_group

  is-swept : (x : Group) → old x ≡ true → swept_group time x ≡ free_group
  unfolding swept_group
  is-swept x e = if_yes _ _ _ e

  is-left : (x : Group) → old x ≡ false → swept_group time x ≡ x
  unfolding swept_group
  is-left x e = if_no _ _ _ e

  -- what a key's fragments say of its group
  aged : (k : Key) (i : ℕ) → i < 4 → has_key k (group_at t i) ≡ true → stale time (said k) ≡ old (group_at t i)
  aged k i b e = match-stale (said k) i (group_at t i) store time (o.there k i b e) (group-kept t (kept t o.keeps) i b) (open-key k (group_at t i) e)

  pub good-sweep : Good left store (λ k. if stale time (said k) then [] else said k)
  good-sweep = record { keeps = keeps; there = λ k i b e. found k i b (ap (has_key k) (sym (left_at i)) ∙ e) (old (group_at t i)) refl; none = λ k z. gone k z (scan (λ i. has_key k (group_at t i)) 4) }
    where
      found : (k : Key) (i : ℕ) → i < 4 → has_key k (swept_group time (group_at t i)) ≡ true → (c : Bool) → old (group_at t i) ≡ c
          → Match (if stale time (said k) then [] else said k) i (group_at left i) store
      found k i b e true q = true-not-false (has_key k free_group) (ap (has_key k) (sym (is-swept (group_at t i) q)) ∙ e) (free-key k free_group refl)
      found k i b e false q =
          let x = group_at t i in
          let v : has_key k x ≡ true = ap (has_key k) (sym (is-left x q)) ∙ e in
          let m = o.there k i b v in
          let a : said k ≡ (if stale time (said k) then [] else said k) = sym (if_no _ _ _ (aged k i b v ∙ q)) in
          subst (λ (l : List Arrival). Match l i (group_at left i) store) a (subst (λ (y : Group). Match (said k) i y store) (sym (left_at i ∙ is-left x q)) m)

      gone : (k : Key) → ((i : ℕ) → i < 4 → has_key k (group_at left i) ≡ false) → ((i : ℕ) × (i < 4) × (has_key k (group_at t i) ≡ true)) ⊎ ((i : ℕ) → i < 4 → has_key k (group_at t i) ≡ false)
          → (if stale time (said k) then [] else said k) ≡ []
      gone k z (inl (i, b, e)) = by (old (group_at t i)) refl
        where
          by : (c : Bool) → old (group_at t i) ≡ c → (if stale time (said k) then [] else said k) ≡ []
          by true q = if_yes _ _ _ (aged k i b e ∙ q)
          by false q = true-not-false (has_key k (group_at t i)) e (ap (has_key k) (sym (left_at i ∙ is-left (group_at t i) q)) ∙ z i b)
      gone k z (inr n) = by (stale time (said k))
        where
          by : (c : Bool) → (if c then [] else said k) ≡ []
          by true = refl
          by false = o.none k n
