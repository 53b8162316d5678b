-- The place of a slot, the row that stands for a key, and both after a slot is set.
use Rattle.std.specs.Prelude.{if◌then◌else◌}
use mathlib.Core.Path.{◌≡◌, refl, sym, ap, ◌∙◌, subst}
use Prim.Native.Nat.{ℕ, zero, suc, ◌+◌, ◌<◌}
use native.Mathlib.Omega.{arith}
use mathlib.Core.Bool.{Bool, true, false}
use mathlib.Core.List.{List, [], ◌∷◌}
use mathlib.Core.Option.{Option, none, some as just}
use lib.ListN.{length, get_or, set}
use Rattle.octets.specs.Words.{◌and◌, ◌or◌, no, every, some}
use Rattle.octets.proofs.Tests.{if_yes, if_no, and_left, and_right, and_both, and-next, or_no, true-not-false}
use Rattle.keys.specs.declared.Key.{Key}
use Rattle.keys.specs.Key.{same_key}
use Rattle.keys.proofs.SameKey.{same_key-refl, same_key-sym, same_key-trans, same_key-other}
use Rattle.rows.specs.declared.Row.{Row}
use Rattle.slots.specs.declared.Slot.{Slot}
use Rattle.slot_rules.specs.Slots.{Found}
use Rattle.streams.specs.Table.{has_key, twice, distinct, first, past_slot}
use Rattle.streams.specs.Meaning.{row_in}
use Rattle.slot_rules.proofs.Search.{found_nothing}

-- ---- the first slot that passes a test

pub data Place (p : Slot → Bool) : List Slot → ℕ → Type 0 where
  here : {x : Slot} {l : List Slot} → p x ≡ true → Place p (x ∷ l) 0
  there : {x : Slot} {l : List Slot} {i : ℕ} → p x ≡ false → Place p l i → Place p (x ∷ l) (suc i)

pub place_at : {p : Slot → Bool} {l : List Slot} {i : ℕ} → Place p l i → (p (get_or l i past_slot) ≡ true) × (i < length l)
place_at (here e) = (e, omega arith)
place_at (there e q) = ((place_at q).0, omega (arith, (place_at q).1))

found-place : (p : Slot → Bool) (n i : ℕ) (l : List Slot) → Found.At i ≡ first p n l → (at : ℕ) × (i ≡ n + at) × Place p l at
found-place p n i [] e = found_nothing i e
found-place p n i (x ∷ l) e = go (p x) refl e (found-place p (n + 1) i l)
  where
    go : (b : Bool) → p x ≡ b → Found.At i ≡ (if b then Found.At n else first p (n + 1) l)
        → (Found.At i ≡ first p (n + 1) l → (at : ℕ) × (i ≡ n + 1 + at) × Place p l at) → (at : ℕ) × (i ≡ n + at) × Place p (x ∷ l) at
    go true q f r = let z : i ≡ n = cc in (0, omega arith, here q)
    go false q f r = let w = r f in (suc w.0, omega (arith, w.1), there q w.2)

pub first-place : (p : Slot → Bool) (i : ℕ) (l : List Slot) → Found.At i ≡ first p 0 l → Place p l i
first-place p i l e =
    let w = found-place p 0 i l e in
    let q : i ≡ w.0 = omega (arith, w.1) in
    subst (λ (n : ℕ). Place p l n) (sym q) w.2

pub first-none : (p : Slot → Bool) (n : ℕ) (l : List Slot) → Found.Nothing ≡ first p n l → some p l ≡ false
first-none p n [] e = refl
first-none p n (x ∷ l) e = go (p x) e (first-none p (n + 1) l)
  where
    go : (b : Bool) → Found.Nothing ≡ (if b then Found.At n else first p (n + 1) l) → (Found.Nothing ≡ first p (n + 1) l → some p l ≡ false) → b or some p l ≡ false
    go true q r = found_nothing n (sym q)
    go false q r = r q

-- ---- tests of every slot, and of some slot

pub every_set : (p : Slot → Bool) (l : List Slot) (i : ℕ) (y : Slot) → every p l ≡ true → p y ≡ true → every p (set l i y) ≡ true
every_set p [] i y e q = refl
every_set p (x ∷ l) zero y e q = and_both _ _ q (and_right (p x) _ e)
every_set p (x ∷ l) (suc i) y e q = and_both _ _ (and_left (p x) _ e) (every_set p l i y (and_right (p x) _ e) q)

some-set : (p : Slot → Bool) (l : List Slot) (i : ℕ) (y : Slot) → some p l ≡ false → p y ≡ false → some p (set l i y) ≡ false
some-set p [] i y e q = refl
some-set p (x ∷ l) zero y e q = rw (q, (or_no (p x) _ e).1)
some-set p (x ∷ l) (suc i) y e q = rw (or_no (p x) _ e).0 (some-set p l i y (or_no (p x) _ e).1 q)

some_at : (p : Slot → Bool) (l : List Slot) (i : ℕ) → some p l ≡ false → p past_slot ≡ false → p (get_or l i past_slot) ≡ false
some_at p [] i e d = d
some_at p (x ∷ l) zero e d = (or_no (p x) _ e).0
some_at p (x ∷ l) (suc i) e d = some_at p l i (or_no (p x) _ e).1 d

-- ---- keys

-- a slot has at most one key
pub one_key : (j k : Key) (x : Slot) → same_key j k ≡ false → has_key k x ≡ true → has_key j x ≡ false
unfolding has_key
one_key j k x n e = go (x.is_open and same_key j x.key) refl
  where
    go : (b : Bool) → (x.is_open and same_key j x.key) ≡ b → (x.is_open and same_key j x.key) ≡ false
    go false q = q
    go true q = true-not-false (same_key j k) (same_key-trans j x.key k (and_right x.is_open _ q) (same_key-sym k x.key (and_right x.is_open _ e))) n

pub free-key : (k : Key) (x : Slot) → x.is_open ≡ false → has_key k x ≡ false
unfolding has_key
free-key k x e = rw e

pub open-key : (k : Key) (x : Slot) → has_key k x ≡ true → x.is_open ≡ true
unfolding has_key
open-key k x e = and_left x.is_open _ e

keyed : (k : Key) (x : Slot) → has_key k x ≡ true → same_key k x.key ≡ true
unfolding has_key
keyed k x e = and_right x.is_open _ e

pub own_key : (k : Key) (r : Row) → has_key k (record { is_open = true; key = k; row = r }) ≡ true
unfolding has_key
own_key k r = same_key-refl k

-- another row in the slot leaves its key
pub same-key : (k : Key) (x : Slot) (r : Row) → has_key k (record { is_open = x.is_open; key = x.key; row = r }) ≡ has_key k x
unfolding has_key
same-key k x r = refl

-- equal keys are had by the same slots
pub as-key : (j k : Key) (x : Slot) → same_key j k ≡ true → has_key j x ≡ has_key k x
unfolding has_key
as-key j k x e = ap (λ (b : Bool). x.is_open and b) (same_key-other j k x.key e)

-- ---- distinct keys after a slot is set

-- the new slot y claims no key that the slot x before it did not claim
abbrev pub NoMore : Slot → Slot → Type 0
NoMore x y = y.is_open ≡ true → (x.is_open ≡ true) × (x.key ≡ y.key)

more-key : (k : Key) (x y : Slot) → NoMore x y → has_key k x ≡ false → has_key k y ≡ false
unfolding has_key
more-key k x y c e = go y.is_open refl
  where
    go : (b : Bool) → y.is_open ≡ b → (y.is_open and same_key k y.key) ≡ false
    go false q = rw q
    go true q =
        let w = c q in
        let n : same_key k x.key ≡ false = sym (and-next x.is_open _ w.0) ∙ e in
        let m : same_key k y.key ≡ false = rw (← w.1) n in
        and-next y.is_open _ q ∙ m

-- whether a slot's key stands in the rest, for any rest in which its key does not
twice-less : (x : Slot) (l m : List Slot) → (some (has_key x.key) l ≡ false → some (has_key x.key) m ≡ false) → twice x l ≡ false → twice x m ≡ false
twice-less x l m f e = go x.is_open e
  where
    go : (b : Bool) → b and some (has_key x.key) l ≡ false → b and some (has_key x.key) m ≡ false
    go true q = f q
    go false q = refl

pub not_free : (b : Bool) → no b ≡ true → b ≡ false
not_free true e = sym e
not_free false e = refl

no-is : (b : Bool) → b ≡ false → no b ≡ true
no-is b e = rw e

pub distinct-less : (l : List Slot) (i : ℕ) (y : Slot) → distinct l ≡ true → NoMore (get_or l i past_slot) y → distinct (set l i y) ≡ true
distinct-less [] i y e c = refl
distinct-less (x ∷ l) zero y e c =
    and_both _ _ (no-is _ (go y.is_open refl)) (and_right (no (twice x l)) _ e)
  where
    go : (b : Bool) → y.is_open ≡ b → twice y l ≡ false
    go false q = rw q
    go true q =
        let w = c q in
        let t : twice x l ≡ false = not_free _ (and_left (no (twice x l)) _ e) in
        let s : some (has_key x.key) l ≡ false = sym (and-next x.is_open _ w.0) ∙ t in
        let u : some (has_key y.key) l ≡ false = rw (← w.1) s in
        and-next y.is_open _ q ∙ u
distinct-less (x ∷ l) (suc i) y e c =
    and_both _ _
    (no-is _ (twice-less x l (set l i y) (λ s. some-set (has_key x.key) l i y s (more-key x.key (get_or l i past_slot) y c (some_at (has_key x.key) l i s (free-key x.key past_slot refl)))) (not_free _ (and_left (no (twice x l)) _ e))))
    (distinct-less l i y (and_right (no (twice x l)) _ e) c)

-- a slot that has not the key k is not had by k
other_key : (k : Key) (x : Slot) (r : Row) → x.is_open ≡ true → has_key k x ≡ false → has_key x.key (record { is_open = true; key = k; row = r }) ≡ false
unfolding has_key
other_key k x r q n = flip (same_key x.key k) refl
  where
    flip : (b : Bool) → same_key x.key k ≡ b → same_key x.key k ≡ false
    flip false z = z
    flip true z = true-not-false (x.is_open and same_key k x.key) (and_both _ _ q (same_key-sym x.key k z)) n

-- a key that no slot has may stand in any slot
pub distinct-new : (l : List Slot) (i : ℕ) (k : Key) (r : Row) → distinct l ≡ true → some (has_key k) l ≡ false → distinct (set l i (record { is_open = true; key = k; row = r })) ≡ true
distinct-new [] i k r e n = refl
distinct-new (x ∷ l) zero k r e n = and_both _ _ (no-is _ (or_no (has_key k x) _ n).1) (and_right (no (twice x l)) _ e)
distinct-new (x ∷ l) (suc i) k r e n =
    and_both _ _ (no-is _ (go x.is_open refl)) (distinct-new l i k r (and_right (no (twice x l)) _ e) (or_no (has_key k x) _ n).1)
  where
    go : (b : Bool) → x.is_open ≡ b → twice x (set l i (record { is_open = true; key = k; row = r })) ≡ false
    go false q = rw q
    go true q =
        let t : twice x l ≡ false = not_free _ (and_left (no (twice x l)) _ e) in
        let s : some (has_key x.key) l ≡ false = sym (and-next x.is_open _ q) ∙ t in
        and-next x.is_open _ q ∙ some-set (has_key x.key) l i (record { is_open = true; key = k; row = r }) s (other_key k x r q (or_no (has_key k x) _ n).0)

-- ---- the row that stands for a key

module _ (k : Key) where
  pub row-none : (l : List Slot) → some (has_key k) l ≡ false → row_in k l ≡ none
  row-none [] e = refl
  row-none (x ∷ l) e = if_no _ _ _ (or_no (has_key k x) _ e).0 ∙ row-none l (or_no (has_key k x) _ e).1

  -- a key that has no row stands in no slot
  pub none-some : (l : List Slot) → row_in k l ≡ none → some (has_key k) l ≡ false
  none-some [] e = refl
  none-some (x ∷ l) e = go (has_key k x) e (none-some l)
    where
      go : (b : Bool) → (if b then just x.row else row_in k l) ≡ none → (row_in k l ≡ none → some (has_key k) l ≡ false) → b or some (has_key k) l ≡ false
      go true q r = let z : ◌≡◌ {A = ℕ} 0 1 = cc in absurd (omega arith)
      go false q r = r q

  pub row-place : {l : List Slot} {i : ℕ} → Place (has_key k) l i → row_in k l ≡ just (get_or l i past_slot).row
  row-place (here e) = if_yes _ _ _ e
  row-place (there e q) = if_no _ _ _ e ∙ row-place q

  pub row-set : {l : List Slot} {i : ℕ} (y : Slot) → Place (has_key k) l i → has_key k y ≡ true → row_in k (set l i y) ≡ just y.row
  row-set y (here e) h = if_yes _ _ _ h
  row-set y (there e q) h = if_no _ _ _ e ∙ row-set y q h

  pub row_other : (l : List Slot) (i : ℕ) (y : Slot) → has_key k (get_or l i past_slot) ≡ false → has_key k y ≡ false → row_in k (set l i y) ≡ row_in k l
  row_other [] i y e h = refl
  row_other (x ∷ l) zero y e h = if_no _ _ _ h ∙ sym (if_no _ _ _ e)
  row_other (x ∷ l) (suc i) y e h = ap (λ (r : Option Row). if has_key k x then just x.row else r) (row_other l i y e h)

  pub row_new : (l : List Slot) (i : ℕ) (y : Slot) → some (has_key k) l ≡ false → i < length l → has_key k y ≡ true → row_in k (set l i y) ≡ just y.row
  row_new [] i y n h e = absurd (omega arith)
  row_new (x ∷ l) zero y n h e = if_yes _ _ _ e
  row_new (x ∷ l) (suc i) y n h e = if_no _ _ _ (or_no (has_key k x) _ n).0 ∙ row_new l i y (or_no (has_key k x) _ n).1 (omega arith) e

  as_some : (j : Key) (l : List Slot) → same_key j k ≡ true → some (has_key j) l ≡ some (has_key k) l
  as_some j [] e = refl
  as_some j (x ∷ l) e = rw (as-key j k x e, as_some j l e)

  -- a row that is freed is gone: no later slot has its key
  pub row-gone : {l : List Slot} {i : ℕ} (y : Slot) → Place (has_key k) l i → distinct l ≡ true → has_key k y ≡ false → row_in k (set l i y) ≡ none
  row-gone y (here {x} {l} e) d h =
      let t : twice x l ≡ false = not_free _ (and_left (no (twice x l)) _ d) in
      let s : some (has_key x.key) l ≡ false = sym (and-next x.is_open _ (open-key k x e)) ∙ t in
      if_no _ _ _ h ∙ row-none l (sym (as_some x.key l (same_key-sym k x.key (keyed k x e))) ∙ s)
  row-gone y (there {x} {l} {i} e q) d h = if_no _ _ _ e ∙ row-gone y q (and_right (no (twice x l)) _ d) h
