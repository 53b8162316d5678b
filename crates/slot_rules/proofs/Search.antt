-- Searches in the slots: what a turn of each loop comes to, and where what was found stands.
use Rattle.std.specs.Prelude.{if◌then◌else◌}
use mathlib.Core.Path.{◌≡◌, refl, sym, ap, ◌∙◌}
use Prim.Native.Nat.{ℕ, suc, ◌+◌, ◌≤◌, ◌<◌}
use native.Mathlib.Omega.{arith}
use mathlib.Core.Bool.{Bool, true, false}
use mathlib.Core.List.{List, [], ◌∷◌}
use lib.ListN.{length, get_or, drop, drop_of_length-le}
use Rattle.octets.specs.Words.{some}
use Rattle.octets.proofs.Tests.{if_yes, if_no, and-not-left, and-next, no_true, no_false}
use Rattle.octets.proofs.Lists.{drop-next}
use Rattle.keys.specs.declared.Key.{Key}
use Rattle.slots.specs.declared.Slot.{Slot}
use Rattle.slots.specs.Slot.{keeps_open, keeps_free}
use Rattle.slot_rules.specs.Slots.{keeps_slot, has_key, Found, twice, distinct, first, open_count}

-- ---- a turn of a loop

module _ (l : List Slot) (i : ℕ) (d : Slot) (h : i < length l) where
  count_next : (b : Bool) → (get_or l i d).is_open ≡ b → open_count (drop i l) ≡ (if b then 1 else 0) + open_count (drop (i + 1) l)
  count_next b e = rw (drop-next l i d h) (ap (λ (o : Bool). (if o then 1 else 0) + open_count (drop (i + 1) l)) e)

  pub count-open : (get_or l i d).is_open ≡ true → open_count (drop i l) ≡ 1 + open_count (drop (i + 1) l)
  count-open = count_next true

  pub count-free : (get_or l i d).is_open ≡ false → open_count (drop i l) ≡ open_count (drop (i + 1) l)
  count-free e = let c = count_next false e in omega arith

  pub distinct-not : twice (get_or l i d) (drop (i + 1) l) ≡ true → distinct (drop i l) ≡ false
  distinct-not e = rw (drop-next l i d h) (and-not-left _ _ (no_true _ e))

  pub distinct-next : twice (get_or l i d) (drop (i + 1) l) ≡ false → distinct (drop i l) ≡ distinct (drop (i + 1) l)
  distinct-next e = rw (drop-next l i d h) (and-next _ _ (no_false _ e))

-- past the end
pub past : (l : List Slot) (i : ℕ) → length l ≤ i → drop i l ≡ []
past l i h = drop_of_length-le l {i = i} h

-- ---- the rules of one slot

pub kept-open : (x : Slot) (b : Bool) → x.is_open ≡ true → b ≡ keeps_open x → b ≡ keeps_slot x
unfolding keeps_slot
kept-open x b o e = e ∙ sym (if_yes _ _ _ o)

pub kept_free : (x : Slot) (b : Bool) → x.is_open ≡ false → b ≡ keeps_free x → b ≡ keeps_slot x
unfolding keeps_slot
kept_free x b o e = e ∙ sym (if_no _ _ _ o)

-- a free slot has no key
pub free-unlike : (k : Key) (x : Slot) → x.is_open ≡ false → has_key k x ≡ false
unfolding has_key
free-unlike k x o = and-not-left _ _ o

-- ---- fewer than two open slots

count_of : (x : Slot) (l : List Slot) (b : Bool) → x.is_open ≡ b → open_count (x ∷ l) ≡ (if b then 1 else 0) + open_count l
count_of x l b o = ap (λ (b : Bool). (if b then 1 else 0) + open_count l) o

-- where no slot is open, none has a key
none_alike : (k : Key) (l : List Slot) → open_count l ≡ 0 → some (has_key k) l ≡ false
none_alike k [] e = refl
none_alike k (x ∷ l) e = go x.is_open refl (none_alike k l)
  where
    go : (b : Bool) → x.is_open ≡ b → (open_count l ≡ 0 → some (has_key k) l ≡ false) → some (has_key k) (x ∷ l) ≡ false
    go true o r = let c = count_of x l true o in absurd (omega (arith, e, c))
    go false o r = let c = count_of x l false o in rw (free-unlike k x o) (r (omega (arith, e, c)))

-- their keys are distinct
pub lone-distinct : (l : List Slot) → open_count l < 2 → distinct l ≡ true
lone-distinct [] h = refl
lone-distinct (x ∷ l) h = go x.is_open refl (lone-distinct l)
  where
    go : (b : Bool) → x.is_open ≡ b → (open_count l < 2 → distinct l ≡ true) → distinct (x ∷ l) ≡ true
    go true o r = let c = count_of x l true o in
        and-next _ _ (no_false _ (and-next _ _ o ∙ none_alike x.key l (omega (arith, h, c)))) ∙ r (omega (arith, h, c))
    go false o r = let c = count_of x l false o in and-next _ _ (no_false _ (and-not-left _ _ o)) ∙ r (omega (arith, h, c))

-- ---- what was found

pub found_nothing : {A : Type 0} (i : ℕ) → Found.At i ≡ Found.Nothing → A
found_nothing i e = let z : ◌≡◌ {A = ℕ} 0 1 = cc in absurd (omega arith)

pub first-bound : (p : Slot → Bool) (n i : ℕ) (l : List Slot) → Found.At i ≡ first p n l → i < n + length l
first-bound p n i [] e = found_nothing i e
first-bound p n i (x ∷ l) e = go (p x) e (first-bound p (n + 1) i l)
  where
    go : (b : Bool) → Found.At i ≡ (if b then Found.At n else first p (n + 1) l) → (Found.At i ≡ first p (n + 1) l → i < n + 1 + length l) → i < n + suc (length l)
    go true q r = let z : i ≡ n = cc in omega arith
    go false q r = omega (arith, r q)
