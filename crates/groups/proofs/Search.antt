-- What a turn of a loop over the groups comes to, and where what was found stands.
use mathlib.Core.Path.{◌≡◌, refl, sym, ◌∙◌}
use borrow.Author.Tests.{ltb-false}
use Prim.Native.Nat.{ℕ, suc, ◌+◌, ◌≤◌, ◌<◌}
use native.Mathlib.Omega.{arith}
use mathlib.Core.Bool.{Bool, true, false}
use Rattle.std.specs.Prelude.{Option, Some, None, position, cond, ltb, ◌||◌, not}
use Rattle.std.specs.List.{position_or_len}
use Rattle.std.proofs.lemmas.List.Quantifiers.{position-Some}
use Rattle.octets.specs.Words.{some}
use mathlib.Core.List.{List, [], ◌∷◌, map}
use lib.ListN.{length, get_or, drop, length-map, drop_of_length-le}
use Rattle.octets.proofs.Tests.{and-not-left, and-next, no_true, no_false}
use Rattle.octets.proofs.Lists.{drop-next}
use Rattle.groups.specs.declared.Group.{Group}
use Rattle.groups.specs.Groups.{twice, distinct, past_group}

-- what owning a value tells of an array of structs in it
pub unmapped : (X Y : Type 0) (f : X → Y) (l : List X) (n : ℕ) → length (map f l) ≡ n → length l ≡ n
unmapped X Y f l n e = sym (length-map l f) ∙ e

-- past the end
pub past : {A : Type 0} (l : List A) (i : ℕ) → length l ≤ i → drop i l ≡ []
past l i h = drop_of_length-le l {i = i} h

-- ---- a turn of a loop over the groups

module _ (l : List Group) (i : ℕ) (d : Group) (h : i < length l) where
  pub distinct-not : twice (get_or l i d) (drop (i + 1) l) ≡ true → distinct (drop i l) ≡ false
  distinct-not e = rw (drop-next l i d h) (and-not-left _ _ (no_true _ e))

  pub distinct-next : twice (get_or l i d) (drop (i + 1) l) ≡ false → distinct (drop i l) ≡ distinct (drop (i + 1) l)
  distinct-next e = rw (drop-next l i d h) (and-next _ _ (no_false _ e))

-- ---- what was found

pub found-bound : (p : Group → Bool) (i : ℕ) (l : List Group) → Some i ≡ position p l → i < length l
found-bound p i l e = (position-Some p l i past_group (sym e)).0

pub found-at : (p : Group → Bool) (i : ℕ) (l : List Group) → Some i ≡ position p l → p (get_or l i past_group) ≡ true
found-at p i l e = (position-Some p l i past_group (sym e)).1

past-all : (p : Group → Bool) (l : List Group) → length l ≤ position_or_len p l → some p l ≡ false
past-all p [] h = refl
past-all p (x ∷ l) h = go (p x) (past-all p l) h
  where
    go : (b : Bool) → (length l ≤ position_or_len p l → some p l ≡ false) → suc (length l) ≤ cond (not b) (1 + position_or_len p l) 0 → (b || some p l) ≡ false
    go true r k = absurd (omega (arith, k))
    go false r k = r (omega (arith, k))

pub found-none : (p : Group → Bool) (l : List Group) → None ≡ position p l → some p l ≡ false
found-none p l e = go (ltb (position_or_len p l) (length l)) refl e
  where
    go : (b : Bool) → ltb (position_or_len p l) (length l) ≡ b → ◌≡◌ {A = Option ℕ} None (cond b (Some (position_or_len p l)) None) → some p l ≡ false
    go true q k = let z : ◌≡◌ {A = ℕ} 0 1 = cc in absurd (omega arith)
    go false q k = past-all p l (ltb-false (position_or_len p l) (length l) q)
