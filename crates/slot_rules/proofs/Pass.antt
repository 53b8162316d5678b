-- A pass over the slots: what a turn comes to, and what it has found at its end.
use Rattle.std.specs.Prelude.{Option, Some, None, if◌then◌else◌}
use Rattle.std.specs.Option.{option_or}
use mathlib.Core.Path.{◌≡◌, refl, sym, ap, ◌∙◌}
use Prim.Native.Nat.{ℕ, ◌+◌, ◌<◌, ◌≤◌}
use mathlib.Core.Bool.{Bool, true, false}
use mathlib.Core.List.{List}
use lib.ListN.{length, drop, drop_of_length-le}
use Rattle.octets.proofs.Tests.{if_yes, if_no, no_true, no_false}
use Rattle.octets.proofs.Lists.{drop-next}
use Rattle.keys.specs.declared.Key.{Key}
use Rattle.slots.specs.declared.Slot.{Slot}
use Rattle.slot_rules.specs.declared.Ruled.{Ruled}
use Rattle.slot_rules.specs.Slots.{Found, has_key, is_free, keeps_slots, first, open_count, slot_in, past_slot, place_of, test_of}
use Rattle.slot_rules.specs.Steps.{seen_at, found_or, Seen}

-- a place more was looked at
module _ (p : Slot → Bool) (l : List Slot) (found : Option ℕ) (i : ℕ) (h : i < length l) (w : Seen p l found i) where
  pub seen_next : (b : Bool) (v : Option ℕ) → p (slot_in l i) ≡ b → v ≡ seen_at found i b → Seen p l v (i + 1)
  seen_next b v e q = w ∙ rw (drop-next l i past_slot h, e) (go found b v q)
    where
      go : (f : Option ℕ) (b : Bool) (v : Option ℕ) → v ≡ seen_at f i b
          → found_or f (if b then Found.At i else first p (i + 1) (drop (i + 1) l)) ≡ found_or v (first p (i + 1) (drop (i + 1) l))
      go (Some k) b v q = rw q refl
      go None true v q = rw q refl
      go None false v q = rw q refl

  -- a place that does not pass leaves what was found
  pub seen_skip : p (slot_in l i) ≡ false → Seen p l found (i + 1)
  seen_skip f = seen_next false found f (go found)
    where
      go : (f : Option ℕ) → f ≡ seen_at f i false
      go (Some k) = refl
      go None = refl

-- the first of what was found and this place
pub or-seen : (f : Option ℕ) (i : ℕ) → option_or f (Some i) ≡ seen_at f i true
or-seen (Some k) i = refl
or-seen None i = refl

-- all were looked at
pub seen_end : (p : Slot → Bool) (l : List Slot) (found : Option ℕ) (i : ℕ) → length l ≤ i → Seen p l found i → found ≡ place_of (first p 0 l)
seen_end p l found i h w = sym (ap place_of (w ∙ ap (λ (r : List Slot). found_or found (first p i r)) (drop_of_length-le l {i = i} h)) ∙ go found)
  where
    go : (f : Option ℕ) → place_of (found_or f Found.Nothing) ≡ f
    go (Some k) = refl
    go None = refl

-- ---- what the pass answers

module _ (l : List Slot) (k : Key) where
  pub test-broken : keeps_slots l ≡ false → None ≡ test_of l k
  unfolding test_of
  test-broken f = sym (if_yes _ _ _ (no_false _ f))

  pub test_good : (r : Ruled) → keeps_slots l ≡ true → r.found ≡ place_of (first (has_key k) 0 l) → r.free ≡ place_of (first is_free 0 l) → r.rows ≡ open_count l
      → Some r ≡ test_of l k
  unfolding test_of
  test_good r e a b c = sym (if_no _ _ _ (no_true _ e) ∙ λ i. Some (record { found = sym a i; free = sym b i; rows = sym c i }))
