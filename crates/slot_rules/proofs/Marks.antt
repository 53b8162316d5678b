-- The marks of the slots: what a turn of each loop over them comes to.
use Rattle.std.specs.Prelude.{if◌then◌else◌}
use mathlib.Core.Path.{◌≡◌, refl, sym, ap, ◌∙◌}
use Prim.Native.Nat.{ℕ, ◌+◌, ◌<◌}
use native.Mathlib.Omega.{arith}
use native.Mathlib.Decide.{ℕ_discrete}
use mathlib.Core.Bool.{Bool, true, false}
use mathlib.Core.List.{List, []}
use lib.ListN.{length, get_or, set, drop}
use lib.Seq.{get_or-set_same, get_or-set_other}
use Rattle.octets.specs.Words.{◌and◌, ◌or◌, some}
use Rattle.octets.proofs.Tests.{and_left, and_right, and-next, and-not-left, or_left, or-next}
use Rattle.octets.proofs.Lists.{drop-next}
use Rattle.keys.specs.declared.Key.{Key}
use Rattle.keys.specs.Key.{stream_id_of, mark_of}
use Rattle.keys.proofs.SameKey.{marks-same}
use Rattle.slots.specs.declared.Slot.{Slot}
use Rattle.slot_rules.specs.Slots.{has_key, twice, slot_in, past_slot}
use Rattle.slot_rules.specs.Steps.{Marked}

-- one mark more
pub marked_more : (l : List Slot) (marks : List ℕ) (n v : ℕ) → n < length marks → Marked l marks n → v ≡ mark_of (stream_id_of (slot_in l n).key) → Marked l (set marks n v) (n + 1)
marked_more l marks n v h m e i k o = go (ℕ_discrete i n)
  where
    go : Dec (i ≡ n) → get_or (set marks n v) i 0 ≡ mark_of (stream_id_of (slot_in l i).key)
    go (yes q) = ap (λ (j : ℕ). get_or (set marks n v) j 0) q ∙ get_or-set_same marks n v 0 h ∙ e ∙ ap (λ (j : ℕ). mark_of (stream_id_of (slot_in l j).key)) (sym q)
    go (no d) = get_or-set_other marks n i v 0 d ∙ m i (omega arith) o

-- a free slot needs none
pub marked-free : (l : List Slot) (marks : List ℕ) (n : ℕ) → Marked l marks n → (slot_in l n).is_open ≡ false → Marked l marks (n + 1)
marked-free l marks n m f i k o = go (ℕ_discrete i n)
  where
    go : Dec (i ≡ n) → get_or marks i 0 ≡ mark_of (stream_id_of (slot_in l i).key)
    go (yes q) = let z : true ≡ false = sym o ∙ ap (λ (j : ℕ). (slot_in l j).is_open) q ∙ f in let y : ◌≡◌ {A = ℕ} 0 1 = ap (λ (b : Bool). if b then 0 else 1) z in absurd (omega (arith, y))
    go (no d) = m i (omega arith) o

-- an open slot with another mark than the key's has not the key
pub key-unlike : (k : Key) (x : Slot) (mark own : ℕ) → mark ≡ mark_of (stream_id_of k) → (x.is_open ≡ true → own ≡ mark_of (stream_id_of x.key)) → (own ≡ mark → ⊥) → has_key k x ≡ false
unfolding has_key
key-unlike k x mark own p q d = go (has_key k x) refl
  where
    go : (b : Bool) → has_key k x ≡ b → has_key k x ≡ false
    go false e = e
    go true e = absurd (d (q (and_left x.is_open _ e) ∙ sym (marks-same k x.key (and_right x.is_open _ e)) ∙ sym p))

-- two slots with unlike marks are not alike
pub marks-unlike : (l : List Slot) (marks : List ℕ) (i j : ℕ) → Marked l marks 32 → i < 32 → j < 32 → (get_or marks j 0 ≡ get_or marks i 0 → ⊥)
    → ((slot_in l i).is_open and has_key (slot_in l i).key (slot_in l j)) ≡ false
marks-unlike l marks i j m h k d = go (slot_in l i).is_open refl
  where
    go : (b : Bool) → (slot_in l i).is_open ≡ b → ((slot_in l i).is_open and has_key (slot_in l i).key (slot_in l j)) ≡ false
    go false u = and-not-left _ _ u
    go true u = and-next _ _ u ∙ key-unlike (slot_in l i).key (slot_in l j) (get_or marks i 0) (get_or marks j 0) (m i h u) (m j k) d

-- a free slot is not compared
pub twice-free : (x : Slot) (rest : List Slot) → x.is_open ≡ false → twice x rest ≡ false
twice-free x rest o = and-not-left _ _ o

-- a turn of the inner loop, x being the slot of the outer one
module _ (x : Slot) (l : List Slot) (j : ℕ) (h : j < length l) where
  pub twice-here : (x.is_open and has_key x.key (get_or l j past_slot)) ≡ true → twice x (drop j l) ≡ true
  twice-here e = rw (drop-next l j past_slot h) (and-next x.is_open _ (and_left x.is_open _ e) ∙ or_left _ _ (and_right x.is_open _ e))

  pub twice-next : (x.is_open and has_key x.key (get_or l j past_slot)) ≡ false → twice x (drop j l) ≡ twice x (drop (j + 1) l)
  twice-next e = rw (drop-next l j past_slot h) (go x.is_open e)
    where
      go : (b : Bool) → b and has_key x.key (get_or l j past_slot) ≡ false
          → b and (has_key x.key (get_or l j past_slot) or some (has_key x.key) (drop (j + 1) l)) ≡ b and some (has_key x.key) (drop (j + 1) l)
      go true q = or-next _ _ q
      go false q = refl

pub twice-end : (x : Slot) → twice x [] ≡ false
twice-end x = go x.is_open
  where
    go : (b : Bool) → b and false ≡ false
    go true = refl
    go false = refl
