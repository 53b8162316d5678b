-- Every call is one of four moves: a refusal, a row's own call on the row of its key, a row opens for an unknown key, a row freed.
-- The theorems of the table are proved of the moves.
use Rattle.std.specs.Prelude.{if◌then◌else◌}
use mathlib.Core.Path.{◌≡◌, refl, sym, ◌∙◌, subst}
use Prim.Native.Nat.{ℕ, ◌≤◌}
use native.Mathlib.Omega.{arith}
use mathlib.Core.Bool.{Bool, true, false}
use mathlib.Core.List.{List}
use borrow.Author.Tests.{le-ltb, ltb-false}
use Rattle.octets.specs.Words.{no, some, ◌<?◌, ◌=?◌}
use Rattle.refusals.specs.Numbers.{no_callsign, stream_id_malformed}
use Rattle.octets.proofs.Tests.{and_right, and-not-right, if_yes}
use Rattle.octets.proofs.Lists.{every-at}
use Rattle.keys.specs.declared.Key.{Key}
use Rattle.keys.specs.Key.{Named}
use Rattle.keys.specs.Key.{key_of, no_key, keeps_key, named_of}
use Rattle.keys.proofs.Names.{key-keeps}
use Rattle.callsigns.specs.Callsign.{callsign}
use Rattle.names.specs.Texts.{stream_id}
use Rattle.rows.specs.declared.Row.{Row}
use Rattle.places.specs.declared.Held.{Held}
use Rattle.rows.specs.Answer.{Answer, accepted, Outcome, refuse}
use Rattle.rows.specs.Stream.{word, words, fresh, offer as row-offer}
use Rattle.rows.specs.Row.{keeps_row, row_of, offer_of, take_of, force_of}
use Rattle.rows.proofs.Keeps.{fresh_keeps, offer-keeps-row, take-keeps-row, force-keeps-row}
use Rattle.rows.proofs.Refusals.{Unmoved, offer-unmoved-row, take-unmoved-row, force-unmoved-row}
use Rattle.streams.specs.declared.Table.{Table}
use Rattle.slot_rules.specs.Slots.{Found}
use Rattle.lookups.specs.Lookup.{Lookup}
use Rattle.streams.specs.Table.{free_slot, is_free, keeps_slot, has_key, first, slot_at, with_slot, past_slot}
use Rattle.streams.specs.Calls.{place, look_up, on_row, opens, offer_by, offer, take_by, take, force_by, force, close_by, close}
use Rattle.streams.proofs.Lookups.{Kept, kept, by-lookup}
use Rattle.streams.proofs.Places.{Place, place_at, first-place, first-none, open-key}

pub data Move (t : Table) (k : Key) : Outcome Table → Type 0 where
  refusing : (n : ℕ) → Move t k (refuse n t)
  moving : {i : ℕ} (o : Outcome Row) → Kept t → Place (has_key k) t.slots i → Unmoved (slot_at t i).row o → keeps_row o.after ≡ true → Move t k (on_row t i o)
  opening : {i : ℕ} (r : Row) → Kept t → Place is_free t.slots i → some (has_key k) t.slots ≡ false → keeps_key k ≡ true → keeps_row r ≡ true
      → Move t k (record { answer = accepted; after = with_slot t i (record { is_open = true; key = k; row = r }) })
  freeing : {i : ℕ} → Kept t → Place (has_key k) t.slots i → Move t k (record { answer = accepted; after = with_slot t i free_slot })

-- on a fresh row every number from 1 on is accepted
fresh-accepts : (m : Held) (time : ℕ) → 1 ≤ m.number → (offer_of (row_of fresh) m time).answer ≡ accepted
unfolding row-offer
fresh-accepts m time h = rw (fresh_keeps, le-ltb m.number 1 h, and-not-right (1 <? m.number) false refl)

-- what the names come to
named-key : (o s : List ℕ) → (named_of o s).refusal ≡ 0 → keeps_key (named_of o s).key ≡ true
unfolding named_of
named-key o s e = go (callsign o) (stream_id s) refl refl e
  where
    named : Bool → Bool → Named
    named a b = if no a then record { refusal = no_callsign; key = no_key } else if no b then record { refusal = stream_id_malformed; key = no_key } else record { refusal = 0; key = key_of o s }

    go : (a b : Bool) → callsign o ≡ a → stream_id s ≡ b → (named a b).refusal ≡ 0 → keeps_key (named a b).key ≡ true
    go true true p q z = key-keeps o s p q
    go true false p q z = absurd (omega arith)
    go false b p q z = absurd (omega arith)

-- an open row of a table that keeps the rules keeps its own
pub row_keeps : (t : Table) (k : Key) (i : ℕ) → Kept t → Place (has_key k) t.slots i → keeps_row (slot_at t i).row ≡ true
unfolding keeps_slot
row_keeps t k i g p =
    let h = place_at p in
    let s = every-at keeps_slot t.slots i past_slot g.each h.1 in
    let u = open-key k (slot_at t i) h.0 in
    and_right (keeps_key (slot_at t i).key) _ (sym (if_yes _ _ _ u) ∙ s)

module _ (t : Table) (o s : List ℕ) where
  abbrev k : Key
  k = (named_of o s).key

  -- by what stands for the key: a refusal, its row, or nothing
  by-standing : (f : Lookup → Outcome Table) → ((n : ℕ) → Move t k (f (Lookup.Refused n))) → ((i : ℕ) → Kept t → Place (has_key k) t.slots i → Move t k (f (Lookup.Open i)))
      → (Kept t → keeps_key k ≡ true → some (has_key k) t.slots ≡ false → Move t k (f Lookup.Unknown)) → Move t k (f (look_up t (named_of o s)))
  by-standing f a b c =
      by-lookup t (named_of o s) (λ (l : Lookup). Move t k (f l)) (λ e. a 40) (λ e. a (named_of o s).refusal) (λ e z. go (kept t e) (named-key o s z) (first (has_key k) 0 t.slots) refl)
    where
      go : Kept t → keeps_key k ≡ true → (x : Found) → x ≡ first (has_key k) 0 t.slots → Move t k (f (place x))
      go g v (Found.At i) q = b i g (first-place (has_key k) i t.slots q)
      go g v Found.Nothing q = c g v (first-none (has_key k) 0 t.slots q)

  -- THE CALLS ARE MOVES, at numbers of 32 bits
  module _ (time : ℕ) (w : word time ≡ true) where
    pub offer-moves : (m : Held) → words m ≡ true → Move t k (offer t o s m time)
    offer-moves m v =
        by-standing (offer_by t k m time) refusing
        (λ i g p. moving (offer_of (slot_at t i).row m time) g p (offer-unmoved-row (slot_at t i).row m time) (offer-keeps-row (slot_at t i).row (row_keeps t k i g p) time w m v))
        (λ g a n. unknown g a n (m.number <? 1) refl)
      where
        into : Kept t → keeps_key k ≡ true → some (has_key k) t.slots ≡ false → 1 ≤ m.number → (f : Found) → f ≡ first is_free 0 t.slots → Move t k (opens t k (offer_of (row_of fresh) m time) f)
        into g a n h (Found.At i) q =
            subst (λ (b : Answer). Move t k (record { answer = b; after = with_slot t i (record { is_open = true; key = k; row = (offer_of (row_of fresh) m time).after }) })) (sym (fresh-accepts m time h))
            (opening (offer_of (row_of fresh) m time).after g (first-place is_free i t.slots q) n a (offer-keeps-row (row_of fresh) fresh_keeps time w m v))
        into g a n h Found.Nothing q = refusing 13

        unknown : Kept t → keeps_key k ≡ true → some (has_key k) t.slots ≡ false → (b : Bool) → (m.number <? 1) ≡ b
            → Move t k (if b then refuse 10 t else opens t k (offer_of (row_of fresh) m time) (first is_free 0 t.slots))
        unknown g a n true e = refusing 10
        unknown g a n false e = into g a n (ltb-false m.number 1 e) (first is_free 0 t.slots) refl

    pub take-moves : Move t k (take t o s time)
    take-moves =
        by-standing (take_by t time) refusing
        (λ i g p. moving (take_of (slot_at t i).row time) g p (take-unmoved-row (slot_at t i).row time) (take-keeps-row (slot_at t i).row (row_keeps t k i g p) time w)) (λ g a n. refusing 14)

    pub force-moves : Move t k (force t o s time)
    force-moves =
        by-standing (force_by t time) refusing
        (λ i g p. moving (force_of (slot_at t i).row time) g p (force-unmoved-row (slot_at t i).row time) (force-keeps-row (slot_at t i).row (row_keeps t k i g p) time w)) (λ g a n. refusing 14)

  pub close-moves : Move t k (close t o s)
  close-moves = by-standing (close_by t) refusing (λ i g p. ends i g p ((slot_at t i).row.count =? 0)) (λ g a n. refusing 14)
    where
      ends : (i : ℕ) → Kept t → Place (has_key k) t.slots i → (b : Bool) → Move t k (if b then record { answer = accepted; after = with_slot t i free_slot } else refuse 15 t)
      ends i g p true = freeing g p
      ends i g p false = refusing 15
