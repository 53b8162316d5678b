-- THEOREM: what a call on a key that has no row does, and when a call is refused before any row is looked for.
use Rattle.std.specs.Prelude.{if◌then◌else◌}
use mathlib.Core.Path.{◌≡◌, refl, ap, ◌∙◌}
use Prim.Native.Nat.{ℕ, ◌≤◌}
use native.Mathlib.Omega.{arith}
use mathlib.Core.Bool.{Bool, true, false}
use mathlib.Core.List.{List}
use mathlib.Core.Logic.{◌⊎◌, inl, inr}
use mathlib.Core.Option.{none}
use borrow.Author.Tests.{le-ltb, ltb-true, ltb-false}
use Rattle.octets.specs.Words.{◌<?◌}
use Rattle.refusals.specs.Numbers.{state_broken, no_callsign, stream_id_malformed, stale, no_free_row, no_such_stream}
use Rattle.keys.specs.Key.{key_of, named_of}
use Rattle.callsigns.specs.Callsign.{callsign}
use Rattle.names.specs.Texts.{stream_id}
use Rattle.places.specs.declared.Held.{Held}
use Rattle.rows.specs.Answer.{refuse}
use Rattle.rows.specs.Stream.{fresh}
use Rattle.rows.specs.Row.{row_of, offer_of}
use Rattle.streams.specs.declared.Table.{Table}
use Rattle.slot_rules.specs.Slots.{Found}
use Rattle.lookups.specs.Lookup.{Lookup}
use Rattle.streams.specs.Table.{is_free, has_key, keeps_table, first}
use Rattle.streams.specs.Calls.{place, look_up, opens, offer, take_by, take, force_by, force, close_by, close}
use Rattle.streams.specs.Meaning.{row_for}
use Rattle.streams.proofs.Places.{place_at, first-place, none-some, row-place, row_new, own_key}
use Rattle.streams.proofs.Alone.{Does, named-is}

-- ---- 40, 8 and 9

pub broken : (t : Table) (o s : List ℕ) → keeps_table t ≡ false → look_up t (named_of o s) ≡ Lookup.Refused state_broken
unfolding look_up
broken t o s e = rw e

module _ (t : Table) (o s : List ℕ) (e : keeps_table t ≡ true) where
  pub no-callsign : callsign o ≡ false → look_up t (named_of o s) ≡ Lookup.Refused no_callsign
  unfolding look_up named_of
  no-callsign c = rw (e, c)

  pub no-stream-id : callsign o ≡ true → stream_id s ≡ false → look_up t (named_of o s) ≡ Lookup.Refused stream_id_malformed
  unfolding look_up named_of
  no-stream-id c d = rw (e, c, d)

-- ---- a valid key with no row

module _ (t : Table) (o s : List ℕ) (e : keeps_table t ≡ true) (c : callsign o ≡ true) (d : stream_id s ≡ true) (h : row_for (key_of o s) t ≡ none) where
  pub unknown : look_up t (named_of o s) ≡ Lookup.Unknown
  unfolding look_up
  unknown = rw (named-is o s c d, e) (go (first (has_key (key_of o s)) 0 t.slots) refl)
    where
      go : (f : Found) → f ≡ first (has_key (key_of o s)) 0 t.slots → place f ≡ Lookup.Unknown
      go (Found.At i) q =
          let p = row-place (key_of o s) (first-place (has_key (key_of o s)) i t.slots q) in
          let z : ◌≡◌ {A = ℕ} 0 1 = cc in
          absurd (omega arith)
      go Found.Nothing q = refl

  pub take-unknown : (time : ℕ) → take t o s time ≡ refuse no_such_stream t
  take-unknown time = ap (take_by t time) unknown

  pub force-unknown : (time : ℕ) → force t o s time ≡ refuse no_such_stream t
  force-unknown time = ap (force_by t time) unknown

  pub close-unknown : close t o s ≡ refuse no_such_stream t
  close-unknown = ap (close_by t) unknown

  module _ (m : Held) (time : ℕ) where
    offer-unknown : offer t o s m time ≡ (if m.number <? 1 then refuse stale t else opens t (key_of o s) (offer_of (row_of fresh) m time) (first is_free 0 t.slots))
    offer-unknown = rw (unknown, named-is o s c d)

    -- 0 is stale, whether or not a row is free
    pub offer-stale : m.number ≡ 0 → offer t o s m time ≡ refuse stale t
    offer-stale z = offer-unknown ∙ rw z

    module _ (n : 1 ≤ m.number) where
      pub offer-none-free : Found.Nothing ≡ first is_free 0 t.slots → offer t o s m time ≡ refuse no_free_row t
      offer-none-free f = offer-unknown ∙ rw (le-ltb m.number 1 n, ← f)

      -- the lowest free row takes the key, and does what a new row does
      pub offer-opens : (i : ℕ) → Found.At i ≡ first is_free 0 t.slots → Does (key_of o s) (offer_of (row_of fresh) m time) (offer t o s m time)
      offer-opens i f =
          rw (offer-unknown, le-ltb m.number 1 n, ← f)
          (record { answer = refl; row = row_new (key_of o s) t.slots i _ (none-some (key_of o s) t.slots h) (place_at (first-place is_free i t.slots f)).1 (own_key (key_of o s) _) })

    -- so an offer on an unknown key is refused, or opens a row
    pub offer-refused-or-opens : ((n : ℕ) × (offer t o s m time ≡ refuse n t)) ⊎ Does (key_of o s) (offer_of (row_of fresh) m time) (offer t o s m time)
    offer-refused-or-opens = go (m.number <? 1) refl
      where
        free : 1 ≤ m.number → (f : Found) → f ≡ first is_free 0 t.slots → ((n : ℕ) × (offer t o s m time ≡ refuse n t)) ⊎ Does (key_of o s) (offer_of (row_of fresh) m time) (offer t o s m time)
        free n (Found.At i) q = inr (offer-opens n i q)
        free n Found.Nothing q = inl (no_free_row, offer-none-free n q)

        go : (b : Bool) → (m.number <? 1) ≡ b → ((n : ℕ) × (offer t o s m time ≡ refuse n t)) ⊎ Does (key_of o s) (offer_of (row_of fresh) m time) (offer t o s m time)
        go true q = let z = ltb-true m.number 1 q in inl (stale, offer-stale (omega arith))
        go false q = free (ltb-false m.number 1 q) (first is_free 0 t.slots) refl
