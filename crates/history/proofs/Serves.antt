-- A call on the table, seen from each stream: on its own stream it does what the row by itself does, and other streams it leaves alone.
use Rattle.std.specs.Prelude.{if◌then◌else◌}
use Prim.Native.Nat.{ℕ}
use native.Mathlib.Omega.{arith}
use mathlib.Core.Path.{◌≡◌, refl, sym, ap, ◌∙◌, subst}
use mathlib.Core.Bool.{Bool, true, false}
use mathlib.Core.List.{List, [], ◌∷◌}
use mathlib.Core.Logic.{◌⊎◌, inl, inr}
use mathlib.Core.Option.{Option, none, some as just}
use Rattle.octets.specs.Words.{every}
use Rattle.octets.proofs.Tests.{if_yes, and_left, and_right}
use Rattle.refusals.specs.Numbers.{no_callsign, stream_id_malformed, no_such_stream, still_holding}
use Rattle.callsigns.specs.Callsign.{callsign}
use Rattle.names.specs.Texts.{stream_id}
use Rattle.keys.specs.declared.Key.{Key}
use Rattle.keys.specs.Key.{same_key, key_of, keeps_key, named_of}
use Rattle.places.specs.declared.Held.{Held}
use Rattle.rows.specs.declared.Row.{Row}
use Rattle.rows.specs.Answer.{accepted, Outcome, refuse}
use Rattle.rows.specs.Stream.{Stream, fresh, words, keeps}
use Rattle.rows.specs.Row.{stream_of, row_of, keeps_row, checked, offer_of}
use Rattle.rows.proofs.Rules.{kept_row, keep, unpacks}
use Rattle.rows.proofs.Keeps.{fresh_keeps}
use Rattle.slots.specs.declared.Slot.{Slot}
use Rattle.streams.specs.declared.Table.{Table}
use Rattle.streams.specs.Table.{keeps_slot, has_key, keeps_table}
use Rattle.streams.specs.Calls.{offer_by, take_by, force_by, close_by}
use Rattle.streams.specs.Meaning.{row_in, row_for}
use Rattle.streams.proofs.Lookups.{kept}
use Rattle.streams.proofs.Places.{as-key, open-key}
use Rattle.streams.proofs.Moves.{Move, offer-moves, take-moves, force-moves, close-moves}
use Rattle.streams.proofs.Alone as alone
use Rattle.streams.proofs.Alone.{Does, named-is}
use Rattle.streams.proofs.Unknown as unknown
use Rattle.history.specs.History.{take, force, History, opened}
use Rattle.history.specs.Chain.{Call, offer, give, close, small, asked, noted}
use Rattle.history.proofs.Sound.{sound-opened}
use Rattle.history.proofs.Steps.{Led, step-led}

-- what stands for a stream after its history: no row and no history, or the row to which the history leads
abbrev pub On : History → Option Row → Type 0
On h none = h ≡ opened
On h (just r) = Led h (stream_of r)

-- equal keys have one row
pub as_row : (j k : Key) (t : Table) → same_key j k ≡ true → row_for j t ≡ row_for k t
as_row j k t e = go t.slots
  where
    go : (l : List Slot) → row_in j l ≡ row_in k l
    go [] = refl
    go (x ∷ l) = rw (as-key j k x e, go l)

-- a row of a table that keeps the rules keeps its own
open-keeps : (k : Key) (x : Slot) → has_key k x ≡ true → keeps_slot x ≡ true → keeps_row x.row ≡ true
unfolding keeps_slot
open-keeps k x h g = and_right (keeps_key x.key) _ (sym (if_yes _ _ _ (open-key k x h)) ∙ g)

row-in-keeps : (k : Key) (r : Row) (l : List Slot) → every keeps_slot l ≡ true → row_in k l ≡ just r → keeps_row r ≡ true
row-in-keeps k r [] g q = let z : ◌≡◌ {A = ℕ} 0 1 = cc in absurd (omega arith)
row-in-keeps k r (x ∷ l) g q = by (has_key k x) refl q (row-in-keeps k r l (and_right (keeps_slot x) _ g))
  where
    by : (b : Bool) → has_key k x ≡ b → (if b then just x.row else row_in k l) ≡ just r → (row_in k l ≡ just r → keeps_row r ≡ true) → keeps_row r ≡ true
    by true h p f = let z : x.row ≡ r = cc in subst (λ (y : Row). keeps_row y ≡ true) z (open-keeps k x h (and_left (keeps_slot x) _ g))
    by false h p f = f p

pub row_keeps : (k : Key) (t : Table) (r : Row) → keeps_table t ≡ true → row_for k t ≡ just r → keeps_row r ≡ true
row_keeps k t r e q = row-in-keeps k r t.slots (kept t e).each q

-- ---- the calls are moves of the table

module _ (t : Table) (o s : List ℕ) where
  pub asked-moves : (c : Call) → small c ≡ true → Move t (named_of o s).key (asked t o s c)
  asked-moves (offer m time) w = offer-moves t o s time (and_right (words m) _ w) m (and_left (words m) _ w)
  asked-moves (give take time) w = take-moves t o s time w
  asked-moves (give force time) w = force-moves t o s time w
  asked-moves close w = close-moves t o s

  -- names that are no names are refused before any row is looked for
  no-originator : keeps_table t ≡ true → callsign o ≡ false → (c : Call) → asked t o s c ≡ refuse no_callsign t
  no-originator e n (offer m time) = ap (offer_by t (named_of o s).key m time) (unknown.no-callsign t o s e n)
  no-originator e n (give take time) = ap (take_by t time) (unknown.no-callsign t o s e n)
  no-originator e n (give force time) = ap (force_by t time) (unknown.no-callsign t o s e n)
  no-originator e n close = ap (close_by t) (unknown.no-callsign t o s e n)

  no-id : keeps_table t ≡ true → callsign o ≡ true → stream_id s ≡ false → (c : Call) → asked t o s c ≡ refuse stream_id_malformed t
  no-id e p n (offer m time) = ap (offer_by t (named_of o s).key m time) (unknown.no-stream-id t o s e p n)
  no-id e p n (give take time) = ap (take_by t time) (unknown.no-stream-id t o s e p n)
  no-id e p n (give force time) = ap (force_by t time) (unknown.no-stream-id t o s e p n)
  no-id e p n close = ap (close_by t) (unknown.no-stream-id t o s e p n)

-- ---- the call on its own stream

-- what a call c on a stream with history h leaves: its answer, and what stands for the stream
abbrev Leaves : History → Call → Key → Outcome Table → Type 0
Leaves h c k o = On (noted h c o.answer) (row_for k o.after)

-- a refusal leaves all as it was
refusal : (h : History) (c : Call) (k : Key) (t : Table) (n : ℕ) (o : Outcome Table) → o ≡ refuse n t → On h (row_for k t) → Leaves h c k o
refusal h c k t n o e g = subst (λ (x : Outcome Table). Leaves h c k x) (sym e) g

-- the table's outcome o is the row's outcome x, which leaves what it must
leaves : (h : History) (c : Call) (k : Key) (x : Outcome Stream) (r : Row) (o : Outcome Table) → keeps_row r ≡ true → Does k (checked r x) o → Led (noted h c x.answer) x.after → Leaves h c k o
leaves h c k x r o e d g =
    let p : checked r x ≡ record { answer = x.answer; after = row_of x.after } = if_yes _ _ _ e in
    let a : o.answer ≡ x.answer = d.answer ∙ ap (λ (y : Outcome Row). y.answer) p in
    let b : row_for k o.after ≡ just (row_of x.after) = d.row ∙ ap (λ (y : Outcome Row). just y.after) p in
    rw (a, b) (subst (λ (y : Stream). Led (noted h c x.answer) y) (sym (unpacks x.after)) g)

-- a close frees the row, or is refused
closing : (h : History) (k : Key) (t : Table) (A B : Type 0) (o : Outcome Table) → On h (row_for k t)
    → (A × (o.answer ≡ accepted) × (row_for k o.after ≡ none)) ⊎ ((o ≡ refuse still_holding t) × B) → Leaves h close k o
closing h k t A B o g (inl x) = rw (x.1, x.2) refl
closing h k t A B o g (inr x) = refusal h close k t still_holding o x.0 g

module _ (t : Table) (o s : List ℕ) (e : keeps_table t ≡ true) (cs : callsign o ≡ true) (id : stream_id s ≡ true) (h : History) where
  -- a stream that has a row
  module _ (r : Row) (f : row_for (key_of o s) t ≡ just r) (g : Led h (stream_of r)) where
    good : keeps_row r ≡ true
    good = row_keeps (key_of o s) t r e f

    stream : keeps (stream_of r) ≡ true
    stream = keep (stream_of r) (kept_row r good).stream

    here : On h (row_for (key_of o s) t)
    here = rw f g

    known : (c : Call) → small c ≡ true → Leaves h c (key_of o s) (asked t o s c)
    known (offer m time) w = leaves h (offer m time) (key_of o s) _ r _ good (alone.offer-does t o s e cs id r f m time) (step-led h (stream_of r) g stream (offer m time) w)
    known (give take time) w = leaves h (give take time) (key_of o s) _ r _ good (alone.take-does t o s e cs id r f time) (step-led h (stream_of r) g stream (give take time) w)
    known (give force time) w = leaves h (give force time) (key_of o s) _ r _ good (alone.force-does t o s e cs id r f time) (step-led h (stream_of r) g stream (give force time) w)
    known close w = closing h (key_of o s) t _ _ _ here (alone.close-does t o s e cs id r f)

  -- a stream that has none
  module _ (f : row_for (key_of o s) t ≡ none) (g : h ≡ opened) where
    absent : On h (row_for (key_of o s) t)
    absent = rw f g

    led : Led h (stream_of (row_of fresh))
    led = rw (unpacks fresh, g) (record { sound = sound-opened; is = refl })

    new : (m : Held) (time : ℕ) → small (offer m time) ≡ true
        → ((n : ℕ) × (asked t o s (offer m time) ≡ refuse n t)) ⊎ Does (key_of o s) (offer_of (row_of fresh) m time) (asked t o s (offer m time))
        → Leaves h (offer m time) (key_of o s) (asked t o s (offer m time))
    new m time w (inl x) = refusal h (offer m time) (key_of o s) t x.0 _ x.1 absent
    new m time w (inr x) =
        leaves h (offer m time) (key_of o s) _ (row_of fresh) _ fresh_keeps x
        (step-led h (stream_of (row_of fresh)) led (keep _ (kept_row (row_of fresh) fresh_keeps).stream) (offer m time) w)

    strange : (c : Call) → small c ≡ true → Leaves h c (key_of o s) (asked t o s c)
    strange (offer m time) w = new m time w (unknown.offer-refused-or-opens t o s e cs id f m time)
    strange (give take time) w = refusal h (give take time) (key_of o s) t no_such_stream _ (unknown.take-unknown t o s e cs id f time) absent
    strange (give force time) w = refusal h (give force time) (key_of o s) t no_such_stream _ (unknown.force-unknown t o s e cs id f time) absent
    strange close w = refusal h close (key_of o s) t no_such_stream _ (unknown.close-unknown t o s e cs id f) absent

  named : On h (row_for (key_of o s) t) → (c : Call) → small c ≡ true → Leaves h c (key_of o s) (asked t o s c)
  named g c w = go (row_for (key_of o s) t) refl g
    where
      go : (x : Option Row) → row_for (key_of o s) t ≡ x → On h x → Leaves h c (key_of o s) (asked t o s c)
      go (just r) f g = known r f g c w
      go none f g = strange f g c w

-- whatever the names
pub serves : (t : Table) (o s : List ℕ) → keeps_table t ≡ true → (h : History) → On h (row_for (named_of o s).key t) → (c : Call) → small c ≡ true
    → Leaves h c (named_of o s).key (asked t o s c)
serves t o s e h g c w = go (callsign o) (stream_id s) refl refl
  where
    go : (a b : Bool) → callsign o ≡ a → stream_id s ≡ b → Leaves h c (named_of o s).key (asked t o s c)
    go false b p q = refusal h c (named_of o s).key t no_callsign _ (no-originator t o s e p c) g
    go true false p q = refusal h c (named_of o s).key t stream_id_malformed _ (no-id t o s e p q c) g
    go true true p q = let k : (named_of o s).key ≡ key_of o s = ap (λ x. x.key) (named-is o s p q) in
        subst (λ (x : Key). Leaves h c x (asked t o s c)) (sym k) (named t o s e p q h (subst (λ (x : Key). On h (row_for x t)) k g) c w)
