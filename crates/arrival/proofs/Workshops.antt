-- W14, OF TWO WORKSHOPS: what a chain did with one stream is what a row by itself did, so the list is that row's.
use Rattle.std.specs.Prelude.{if◌then◌else◌}
use Prim.Native.Nat.{ℕ}
use mathlib.Core.Path.{◌≡◌, refl, sym, ap, ◌∙◌, subst}
use mathlib.Core.Bool.{Bool, true, false}
use mathlib.Core.List.{List, []}
use mathlib.Core.Logic.{◌⊎◌, inl, inr}
use mathlib.Core.Option.{Option, none, some as just}
use Rattle.octets.proofs.Tests.{if_yes}
use Rattle.refusals.specs.Numbers.{no_callsign, stream_id_malformed, no_such_stream}
use Rattle.callsigns.specs.Callsign.{callsign}
use Rattle.names.specs.Texts.{stream_id}
use Rattle.keys.specs.declared.Key.{Key}
use Rattle.keys.specs.Key.{same_key, key_of, named_of}
use Rattle.rows.specs.declared.Row.{Row}
use Rattle.rows.specs.Answer.{Answer, refused, Outcome, refuse}
use Rattle.rows.specs.Stream.{Stream, fresh}
use Rattle.rows.specs.Stream as row
use Rattle.rows.specs.Row.{held_in, stream_of, row_of, offer_of}
use Rattle.rows.proofs.Rules.{kept_row, keep, unpacks}
use Rattle.rows.proofs.Keeps.{fresh_keeps}
use Rattle.lookups.specs.Lookup.{Lookup}
use Rattle.streams.specs.declared.Table.{Table}
use Rattle.streams.specs.Table.{keeps_table}
use Rattle.streams.specs.Calls.{look_up}
use Rattle.streams.specs.Meaning.{row_for}
use Rattle.streams.proofs.Alone.{Does, named-is}
use Rattle.streams.proofs.Unknown as unknown
use Rattle.image.specs.Image.{load_of}
use Rattle.image.proofs.Keeps.{load-keeps}
use Rattle.history.specs.History.{take, force, History}
use Rattle.history.specs.Chain.{Call, offer, give, close, asked, Log, noted, restored_from, mine, Chain, begins, asks, loads-own, loads-other, loads-none, row_call, replay}
use Rattle.history.proofs.Serves.{as_row, row_keeps}
use Rattle.history.proofs.Demand3.{rules-kept, own_row, own-answer, no-row-no-history}
use Rattle.arrival.specs.Arrival.{in_order, Alone, brought, Heard}
use Rattle.arrival.specs.Arrival as alone
use Rattle.arrival.specs.Workshops.{Workshop, Two, list_of, OneList}
use Rattle.arrival.proofs.OneRow.{good, one-row}

-- ---- a call on the table is refused, or is answered as the row by itself answers it after its own history

-- names that are no names are refused before any row is looked for
pub refused-or-named : (t : Table) (o s : List ℕ) (c : Call) → keeps_table t ≡ true → ((n : ℕ) × (asked t o s c ≡ refuse n t)) ⊎ ((callsign o ≡ true) × (stream_id s ≡ true))
refused-or-named t o s c e = go (callsign o) (stream_id s) refl refl
  where
    refuses : (n : ℕ) (c : Call) → look_up t (named_of o s) ≡ Lookup.Refused n → asked t o s c ≡ refuse n t
    refuses n (offer m time) f = rw f
    refuses n (give take time) f = rw f
    refuses n (give force time) f = rw f
    refuses n close f = rw f

    go : (a b : Bool) → callsign o ≡ a → stream_id s ≡ b → ((n : ℕ) × (asked t o s c ≡ refuse n t)) ⊎ ((callsign o ≡ true) × (stream_id s ≡ true))
    go false b p q = inl (no_callsign, refuses no_callsign c (unknown.no-callsign t o s e p))
    go true false p q = inl (stream_id_malformed, refuses stream_id_malformed c (unknown.no-stream-id t o s e p q))
    go true true p q = inr (p, q)

module _ {l : Log} {t : Table} (x : Chain l t) (o s : List ℕ) where
  abbrev As : Key → Call → Type 0
  As k c = ((n : ℕ) × (asked t o s c ≡ refuse n t)) ⊎ ((asked t o s c).answer ≡ (row_call (replay (mine k l)) c).answer)

  -- a stream without a row has no history, and its first offer is made on a fresh row
  module _ (p : callsign o ≡ true) (q : stream_id s ≡ true) (f : row_for (key_of o s) t ≡ none) where
    no-row : (c : Call) → As (key_of o s) c
    no-row (offer m time) = go (unknown.offer-refused-or-opens t o s (rules-kept x) p q f m time)
      where
        on-fresh : (offer_of (row_of fresh) m time).answer ≡ (row.offer (replay (mine (key_of o s) l)) m time).answer
        on-fresh = rw (no-row-no-history x (key_of o s) f) (ap (λ (y : Outcome Row). y.answer) (if_yes _ _ _ fresh_keeps) ∙ ap (λ (y : Stream). (row.offer y m time).answer) (unpacks fresh))

        go : ((n : ℕ) × (asked t o s (offer m time) ≡ refuse n t)) ⊎ Does (key_of o s) (offer_of (row_of fresh) m time) (asked t o s (offer m time)) → As (key_of o s) (offer m time)
        go (inl y) = inl y
        go (inr y) = inr (y.answer ∙ on-fresh)
    no-row (give take time) = inl (no_such_stream, unknown.take-unknown t o s (rules-kept x) p q f time)
    no-row (give force time) = inl (no_such_stream, unknown.force-unknown t o s (rules-kept x) p q f time)
    no-row close = inl (no_such_stream, unknown.close-unknown t o s (rules-kept x) p q f)

  as-row-answers : (c : Call) → As (named_of o s).key c
  as-row-answers c = go (refused-or-named t o s c (rules-kept x))
    where
      by_row : (p : callsign o ≡ true) (q : stream_id s ≡ true) (y : Option Row) → row_for (key_of o s) t ≡ y → As (key_of o s) c
      by_row p q none f = no-row p q f c
      by_row p q (just r) f = inr (own-answer x o s p q r f c)

      go : ((n : ℕ) × (asked t o s c ≡ refuse n t)) ⊎ ((callsign o ≡ true) × (stream_id s ≡ true)) → As (named_of o s).key c
      go (inl y) = inl y
      go (inr y) = subst (λ (j : Key). As j c) (sym (ap (λ z. z.key) (named-is o s y.0 y.1))) (by_row y.0 y.1 (row_for (key_of o s) t) refl)

-- equal keys have one row, and so histories that lead to one row
same_row : {l : Log} {t : Table} → Chain l t → (j k : Key) → same_key j k ≡ true → replay (mine j l) ≡ replay (mine k l)
same_row {l} {t} x j k e = go (row_for k t) refl
  where
    go : (y : Option Row) → row_for k t ≡ y → replay (mine j l) ≡ replay (mine k l)
    go none f = rw (no-row-no-history x j (as_row j k t e ∙ f), no-row-no-history x k f) refl
    go (just r) f = sym (own_row x j r (as_row j k t e ∙ f)) ∙ own_row x k r f

-- ---- what a chain did with one stream, a row by itself did

leads : {h : History} {s : Stream} → Alone h s → Alone h (replay h)
leads {h} {s} x = subst (λ (y : Stream). Alone h y) (good x).led.is x

pub row-of : {l : Log} {t : Table} → Chain l t → (k : Key) → Alone (mine k l) (replay (mine k l))
row-of begins k = alone.begins
row-of (asks {l} {t} x o s c w) k = go (same_key k (named_of o s).key) refl (row-of x k)
  where
    answer : Answer
    answer = (asked t o s c).answer

    on : Alone (mine k l) (replay (mine k l)) → As x o s (named_of o s).key c → same_key k (named_of o s).key ≡ true → Alone (noted (mine k l) c answer) (replay (noted (mine k l) c answer))
    on a (inl y) e = let z : answer ≡ refused y.0 = ap (λ (v : Outcome Table). v.answer) y.1 in rw z a
    on a (inr y) e = rw (y ∙ ap (λ (z : Stream). (row_call z c).answer) (sym (same_row x k (named_of o s).key e))) (leads (alone.asks a c w))

    go : (b : Bool) → same_key k (named_of o s).key ≡ b → Alone (mine k l) (replay (mine k l))
        → Alone (if b then noted (mine k l) c answer else mine k l) (replay (if b then noted (mine k l) c answer else mine k l))
    go true e a = on a (as-row-answers x o s c) e
    go false e a = a
row-of (loads-own x y image s) k = row-of y k
row-of (loads-other {l} {t} x image e) k = go (row_for k u) refl
  where
    u : Table
    u = (load_of t image).after

    go : (y : Option Row) → row_for k u ≡ y → Alone (restored_from y) (replay (restored_from y))
    go none f = alone.begins
    go (just r) f = brought (stream_of r) (keep _ (kept_row r (row_keeps k u r (load-keeps t image (rules-kept x)) f)).stream)
row-of (loads-none x image n e) k = row-of x k

-- ---- THE THEOREMS

-- the second statement from the first
abbrev pub heard : {k : Key} {n : ℕ} {slip : ℕ → ℕ} → Workshop k n slip → Heard n slip
heard {k} x = record { history = mine k x.log; row = replay (mine k x.log); alone = row-of x.chain k; exactly = x.exactly; ends = x.ends }

pub gives_in_order : {k : Key} {n : ℕ} {slip : ℕ → ℕ} (x : Workshop k n slip) → list_of k x.log ≡ in_order n slip
gives_in_order x = (one-row (heard x)).gave

pub holds-none : {k : Key} {n : ℕ} {slip : ℕ → ℕ} (x : Workshop k n slip) (r : Row) → row_for k x.table ≡ just r → held_in r ≡ []
holds-none {k} x r e = ap (λ (s : Stream). s.held) (own_row x.chain k r e) ∙ (one-row (heard x)).holds

pub one_list : {k : Key} {n : ℕ} {slip : ℕ → ℕ} (x : Two k n slip) → OneList k n slip x.here.log x.there.log
one_list x = record { same = gives_in_order x.here ∙ sym (gives_in_order x.there); is = gives_in_order x.here }
