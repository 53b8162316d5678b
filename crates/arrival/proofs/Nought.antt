-- W14 with n = 0: on a row by itself the empty list (`can-be-met`, `one-row`). In the table a stream that had no row, and of which nothing was offered
-- since, still has none: a take of it is refused with 14, what was given out is the empty list, and no workshop is as written.
use Prim.Native.Nat.{ℕ}
use native.Mathlib.Omega.{arith}
use mathlib.Core.Path.{◌≡◌, refl, sym, ap, ◌∙◌, subst}
use mathlib.Core.Bool.{true}
use mathlib.Core.List.{List, [], ◌∷◌, ◌++◌}
use mathlib.Core.Logic.{◌⊎◌, inl, inr}
use mathlib.Core.Option.{none}
use lib.ListN.{length, length-append}
use Rattle.refusals.specs.Numbers.{no_such_stream}
use Rattle.callsigns.specs.Callsign.{callsign}
use Rattle.names.specs.Texts.{stream_id}
use Rattle.keys.specs.declared.Key.{Key}
use Rattle.keys.specs.Key.{key_of, named_of}
use Rattle.places.specs.declared.Held.{Held}
use Rattle.rows.specs.Answer.{Outcome, refuse}
use Rattle.streams.specs.declared.Table.{Table}
use Rattle.streams.specs.Meaning.{row_for}
use Rattle.streams.proofs.Others.{move-others}
use Rattle.streams.proofs.Alone.{named-is}
use Rattle.streams.proofs.Unknown as unknown
use Rattle.image.proofs.Keeps as saved
use Rattle.history.specs.History.{take, force, given_out}
use Rattle.history.specs.Chain.{Call, offer, give, close, asked, Log, Chain}
use Rattle.history.proofs.Counting.{bit_is}
use Rattle.history.proofs.Serves.{as_row, asked-moves}
use Rattle.history.proofs.Demand3.{rules-kept, no-row-no-history}
use Rattle.arrival.specs.Arrival.{Exactly, GaveNothing}
use Rattle.arrival.specs.Workshops.{list_of, with_offer, Allowed, OnFresh, no-row-yet, on-it, on-another, load-refused, AsWritten}
use Rattle.arrival.proofs.Rising.{at_most}
use Rattle.arrival.proofs.Workshops.{refused-or-named}
use Rattle.arrival.proofs.Sentence.{chain-of}

-- a take of a stream that has no row leaves the table as it was, whatever the names
take-leaves : {l : Log} {t : Table} → Chain l t → (o s : List ℕ) (time : ℕ) → row_for (named_of o s).key t ≡ none → (asked t o s (give take time)).after ≡ t
take-leaves {l} {t} x o s time f = go (refused-or-named t o s (give take time) (rules-kept x))
  where
    go : ((n : ℕ) × (asked t o s (give take time) ≡ refuse n t)) ⊎ ((callsign o ≡ true) × (stream_id s ≡ true)) → (asked t o s (give take time)).after ≡ t
    go (inl y) = ap (λ (z : Outcome Table). z.after) y.1
    go (inr (p, q)) =
        ap (λ (z : Outcome Table). z.after)
        (unknown.take-unknown t o s (rules-kept x) p q (subst (λ (k : Key). row_for k t ≡ none) (ap (λ z. z.key) (named-is o s p q)) f) time)

not-empty : (l : List Held) (m : Held) → l ++ (m ∷ []) ≡ [] → ⊥
not-empty l m e = omega (arith, simp length-append at (ap length e))

module _ {k : Key} where
  still-no-row : {l : Log} {t : Table} {m : List Held} → OnFresh k l t m → m ≡ [] → row_for k t ≡ none
  still-no-row (no-row-yet x e) is = e
  still-no-row (on-it {l} {t} {m} y o s c w e a) is = own c a is (λ q. still-no-row y q)
    where
      own : (c : Call) → Allowed c (asked t o s c).answer → with_offer m c ≡ [] → (m ≡ [] → row_for k t ≡ none) → row_for k (asked t o s c).after ≡ none
      own (offer b time) v q f = absurd (not-empty m b q)
      own (give take time) v q f = ap (row_for k) (take-leaves (chain-of y) o s time (sym (as_row k (named_of o s).key t e) ∙ f q)) ∙ f q
      own (give force time) v q f = absurd v
      own close v q f = absurd v
  still-no-row (on-another {l} {t} y o s c w e) is = move-others (asked-moves t o s c w) k e ∙ still-no-row y is
  still-no-row (load-refused {l} {t} y image n e) is = ap (row_for k) (saved.load-refused t image n e) ∙ still-no-row y is

none-offered : (slip : ℕ → ℕ) (l : List Held) → Exactly 0 slip l → l ≡ []
none-offered slip [] e = refl
none-offered slip (m ∷ l) e =
    let z : m.number ≡ 0 = omega (arith, at_most 0 m.number (omega (arith, e.numbers m.number, bit_is m.number m.number refl))) in
    absurd (omega (arith, e.numbers 0, bit_is 0 m.number z))

-- ---- THE THEOREMS

pub nought-is-14 : {l : Log} {t : Table} (o s : List ℕ) → callsign o ≡ true → stream_id s ≡ true → OnFresh (key_of o s) l t [] → (time : ℕ) → asked t o s (give take time) ≡ refuse no_such_stream t
nought-is-14 {l} {t} o s p q x time = unknown.take-unknown t o s (rules-kept (chain-of x)) p q (still-no-row x refl) time

-- and what was given out is the empty list
pub nought-list : {k : Key} {l : Log} {t : Table} → OnFresh k l t [] → list_of k l ≡ []
nought-list {k} x = ap given_out (no-row-no-history (chain-of x) k (still-no-row x refl))

-- so with n = 0 no call ends as the sentence says
pub none-as-written : {k : Key} {slip : ℕ → ℕ} → AsWritten k 0 slip → ⊥
none-as-written {k} {slip} x =
    subst GaveNothing (no-row-no-history (chain-of x.on-fresh) k (still-no-row x.on-fresh (none-offered slip x.offers x.exactly))) x.ends
