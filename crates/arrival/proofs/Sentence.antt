-- DOCUMENT 02'S SENTENCE: a workshop as it is written there accepted all that it was offered since its row was fresh, so it is a workshop of the
-- theorem of any two chains.
use Prim.Native.Nat.{ℕ}
use mathlib.Core.Path.{◌≡◌, refl, ap, ◌∙◌, subst, sym}
use mathlib.Core.List.{List}
use Rattle.octets.proofs.Tests.{if_yes, if_no}
use Rattle.keys.specs.declared.Key.{Key}
use Rattle.places.specs.declared.Held.{Held}
use Rattle.rows.specs.Answer.{Answer, accepted, given, nothing, refused}
use Rattle.streams.specs.declared.Table.{Table}
use Rattle.history.specs.History.{take, force, History, taken_in}
use Rattle.history.specs.Chain.{Call, offer, give, close, asked, Log, noted, mine, Chain, asks, loads-none}
use Rattle.arrival.specs.Arrival.{Exactly}
use Rattle.arrival.specs.Workshops.{Workshop, OneList, with_offer, Allowed, OnFresh, no-row-yet, on-it, on-another, load-refused, AsWritten}
use Rattle.history.proofs.Demand3.{no-row-no-history}
use Rattle.arrival.proofs.Workshops.{one_list}

-- an allowed call adds to what is taken in exactly the message that it offers
adds : (h : History) (c : Call) (a : Answer) → Allowed c a → taken_in (noted h c a) ≡ with_offer (taken_in h) c
adds h (offer m time) a w = rw w.1 refl
adds h (give take time) accepted w = refl
adds h (give take time) (given n slip) w = refl
adds h (give take time) nothing w = refl
adds h (give take time) (refused n) w = refl
adds h (give force time) a w = absurd w
adds h close a w = absurd w

module _ {k : Key} where
  pub chain-of : {l : Log} {t : Table} {m : List Held} → OnFresh k l t m → Chain l t
  chain-of (no-row-yet x e) = x
  chain-of (on-it y o s c w e a) = asks (chain-of y) o s c w
  chain-of (on-another y o s c w e) = asks (chain-of y) o s c w
  chain-of (load-refused y image n e) = loads-none (chain-of y) image n e

  -- so what was offered is what was accepted
  pub all-taken-in : {l : Log} {t : Table} {m : List Held} → OnFresh k l t m → taken_in (mine k l) ≡ m
  all-taken-in (no-row-yet x e) = ap taken_in (no-row-no-history x k e)
  all-taken-in (on-it {l} {t} y o s c w e a) = ap taken_in (if_yes _ _ _ e) ∙ adds (mine k l) c (asked t o s c).answer a ∙ ap (λ (z : List Held). with_offer z c) (all-taken-in y)
  all-taken-in (on-another y o s c w e) = ap taken_in (if_no _ _ _ e) ∙ all-taken-in y
  all-taken-in (load-refused y image n e) = all-taken-in y

  abbrev pub as-workshop : {n : ℕ} {slip : ℕ → ℕ} → AsWritten k n slip → Workshop k n slip
  as-workshop {n} {slip} x =
      record { log = x.log; table = x.table; chain = chain-of x.on-fresh; exactly = subst (Exactly n slip) (sym (all-taken-in x.on-fresh)) x.exactly; ends = x.ends }

  -- ---- THE COROLLARY

  pub as_written : {n : ℕ} {slip : ℕ → ℕ} (here there : AsWritten k n slip) → OneList k n slip here.log there.log
  as_written here there = one_list (record { here = as-workshop here; there = as-workshop there })
