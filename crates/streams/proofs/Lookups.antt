-- What stands for a key, by the tests in their order; and the answers of the calls from their parts.
use Rattle.std.specs.Prelude.{Option, Some, None, Result, Ok, Err, if◌then◌else◌}
use Rattle.std.specs.Result.{result_err, result_unwrap_or}
use mathlib.Core.Path.{◌≡◌, refl, sym, ap, ◌∙◌, subst}
use Prim.Native.Nat.{ℕ, ◌<◌}
use native.Mathlib.Omega.{arith}
use mathlib.Core.Bool.{Bool, true, false}
use mathlib.Core.List.{List}
use lib.ListN.{length}
use borrow.Author.Tests.{lt-ltb, eqb-true, ltb-false, ltb-true}
use Rattle.octets.specs.Words.{◌and◌, no, every, ◌<?◌, ◌=?◌}
use Rattle.octets.proofs.Tests.{if_yes, if_no, and_left, and_right, and_both, no_true}
use Rattle.refusals.specs.Numbers.{state_broken, stale, no_such_stream}
use Rattle.keys.specs.declared.Key.{Key}
use Rattle.keys.specs.Key.{Named}
use Rattle.keys.specs.Key.{named_of, named_says, no_key}
use Rattle.refusals.specs.declared.Refusal.{Refusal}
use Rattle.refusals.specs.Refusals.{number_of}
use Rattle.refusals.proofs.Told.{not-0}
use Rattle.rows.specs.declared.Row.{Row}
use Rattle.rows.specs.Answer.{Answer, accepted, refused, Outcome, refuse}
use Rattle.places.specs.declared.Held.{Held}
use Rattle.rows.specs.Stream.{fresh}
use Rattle.rows.specs.Row.{row_of, no_row, offer_of}
use Rattle.streams.specs.Answer.{Sight}
use Rattle.slots.specs.declared.Slot.{Slot}
use Rattle.slots.specs.Slot.{slot_for}
use Rattle.slot_rules.specs.declared.Ruled.{Ruled}
use Rattle.slot_rules.specs.Slots.{place_of, test_of}
use Rattle.lookups.specs.Lookup.{Target}
use Rattle.lookups.specs.Lookup.{target_says, open_at, standing_of, standing_by, known_target, free_in, free_target, offer_target}
use Rattle.streams.specs.declared.Table.{Table}
use Rattle.slot_rules.specs.Slots.{Found}
use Rattle.lookups.specs.Lookup.{Lookup}
use Rattle.streams.specs.Table.{is_free, keeps_slot, has_key, distinct, keeps_table, keeps_slots, first, open_count, slot_at, with_slot}
use Rattle.streams.specs.Calls.{place, look_up, opens, offer_by, offer, row_at}
use Rattle.streams.specs.Steps.{Within}
use Rattle.slot_rules.proofs.Search.{first-bound}
use Rattle.streams.proofs.Places.{place_at, first-place, open-key, not_free}

-- a table that keeps the rules
pub record Kept (t : Table) : Type 0 where
  pub long : length t.slots ≡ 32
  pub each : every keeps_slot t.slots ≡ true
  pub apart : distinct t.slots ≡ true

pub kept : (t : Table) → keeps_table t ≡ true → Kept t
unfolding keeps_slots
kept t e =
    let f = and_right (length t.slots =? 32) _ e in
    record {
      long = eqb-true (length t.slots) 32 (and_left _ _ e);
      each = and_left (every keeps_slot t.slots) _ f;
      apart = and_right (every keeps_slot t.slots) _ f;
    }

-- the offer of slot y's row, put at place i
abbrev pub offer_at : Table → Held → ℕ → ℕ → Slot → Outcome Table
offer_at t m time i y =
    let o = offer_of y.row m time in
    record { answer = o.answer; after = with_slot t i (record { is_open = y.is_open; key = y.key; row = o.after }) }

module _ (t : Table) (named : Named) where
  -- by the tests in their order
  pub by-lookup : (P : Lookup → Type 0) → (keeps_table t ≡ false → P (Lookup.Refused state_broken)) → (0 < named.refusal → P (Lookup.Refused named.refusal))
      → (keeps_table t ≡ true → named.refusal ≡ 0 → P (place (first (has_key named.key) 0 t.slots))) → P (look_up t named)
  unfolding look_up
  by-lookup P a b c = go (keeps_table t) (0 <? named.refusal) refl refl
    where
      go : (k r : Bool) → keeps_table t ≡ k → (0 <? named.refusal) ≡ r
          → P (if no k then Lookup.Refused state_broken else if r then Lookup.Refused named.refusal else place (first (has_key named.key) 0 t.slots))
      go false r e f = a e
      go true true e f = b (ltb-true 0 named.refusal f)
      go true false e f = c e (let z = ltb-false 0 named.refusal f in omega arith)

  -- what stands there: an open row is one of the 32
  abbrev Stands : Lookup → Type 0
  Stands (Lookup.Refused n) = Unit {0}
  Stands (Lookup.Open i) = (i < 32) × ((slot_at t i).is_open ≡ true)
  Stands Lookup.Unknown = length t.slots ≡ 32

  stands : Stands (look_up t named)
  stands = by-lookup Stands (λ k. tt) (λ h. tt) (λ k z. found k (first (has_key named.key) 0 t.slots) refl)
    where
      found : keeps_table t ≡ true → (f : Found) → f ≡ first (has_key named.key) 0 t.slots → Stands (place f)
      found k (Found.At i) q =
          let p = place_at (first-place (has_key named.key) i t.slots q) in
          (omega (arith, (kept t k).long, p.1), open-key named.key (slot_at t i) p.0)
      found k Found.Nothing q = (kept t k).long

  -- the row of a take, a force or a close is one of the 32
  pub known-bound : (i : ℕ) → Target.At i ≡ known_target (look_up t named) → i < 32
  known-bound i e = go (look_up t named) stands e
    where
      go : (l : Lookup) → Stands l → Target.At i ≡ known_target l → i < 32
      go (Lookup.Refused m) w q = let z : ◌≡◌ {A = ℕ} 0 1 = cc in absurd (omega arith)
      go (Lookup.Open j) w q = let z : i ≡ j = cc in omega (arith, w.0)
      go Lookup.Unknown w q = let z : ◌≡◌ {A = ℕ} 0 1 = cc in absurd (omega arith)

  -- ---- an offer, from its target

  abbrev pub free_at : Option ℕ
  free_at = place_of (first is_free 0 t.slots)

  module _ (k : Key) (m : Held) (time : ℕ) where
    abbrev Ends : Target → Outcome Table → Type 0
    Ends (Target.Refused n) o = refuse n t ≡ o
    Ends (Target.At i) o = (i < 32) × (offer_at t m time i (slot_for k (slot_at t i)) ≡ o)

    ends : Ends (offer_target m.number free_at (look_up t named)) (offer_by t k m time (look_up t named))
    ends = go (look_up t named) stands
      where
        into : length t.slots ≡ 32 → (f : Found) → f ≡ first is_free 0 t.slots → Ends (free_target (place_of f)) (opens t k (offer_of (row_of fresh) m time) f)
        into h (Found.At i) q =
            let p = place_at (first-place is_free i t.slots q) in
            let b : i < 32 = omega (arith, h, p.1) in
            rw (lt-ltb i 32 b) (b, ap (offer_at t m time i) (if_no (slot_at t i).is_open (slot_at t i) (record { is_open = true; key = k; row = row_of fresh }) (not_free (slot_at t i).is_open p.0)))
        into h Found.Nothing q = refl

        new : length t.slots ≡ 32 → (b : Bool) → Ends (if b then Target.Refused stale else free_target free_at) (if b then refuse stale t else opens t k (offer_of (row_of fresh) m time) (first is_free 0 t.slots))
        new h true = refl
        new h false = into h (first is_free 0 t.slots) refl

        go : (l : Lookup) → Stands l → Ends (offer_target m.number free_at l) (offer_by t k m time l)
        go (Lookup.Refused n) w = refl
        go (Lookup.Open i) w = (w.0, ap (offer_at t m time i) (if_yes (slot_at t i).is_open (slot_at t i) (record { is_open = true; key = k; row = row_of fresh }) w.1))
        go Lookup.Unknown w = new w (m.number <? 1)

    pub offer-not : (n : ℕ) → Target.Refused n ≡ offer_target m.number free_at (look_up t named) → refuse n t ≡ offer_by t k m time (look_up t named)
    offer-not n e = subst (λ (p : Target). Ends p (offer_by t k m time (look_up t named))) (sym e) ends

    pub offer-at : (i : ℕ) → Target.At i ≡ offer_target m.number free_at (look_up t named) → (i < 32) × (offer_at t m time i (slot_for k (slot_at t i)) ≡ offer_by t k m time (look_up t named))
    offer-at i e = subst (λ (p : Target). Ends p (offer_by t k m time (look_up t named))) (sym e) ends

-- an offer's answer from its parts: what the row's call said, and the table with the row after it
pub on-slot : (t : Table) (m : Held) (time i : ℕ) (x y : Slot) (a : Answer) (r : Row) → x ≡ y → ◌≡◌ {A = Outcome Row} (record { answer = a; after = r }) (offer_of x.row m time)
    → ◌≡◌ {A = Outcome Table} (record { answer = a; after = with_slot t i (record { is_open = x.is_open; key = x.key; row = r }) }) (offer_at t m time i y)
on-slot t m time i x y a r e h =
    ap {B = Outcome Table} (λ (o : Outcome Row). record { answer = o.answer; after = with_slot t i (record { is_open = x.is_open; key = x.key; row = o.after }) }) h ∙ ap (offer_at t m time i) e

-- an offer, from the names
pub offer-by : (t : Table) (o s : List ℕ) (named : Named) → named ≡ named_of o s → (m : Held) (time : ℕ) → offer_by t named.key m time (look_up t named) ≡ offer t o s m time
offer-by t o s named q m time = rw q

-- ---- what the code looked up, from the key that it was given or the refusal of its names

key-or : (n : Result Key Refusal) → result_unwrap_or n no_key ≡ (named_says n).key
key-or (Ok k) = refl
key-or (Err why) = refl

-- a place that was found is one of the 32
found-at : (p : Slot → Bool) (l : List Slot) → length l ≡ 32 → (f : Found) → f ≡ first p 0 l → open_at (place_of f) ≡ place f
found-at p l h (Found.At i) q = if_yes _ _ _ (lt-ltb i 32 (omega (arith, h, first-bound p 0 i l q)))
found-at p l h Found.Nothing q = refl

-- the key that the slots are searched for, and what was found
module _ (t : Table) (n : Result Key Refusal) (d k : Key) (p : d ≡ no_key) (q : k ≡ result_unwrap_or n d) where
  pub asked-key : k ≡ (named_says n).key
  asked-key = q ∙ ap (result_unwrap_or n) p ∙ key-or n

  pub asked : (r : Option Ruled) → r ≡ test_of t.slots k → r ≡ test_of t.slots (named_says n).key
  asked r e = e ∙ ap (test_of t.slots) asked-key

-- a place that was found is one of the 32
pub within-known : (t : Table) (named : Named) (x : Result ℕ Refusal) → target_says x ≡ known_target (look_up t named) → Within x
within-known t named (Ok i) e = known-bound t named i e
within-known t named (Err why) e = tt

-- the number of what refuses the names, 0 where nothing does
abbrev pub number_in : Option Refusal → ℕ
number_in None = 0
number_in (Some why) = number_of why

module _ (t : Table) (named : Named) (refused : Option Refusal) (told : named.refusal ≡ number_in refused) where
  ruled : Option Ruled
  ruled = Some (record { found = place_of (first (has_key named.key) 0 t.slots); free = free_at t named; rows = open_count t.slots })

  -- what the code looked up stands for the key
  pub look_is : (r : Option Ruled) → r ≡ test_of t.slots named.key → standing_of r refused ≡ look_up t named
  unfolding look_up test_of ruled
  look_is r e = ap (λ (r : Option Ruled). standing_of r refused) e ∙ go (keeps_table t) refl refused told
    where
      f : Found
      f = first (has_key named.key) 0 t.slots

      go : (b : Bool) → keeps_table t ≡ b → (x : Option Refusal) → named.refusal ≡ number_in x
          → standing_of (if no b then None else ruled) x ≡ (if no b then Lookup.Refused state_broken else if 0 <? named.refusal then Lookup.Refused named.refusal else place f)
      go false k x q = refl
      go true k None q = rw q (found-at (has_key named.key) t.slots (kept t k).long f refl)
      go true k (Some why) q = rw q (sym (if_yes _ _ _ (lt-ltb 0 (number_of why) (omega (arith, not-0 why)))))

  pub offer-target : (r : Option Ruled) (number : ℕ) → r ≡ test_of t.slots named.key → offer_target number (free_in r) (standing_of r refused) ≡ offer_target number (free_at t named) (look_up t named)
  unfolding test_of ruled
  offer-target r number e = go (keeps_table t) e ∙ ap (offer_target number (free_at t named)) (look_is r e)
    where
      go : (b : Bool) → r ≡ (if no b then None else ruled) → offer_target number (free_in r) (standing_of r refused) ≡ offer_target number (free_at t named) (standing_of r refused)
      go false q = rw q refl
      go true q = rw q refl

-- the same of any number: what the tests came to, a place as a number, 32 for none
abbrev pub place_number : Option ℕ → ℕ
place_number None = 32
place_number (Some i) = i

abbrev pub good_in : Option Ruled → Bool
good_in None = false
good_in (Some r) = true

abbrev pub found_in : Option Ruled → Option ℕ
found_in None = None
found_in (Some r) = r.found

module _ (t : Table) (named : Named) where
  number-at : (p : Slot → Bool) (l : List Slot) → length l ≡ 32 → (f : Found) → f ≡ first p 0 l → open_at (Some (place_number (place_of f))) ≡ place f
  number-at p l h (Found.At i) q = if_yes _ _ _ (lt-ltb i 32 (omega (arith, h, first-bound p 0 i l q)))
  number-at p l h Found.Nothing q = refl

  by_test : Bool → Option Ruled
  by_test b = if no b then None else Some (record { found = place_of (first (has_key named.key) 0 t.slots); free = free_at t named; rows = open_count t.slots })

  pub look_by_number : (r : Option Ruled) → r ≡ test_of t.slots named.key → standing_by (good_in r) named.refusal (place_number (found_in r)) ≡ look_up t named
  unfolding look_up test_of by_test
  look_by_number r e = ap (λ (x : Option Ruled). standing_by (good_in x) named.refusal (place_number (found_in x))) e ∙ go (keeps_table t) refl
    where
      f : Found
      f = first (has_key named.key) 0 t.slots

      go : (b : Bool) → keeps_table t ≡ b
          → standing_by (good_in (by_test b)) named.refusal (place_number (found_in (by_test b))) ≡ (if no b then Lookup.Refused state_broken else if 0 <? named.refusal then Lookup.Refused named.refusal else place f)
      go false k = refl
      go true k = ap (λ (l : Lookup). if 0 <? named.refusal then Lookup.Refused named.refusal else l) (number-at (has_key named.key) t.slots (kept t k).long f refl)

  same-free : (o : Option ℕ) (number : ℕ) (l : Lookup) → offer_target number (Some (place_number o)) l ≡ offer_target number o l
  same-free None number (Lookup.Refused n) = refl
  same-free None number (Lookup.Open i) = refl
  same-free None number Lookup.Unknown = refl
  same-free (Some i) number l = refl

  pub offer_by_number : (r : Option Ruled) (number : ℕ) → r ≡ test_of t.slots named.key
      → offer_target number (Some (place_number (free_in r))) (standing_by (good_in r) named.refusal (place_number (found_in r))) ≡ offer_target number (free_at t named) (look_up t named)
  unfolding test_of by_test
  offer_by_number r number e = go (keeps_table t) e ∙ ap (offer_target number (free_at t named)) (look_by_number r e)
    where
      l : Lookup
      l = standing_by (good_in r) named.refusal (place_number (found_in r))

      go : (b : Bool) → r ≡ by_test b → offer_target number (Some (place_number (free_in r))) l ≡ offer_target number (free_at t named) l
      go false q = rw q refl
      go true q = ap (λ (x : Option Ruled). offer_target number (Some (place_number (free_in x))) l) q ∙ same-free (free_at t named) number l

  -- ---- a take, a force or a close, from its target

  -- the target is an open row, or the call is refused
  module _ (f : Lookup → Outcome Table) (a : (n : ℕ) → f (Lookup.Refused n) ≡ refuse n t) (u : f Lookup.Unknown ≡ refuse no_such_stream t) where
    refused-by : (l : Lookup) (n : ℕ) → Target.Refused n ≡ known_target l → refuse n t ≡ f l
    refused-by (Lookup.Refused m) n e = let z : n ≡ m = cc in rw z (sym (a m))
    refused-by (Lookup.Open i) n e = let z : ◌≡◌ {A = ℕ} 0 1 = cc in absurd (omega arith)
    refused-by Lookup.Unknown n e = let z : n ≡ no_such_stream = cc in rw z (sym u)

    pub not_known : (n : ℕ) → Target.Refused n ≡ known_target (look_up t named) → refuse n t ≡ f (look_up t named)
    not_known = refused-by (look_up t named)

    open_by : (l : Lookup) (i : ℕ) → Target.At i ≡ known_target l → Lookup.Open i ≡ l
    open_by (Lookup.Refused m) i e = let z : ◌≡◌ {A = ℕ} 0 1 = cc in absurd (omega arith)
    open_by (Lookup.Open j) i e = let z : i ≡ j = cc in ap Lookup.Open z
    open_by Lookup.Unknown i e = let z : ◌≡◌ {A = ℕ} 0 1 = cc in absurd (omega arith)

    pub is_known : (i : ℕ) → Target.At i ≡ known_target (look_up t named) → f (Lookup.Open i) ≡ f (look_up t named)
    is_known i e = ap f (open_by (look_up t named) i e)

said : (n : Result Key Refusal) → (named_says n).refusal ≡ number_in (result_err n)
said (Ok k) = refl
said (Err why) = refl

-- the same, of what `keys::name` answered
module _ (t : Table) (n : Result Key Refusal) (r : Option Ruled) (test-key : r ≡ test_of t.slots (named_says n).key) where
  pub look-said : standing_of r (result_err n) ≡ look_up t (named_says n)
  look-said = look_is t (named_says n) (result_err n) (said n) r test-key

  pub known_is : known_target (standing_of r (result_err n)) ≡ known_target (look_up t (named_says n))
  known_is = ap known_target look-said

  pub offer-said : (number : ℕ) → offer_target number (free_in r) (standing_of r (result_err n)) ≡ offer_target number (free_at t (named_says n)) (look_up t (named_says n))
  offer-said number = offer-target t (named_says n) (result_err n) (said n) r number test-key

-- ---- 40, or how many rows are open

module _ (t : Table) (k : Key) where
  is : Bool → Option Ruled
  is b = if no b then None else Some (record { found = place_of (first (has_key k) 0 t.slots); free = place_of (first is_free 0 t.slots); rows = open_count t.slots })

  pub test_broken : None ≡ test_of t.slots k → keeps_table t ≡ false
  unfolding test_of is
  test_broken e = go (keeps_table t) refl
    where
      go : (b : Bool) → keeps_table t ≡ b → keeps_table t ≡ false
      go false q = q
      go true q = let z : None ≡ is true = e ∙ ap is q in cc

  pub test_good : (r : Ruled) → Some r ≡ test_of t.slots k → keeps_table t ≡ true
  unfolding test_of is
  test_good r e = go (keeps_table t) refl
    where
      go : (b : Bool) → keeps_table t ≡ b → keeps_table t ≡ true
      go true q = q
      go false q = let z : Some r ≡ is false = e ∙ ap is q in cc

  pub test-rows : (r : Ruled) → Some r ≡ test_of t.slots k → r.rows ≡ open_count t.slots
  unfolding test_of is
  test-rows r e = let z : Some r ≡ is true = e ∙ ap is (test_good r e) in ap rows z
    where
      rows : Option Ruled → ℕ
      rows None = 0
      rows (Some x) = x.rows

-- ---- row i

module _ (t : Table) (i : ℕ) where
  pub shown-open : (x : Slot) → keeps_table t ≡ true → i < 32 → x ≡ slot_at t i → x.is_open ≡ true → ◌≡◌ {A = Sight} (record { answer = accepted; key = x.key; row = x.row }) (row_at t i)
  unfolding row_at
  shown-open x k b e o =
      ap {B = Sight} (λ (y : Slot). record { answer = accepted; key = y.key; row = y.row }) e
      ∙ sym (if_no _ _ _ (no_true _ k) ∙ if_yes _ _ _ (and_both _ _ (lt-ltb _ _ b) (sym (ap (λ (y : Slot). y.is_open) e) ∙ o)))

  pub shown-none : keeps_table t ≡ true → (i <? 32 and (slot_at t i).is_open) ≡ false → ◌≡◌ {A = Sight} (record { answer = refused no_such_stream; key = no_key; row = no_row }) (row_at t i)
  unfolding row_at
  shown-none k e = sym (if_no _ _ _ (no_true _ k) ∙ if_no _ _ _ e)
