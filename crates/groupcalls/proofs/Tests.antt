-- What the tests of each call come to: the gate that add and collect share, the ranges of a fragment, the group that was found.
use Rattle.std.specs.Prelude.{if◌then◌else◌}
use mathlib.Core.Path.{◌≡◌, refl, sym, ap, ◌∙◌}
use Prim.Native.Nat.{ℕ, ◌≤◌, ◌<◌}
use native.Mathlib.Omega.{arith}
use mathlib.Core.Bool.{Bool, true, false}
use lib.ListN.{length}
use borrow.Author.Tests.{lt-ltb, le-ltb, ltb-true, ltb-false, leb-true, eqb-true}
use Rattle.octets.specs.Words.{no, every, between, ◌<?◌, ◌=?◌}
use Rattle.octets.proofs.Tests.{if_yes, if_no, and_left, and_right, inside-low, inside-high}
use Rattle.octets.proofs.Lists.{every-at}
use Rattle.refusals.specs.Numbers.{state_broken, store_length, fragment_malformed}
use Rattle.groupkeys.specs.declared.Key.{Key}
use Rattle.groupkeys.specs.Key.{key_in}
use Rattle.std.specs.Prelude.{Option, Result, Ok, position}
use Rattle.refusals.specs.declared.Refusal.{Refusal}
use Rattle.refusals.specs.Refusals.{number_of, refusal_in}
use Rattle.refusals.proofs.Told.{not-0}
use Rattle.groups.specs.declared.Group.{Group}
use Rattle.groups.specs.declared.Groups.{Groups}
use Rattle.groups.specs.Groups.{place, store_size, has_key, keeps_pieces, keeps_group, keeps_groups, distinct, past_group, group_at}
use Rattle.fragment_refusals.specs.Order.{fragment_ranged}
use Rattle.groupcalls.specs.declared.Fragment.{Fragment}
use Rattle.groupcalls.specs.Answer.{refuse}
use Rattle.groupcalls.specs.Calls.{gate, in_range, add_by, add, collect_by, collect}

-- ---- a fragment in its ranges

pub record Ranged (f : Fragment) : Type 0 where
  pub least : 2 ≤ f.total
  pub most : f.total ≤ 16
  pub from : 1 ≤ f.number
  pub to : f.number ≤ f.total
  pub size : f.len ≤ place

pub ranged : (f : Fragment) → in_range f ≡ true → Ranged f
unfolding fragment_ranged
ranged f e =
    let a = and_left (between 2 16 f.total) _ e in
    let r = and_right (between 2 16 f.total) _ e in
    let b = and_left (between 1 f.total f.number) _ r in
    record {
      least = inside-low 2 16 f.total a;
      most = inside-high 2 16 f.total a;
      from = inside-low 1 f.total f.number b;
      to = inside-high 1 f.total f.number b;
      size = leb-true f.len place (and_right (between 1 f.total f.number) _ r);
    }

-- ---- groups that keep the rules

pub record Kept (t : Groups) : Type 0 where
  pub long : length t.items ≡ 4
  pub each : every keeps_group t.items ≡ true
  pub apart : distinct t.items ≡ true

pub kept : (t : Groups) → keeps_groups t ≡ true → Kept t
unfolding keeps_groups
kept t e =
    let f = and_right (length t.items =? 4) _ e in
    record {
      long = eqb-true (length t.items) 4 (and_left _ _ e);
      each = and_left (every keeps_group t.items) _ f;
      apart = and_right (every keeps_group t.items) _ f;
    }

pub pieces_kept : (x : Group) → keeps_group x ≡ true → (length x.pieces ≡ 16) × (keeps_pieces x.total 0 x.pieces ≡ true)
unfolding keeps_group
pieces_kept x e =
    let r = and_right (length x.pieces =? 16) _ e in
    (eqb-true (length x.pieces) 16 (and_left _ _ e), and_left (keeps_pieces x.total 0 x.pieces) _ r)

pub group-kept : (t : Groups) → Kept t → (g : ℕ) → g < 4 → keeps_group (group_at t g) ≡ true
group-kept t k g h = every-at keeps_group t.items g past_group k.each (omega (arith, k.long))

-- ---- the gate

-- a refusal has a number above 0
pub above-0 : (r : Refusal) → 0 < number_of r
above-0 r = omega (arith, not-0 r)

pub record Passed (t : Groups) (size : ℕ) (named : Result Key Refusal) (r : Bool) : Type 0 where
  pub keeps : keeps_groups t ≡ true
  pub sized : size ≡ store_size
  pub known : refusal_in named ≡ 0
  pub inside : r ≡ true

pub passed : (t : Groups) (size : ℕ) (named : Result Key Refusal) (r : Bool) → gate t size named r ≡ 0 → Passed t size named r
unfolding gate
passed t size named r e = go (keeps_groups t) (size =? store_size) (0 <? refusal_in named) r refl refl refl refl e
  where
    go : (a b c d : Bool) → keeps_groups t ≡ a → (size =? store_size) ≡ b → (0 <? refusal_in named) ≡ c → r ≡ d
        → (if no a then state_broken else if no b then store_length else if c then refusal_in named else if no d then fragment_malformed else 0) ≡ 0 → Passed t size named r
    go false b c d p q s u z = absurd (omega arith)
    go true false c d p q s u z = absurd (omega arith)
    go true true true d p q s u z = absurd (omega (arith, ltb-true 0 (refusal_in named) s))
    go true true false false p q s u z = absurd (omega arith)
    go true true false true p q s u z = record { keeps = p; sized = eqb-true size store_size q; known = omega (arith, ltb-false 0 (refusal_in named) s); inside = u }

-- past the gate the groups are 4
pub gate-long : (t : Groups) (size : ℕ) (named : Result Key Refusal) (r : Bool) (n : ℕ) → n ≡ gate t size named r → n ≤ 0 → length t.items ≡ 4
gate-long t size named r n e h = (kept t (passed t size named r (omega (arith, e))).keeps).long

-- ---- add, from what the code found

module _ (t : Groups) (size : ℕ) (named : Result Key Refusal) (f : Fragment) (r : Bool) (n : ℕ) (q : r ≡ in_range f) (e : n ≡ gate t size named r) where
  from-gate : n ≡ gate t size named (in_range f)
  from-gate = e ∙ ap (gate t size named) q

  pub add-refused : 0 < n → refuse n t ≡ add t size named f
  unfolding add
  add-refused h =
      let z : 0 < gate t size named (in_range f) = omega (arith, from-gate) in
      ap (λ (m : ℕ). refuse m t) from-gate ∙ sym (if_yes _ _ _ (lt-ltb _ _ z))

  pub add-passed : n ≤ 0 → (k : Key) → named ≡ Ok k → (x : Option ℕ) → x ≡ position (has_key k) t.items → add_by t k f x ≡ add t size named f
  unfolding add
  add-passed h k o x p =
      let z : gate t size named (in_range f) ≤ 0 = omega (arith, from-gate) in
      ap (add_by t k f) p
      ∙ ap (λ (m : Result Key Refusal). add_by t (key_in m) f (position (has_key (key_in m)) t.items)) (sym o)
      ∙ sym (if_no _ _ _ (le-ltb _ _ z))

  pub add-ranged : n ≤ 0 → in_range f ≡ true
  add-ranged h = sym q ∙ (passed t size named r (omega (arith, e))).inside

-- ---- collect, from what the code found

module _ (t : Groups) (size : ℕ) (named : Result Key Refusal) (room n : ℕ) (e : n ≡ gate t size named true) where
  pub collect-refused : 0 < n → refuse n t ≡ collect t size named room
  unfolding collect
  collect-refused h =
      let z : 0 < gate t size named true = omega (arith, e) in
      ap (λ (m : ℕ). refuse m t) e ∙ sym (if_yes _ _ _ (lt-ltb _ _ z))

  pub collect-passed : n ≤ 0 → (k : Key) → named ≡ Ok k → (x : Option ℕ) → x ≡ position (has_key k) t.items → collect_by t room x ≡ collect t size named room
  unfolding collect
  collect-passed h k o x p =
      let z : gate t size named true ≤ 0 = omega (arith, e) in
      ap (collect_by t room) p
      ∙ ap (λ (m : Result Key Refusal). collect_by t room (position (has_key (key_in m)) t.items)) (sym o)
      ∙ sym (if_no _ _ _ (le-ltb _ _ z))
