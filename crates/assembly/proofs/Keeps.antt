-- THEOREM: every call returns groups that keep the rules, if it is handed such.
use Rattle.std.specs.Prelude.{if◌then◌else◌}
use mathlib.Core.Path.{◌≡◌, refl, ◌∙◌}
use Prim.Native.Nat.{ℕ, ◌-◌}
use mathlib.Core.Bool.{Bool, true, false}
use mathlib.Core.List.{List, [], ◌∷◌, map}
use lib.ListN.{length, set, length-set, length-map}
use borrow.Author.Tests.{eq-eqb}
use Rattle.octets.specs.Words.{◌and◌, no, every, some, ◌≤?◌}
use Rattle.octets.proofs.Tests.{and_left, and_right, and_both, true-not-false}
use Rattle.refusals.specs.Numbers.{state_broken}
use Rattle.groupkeys.specs.declared.Key.{Key}
use Rattle.std.specs.Prelude.{Option, Result}
use Rattle.refusals.specs.declared.Refusal.{Refusal}
use Rattle.groupkeys.specs.declared.Key.{Key}
use Rattle.groups.specs.declared.Group.{Group}
use Rattle.groups.specs.declared.Groups.{Groups}
use Rattle.field_rules.specs.Rules.{id_in}
use Rattle.groupkeys.specs.Key.{keeps_key, key_in, named_of}
use Rattle.groups.specs.Groups.{free_group, has_key, complete, keeps_piece, keeps_group, keeps_groups, twice, distinct, group_at, with_group, empty}
use Rattle.groupcalls.specs.declared.Fragment.{Fragment}
use Rattle.groupcalls.specs.Answer.{Outcome, swept, refuse}
use Rattle.groupcalls.specs.Calls.{with_fragment, new_group, add, collect, swept_group, sweep}
use Rattle.groupcalls.proofs.Tests.{Kept, kept, pieces_kept, group-kept}
use Rattle.groupcalls.proofs.Moves.{Move, joining, opening, add-moves, Taking, taking, collect-takes, not_free}
use Rattle.assembly.specs.History.{Call, adding, collecting, sweeping, House, named, fragment, after}
use Rattle.assembly.proofs.Rules.{or-false, no-is, every_set, distinct-less, distinct-new, with-keeps, key-kept, open-key, free-keeps, named-keeps, twice-less, twice-now, free-key, NoMore}

set_keeps : (t : Groups) (g : ℕ) (y : Group) → Kept t → keeps_group y ≡ true → distinct (set t.items g y) ≡ true → keeps_groups (with_group t g y) ≡ true
unfolding keeps_groups
set_keeps t g y k e d = and_both _ _ (eq-eqb _ _ (length-set t.items g y ∙ k.long)) (and_both _ _ (every_set keeps_group t.items g y k.each e) d)

pub empty-keeps : keeps_groups empty ≡ true
unfolding keeps_groups keeps_group keeps_piece keeps_key id_in
empty-keeps = refl

pub add-keeps : (t : Groups) (size : ℕ) (o : Option (List ℕ)) (master : ℕ) (f : Fragment) → keeps_groups t ≡ true → keeps_groups (add t size (named_of o master) f).after ≡ true
unfolding keeps_piece
add-keeps t size o master f e = go (add t size (named_of o master) f) (add-moves t size (named_of o master) f)
  where
    go : (x : Outcome) → Move t size (named_of o master) f x → keeps_groups x.after ≡ true
    go x (Move.refusing n) = e
    go x (joining {g} k z r b u v w) =
        let y = group_at t g in
        let s = group-kept t k g b in
        set_keeps t g (with_fragment y f) k (with-keeps y f r (open-key _ y u) v (pieces_kept y s).0 (pieces_kept y s).1 (key-kept y s)) (distinct-less t.items g (with_fragment y f) k.apart (λ q. (q, refl)))
    go x (opening {g} k z r b u v w) =
        let y = new_group (key_in (named_of o master)) f in
        set_keeps t g (with_fragment y f) k (with-keeps y f r refl refl refl refl (named-keeps o master w)) (distinct-new t.items g (with_fragment y f) k.apart v)

pub collect-keeps : (t : Groups) (size : ℕ) (named : Result Key Refusal) (room : ℕ) → keeps_groups t ≡ true → keeps_groups (collect t size named room).after ≡ true
collect-keeps t size named room e = go (collect t size named room) (collect-takes t size named room)
  where
    go : (x : Outcome) → Taking t size named room x → keeps_groups x.after ≡ true
    go x (Taking.refusing n) = e
    go x (taking {g} k s r b u v w) = set_keeps t g free_group k free-keeps (distinct-less t.items g free_group k.apart (λ q. true-not-false false q refl))

-- a sweep leaves a group or frees it
module _ (time : ℕ) where
  by-sweep : (P : Group → Type 0) (x : Group) → P free_group → P x → P (swept_group time x)
  unfolding swept_group
  by-sweep P x a b = go (x.is_open and no (complete x) and 604800 ≤? time - x.began)
    where
      go : (c : Bool) → P (if c then free_group else x)
      go true = a
      go false = b

  each-swept : (l : List Group) → every keeps_group l ≡ true → every keeps_group (map (swept_group time) l) ≡ true
  each-swept [] e = refl
  each-swept (x ∷ l) e =
      and_both _ _ (by-sweep (λ (y : Group). keeps_group y ≡ true) x free-keeps (and_left (keeps_group x) _ e)) (each-swept l (and_right (keeps_group x) _ e))

  some-swept : (k : Key) (l : List Group) → some (has_key k) l ≡ false → some (has_key k) (map (swept_group time) l) ≡ false
  some-swept k [] e = refl
  some-swept k (x ∷ l) e =
      let h : has_key k (swept_group time x) ≡ false = by-sweep (λ (y : Group). has_key k y ≡ false) x (free-key k free_group refl) (or-false (has_key k x) _ e).0 in
      rw h (some-swept k l (or-false (has_key k x) _ e).1)

  distinct-swept : (l : List Group) → distinct l ≡ true → distinct (map (swept_group time) l) ≡ true
  distinct-swept [] e = refl
  distinct-swept (x ∷ l) e =
      let t = twice-less x l (map (swept_group time) l) (some-swept x.key l) (not_free _ (and_left (no (twice x l)) _ e)) in
      let c : NoMore x (swept_group time x) = by-sweep (λ (y : Group). NoMore x y) x (λ q. true-not-false false q refl) (λ q. (q, refl)) in
      and_both _ _ (no-is _ (twice-now x (swept_group time x) (map (swept_group time) l) c t)) (distinct-swept l (and_right (no (twice x l)) _ e))

  swept_keeps : (t : Groups) → Kept t → keeps_groups (record { items = map (swept_group time) t.items }) ≡ true
  unfolding keeps_groups
  swept_keeps t k =
      and_both _ _ (eq-eqb _ _ (length-map t.items (swept_group time) ∙ k.long)) (and_both _ _ (each-swept t.items k.each) (distinct-swept t.items k.apart))

  pub sweep-keeps : (t : Groups) → keeps_groups t ≡ true → keeps_groups (sweep t time).after ≡ true
  unfolding sweep
  sweep-keeps t e = go (keeps_groups t)
    where
      go : (b : Bool) → keeps_groups (if no b then refuse state_broken t else record { answer = swept; after = record { items = map (swept_group time) t.items } }).after ≡ true
      go false = e
      go true = swept_keeps t (kept t e)

-- ---- the theorem, of any call

pub call-keeps : (w : House) (c : Call) → keeps_groups w.groups ≡ true → keeps_groups (after w c).groups ≡ true
call-keeps w (adding a f) e = add-keeps w.groups (length w.store) a.originator a.master (fragment f) e
call-keeps w (collecting a out) e = collect-keeps w.groups (length w.store) (named a) (length out) e
call-keeps w (sweeping time) e = sweep-keeps time w.groups e
