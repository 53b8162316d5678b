-- Laws of the rules that the groups keep: distinct keys after a group is set, a group with one fragment more, the key of good names.
use Rattle.std.specs.Prelude.{if◌then◌else◌}
use mathlib.Core.Path.{◌≡◌, refl, sym, ◌∙◌}
use Prim.Native.Nat.{ℕ, zero, suc, ◌+◌, ◌-◌, ◌≤◌, ◌<◌}
use native.Mathlib.Omega.{arith}
use mathlib.Core.Bool.{Bool, true, false}
use mathlib.Core.List.{List, [], ◌∷◌}
use lib.ListN.{length, get_or, set, length-set}
use borrow.Author.Tests.{eq-eqb, lt-ltb, le-leb}
use Rattle.octets.specs.Words.{◌and◌, ◌or◌, no, every, some, between, ◌=?◌}
use Rattle.octets.proofs.Tests.{if_yes, and_left, and_right, and_both, and-next, true-not-false, inside, inside-low, inside-high}
use Rattle.groupkeys.specs.declared.Key.{Key}
use Rattle.std.specs.Prelude.{Option, Result, Ok, Err}
use Rattle.refusals.specs.declared.Refusal.{Refusal}
use Rattle.refusals.specs.Refusals.{refusal_in}
use Rattle.groups.specs.declared.Piece.{Piece}
use Rattle.groups.specs.declared.Group.{Group}
use Rattle.field_rules.specs.Rules.{id_in}
use Rattle.groupkeys.specs.Key.{same_key, is_originator, is_master, key_of, key_in, keeps_key, named_of}
use Rattle.groups.specs.Groups.{place, is_held, free_group, has_key, keeps_piece, keeps_pieces, keeps_group, twice, distinct, past_group}
use Rattle.groupkeys.proofs.Names.{key-keeps}
use Rattle.groupkeys.proofs.SameKey.{same_key-sym}
use Rattle.groupcalls.specs.declared.Fragment.{Fragment}
use Rattle.groupcalls.specs.Calls.{with_fragment}
use Rattle.groupcalls.proofs.Tests.{Ranged}
use Rattle.groupcalls.proofs.Moves.{not_free}

-- ---- tests of every group, and of some group, after one is set

pub or-false : (a b : Bool) → a or b ≡ false → (a ≡ false) × (b ≡ false)
or-false true b e = true-not-false true refl e
or-false false b e = (refl, e)

pub no-is : (b : Bool) → b ≡ false → no b ≡ true
no-is b e = rw e

pub every_set : (p : Group → Bool) (l : List Group) (i : ℕ) (y : Group) → every p l ≡ true → p y ≡ true → every p (set l i y) ≡ true
every_set p [] i y e q = refl
every_set p (x ∷ l) zero y e q = and_both _ _ q (and_right (p x) _ e)
every_set p (x ∷ l) (suc i) y e q = and_both _ _ (and_left (p x) _ e) (every_set p l i y (and_right (p x) _ e) q)

-- ---- distinct keys after a group is set: the new one y claims no key that another has

some-set : (p : Group → Bool) (l : List Group) (i : ℕ) (y : Group) → some p l ≡ false → p y ≡ false → some p (set l i y) ≡ false
some-set p [] i y e q = refl
some-set p (x ∷ l) zero y e q = rw (q, (or-false (p x) _ e).1)
some-set p (x ∷ l) (suc i) y e q = rw (or-false (p x) _ e).0 (some-set p l i y (or-false (p x) _ e).1 q)

pub some_at : (p : Group → Bool) (l : List Group) (i : ℕ) → some p l ≡ false → p past_group ≡ false → p (get_or l i past_group) ≡ false
some_at p [] i e d = d
some_at p (x ∷ l) zero e d = (or-false (p x) _ e).0
some_at p (x ∷ l) (suc i) e d = some_at p l i (or-false (p x) _ e).1 d

pub free-key : (k : Key) (x : Group) → x.is_open ≡ false → has_key k x ≡ false
unfolding has_key
free-key k x e = rw e

-- the new group y claims no key that the group x before it did not claim
abbrev pub NoMore : Group → Group → Type 0
NoMore x y = y.is_open ≡ true → (x.is_open ≡ true) × (x.key ≡ y.key)

more-key : (k : Key) (x y : Group) → NoMore x y → has_key k x ≡ false → has_key k y ≡ false
unfolding has_key
more-key k x y c e = go y.is_open refl
  where
    go : (b : Bool) → y.is_open ≡ b → (y.is_open and same_key k y.key) ≡ false
    go false q = rw q
    go true q =
        let w = c q in
        let n : same_key k x.key ≡ false = sym (and-next x.is_open _ w.0) ∙ e in
        let m : same_key k y.key ≡ false = rw (← w.1) n in
        and-next y.is_open _ q ∙ m

pub twice-less : (x : Group) (l m : List Group) → (some (has_key x.key) l ≡ false → some (has_key x.key) m ≡ false) → twice x l ≡ false → twice x m ≡ false
twice-less x l m f e = go x.is_open e
  where
    go : (b : Bool) → b and some (has_key x.key) l ≡ false → b and some (has_key x.key) m ≡ false
    go true q = f q
    go false q = refl

-- a group y in the place of x: its key in the rest
pub twice-now : (x y : Group) (l : List Group) → NoMore x y → twice x l ≡ false → twice y l ≡ false
twice-now x y l c t = go y.is_open refl
  where
    go : (b : Bool) → y.is_open ≡ b → twice y l ≡ false
    go false q = rw q
    go true q =
        let w = c q in
        let s : some (has_key x.key) l ≡ false = sym (and-next x.is_open _ w.0) ∙ t in
        let u : some (has_key y.key) l ≡ false = rw (← w.1) s in
        and-next y.is_open _ q ∙ u

pub distinct-less : (l : List Group) (i : ℕ) (y : Group) → distinct l ≡ true → NoMore (get_or l i past_group) y → distinct (set l i y) ≡ true
distinct-less [] i y e c = refl
distinct-less (x ∷ l) zero y e c = and_both _ _ (no-is _ (twice-now x y l c (not_free _ (and_left (no (twice x l)) _ e)))) (and_right (no (twice x l)) _ e)
distinct-less (x ∷ l) (suc i) y e c =
    and_both _ _
    (no-is _ (twice-less x l (set l i y) (λ s. some-set (has_key x.key) l i y s (more-key x.key (get_or l i past_group) y c (some_at (has_key x.key) l i s (free-key x.key past_group refl)))) (not_free _ (and_left (no (twice x l)) _ e))))
    (distinct-less l i y (and_right (no (twice x l)) _ e) c)

-- a group that has not y's key is not had by y's
other_key : (x y : Group) → x.is_open ≡ true → has_key y.key x ≡ false → has_key x.key y ≡ false
unfolding has_key
other_key x y q n = flip (same_key x.key y.key) refl
  where
    flip : (b : Bool) → same_key x.key y.key ≡ b → (y.is_open and same_key x.key y.key) ≡ false
    flip true z = true-not-false (x.is_open and same_key y.key x.key) (and_both _ _ q (same_key-sym x.key y.key z)) n
    flip false z = rw z (go y.is_open)
      where
        go : (b : Bool) → b and false ≡ false
        go true = refl
        go false = refl

-- a key that no group has may stand in any
pub distinct-new : (l : List Group) (i : ℕ) (y : Group) → distinct l ≡ true → some (has_key y.key) l ≡ false → distinct (set l i y) ≡ true
distinct-new [] i y e n = refl
distinct-new (x ∷ l) zero y e n = and_both _ _ (no-is _ (go y.is_open)) (and_right (no (twice x l)) _ e)
  where
    go : (b : Bool) → b and some (has_key y.key) l ≡ false
    go true = (or-false (has_key y.key x) _ n).1
    go false = refl
distinct-new (x ∷ l) (suc i) y e n =
    and_both _ _ (no-is _ (go x.is_open refl)) (distinct-new l i y (and_right (no (twice x l)) _ e) (or-false (has_key y.key x) _ n).1)
  where
    go : (b : Bool) → x.is_open ≡ b → twice x (set l i y) ≡ false
    go false q = rw q
    go true q =
        let t : twice x l ≡ false = not_free _ (and_left (no (twice x l)) _ e) in
        let s : some (has_key x.key) l ≡ false = sym (and-next x.is_open _ q) ∙ t in
        and-next x.is_open _ q ∙ some-set (has_key x.key) l i y s (other_key x y q (or-false (has_key y.key x) _ n).0)

-- ---- a group with one fragment more

pieces-set : (total n i m : ℕ) (l : List Piece) (p : Piece) → m ≡ n + i → keeps_pieces total n l ≡ true → keeps_piece total m p ≡ true → keeps_pieces total n (set l i p) ≡ true
pieces-set total n i m [] p q e k = refl
pieces-set total n zero m (x ∷ l) p q e k =
    let z : m ≡ n = omega arith in
    let j : keeps_piece total n p ≡ true = rw (← z) k in
    and_both _ _ j (and_right (keeps_piece total n x) _ e)
pieces-set total n (suc i) m (x ∷ l) p q e k =
    and_both _ _ (and_left (keeps_piece total n x) _ e) (pieces-set total (n + 1) i m l p (omega arith) (and_right (keeps_piece total n x) _ e) k)

held-set : (l : List Piece) (i : ℕ) (p : Piece) → i < length l → p.held ≡ true → some is_held (set l i p) ≡ true
held-set [] i p h e = absurd (omega arith)
held-set (x ∷ l) zero p h e = rw e
held-set (x ∷ l) (suc i) p h e = go x.held (held-set l i p (omega arith) e)
  where
    go : (b : Bool) → some is_held (set l i p) ≡ true → b or some is_held (set l i p) ≡ true
    go true q = refl
    go false q = q

-- M is that of the group, which is open and has its rules but for a fragment held
pub with-keeps : (x : Group) (f : Fragment) → Ranged f → x.is_open ≡ true → x.total ≡ f.total → length x.pieces ≡ 16 → keeps_pieces x.total 0 x.pieces ≡ true → keeps_key x.key ≡ true
    → keeps_group (with_fragment x f) ≡ true
unfolding keeps_group keeps_piece
with-keeps x f r u m l k a =
    let p : Piece = record { held = true; len = f.len } in
    and_both _ _ (eq-eqb _ _ (length-set x.pieces (f.number - 1) p ∙ l))
    (and_both _ _ (pieces-set x.total 0 (f.number - 1) (f.number - 1) x.pieces p (omega arith) k (and_both _ _ (lt-ltb (f.number - 1) x.total (omega arith)) (le-leb f.len place r.size)))
    (and_both _ _ a (if_yes _ _ _ u ∙ and_both _ _ (inside 2 16 x.total (omega arith) (omega arith)) (held-set x.pieces (f.number - 1) p (omega arith) refl))))

pub key-kept : (x : Group) → keeps_group x ≡ true → keeps_key x.key ≡ true
unfolding keeps_group
key-kept x e = and_left (keeps_key x.key) _ (and_right (keeps_pieces x.total 0 x.pieces) _ (and_right (length x.pieces =? 16) _ e))

-- M of an open group
pub total_kept : (x : Group) → keeps_group x ≡ true → x.is_open ≡ true → (2 ≤ x.total) × (x.total ≤ 16)
unfolding keeps_group
total_kept x e u =
    let a = and_right (keeps_key x.key) _ (and_right (keeps_pieces x.total 0 x.pieces) _ (and_right (length x.pieces =? 16) _ e)) in
    let b = and_left (between 2 16 x.total) _ (sym (if_yes _ _ _ u) ∙ a) in
    (inside-low 2 16 x.total b, inside-high 2 16 x.total b)

pub open-key : (k : Key) (x : Group) → has_key k x ≡ true → x.is_open ≡ true
unfolding has_key
open-key k x e = and_left x.is_open _ e

pub free-keeps : keeps_group free_group ≡ true
unfolding keeps_group keeps_piece keeps_key id_in
free-keeps = refl

-- the key of the names that a call is given
pub named-keeps : (o : Option (List ℕ)) (master : ℕ) → refusal_in (named_of o master) ≡ 0 → keeps_key (key_in (named_of o master)) ≡ true
unfolding named_of
named-keeps o master e = go (is_originator o) (is_master master) refl refl e
  where
    named : Bool → Bool → Result Key Refusal
    named a b = if no a then Err Refusal.NoCallsign else if no b then Err Refusal.FragmentMalformed else Ok (key_of o master)

    go : (a b : Bool) → is_originator o ≡ a → is_master master ≡ b → refusal_in (named a b) ≡ 0 → keeps_key (key_in (named a b)) ≡ true
    go true true p q z = key-keeps o master p q
    go true false p q z = absurd (omega arith)
    go false b p q z = absurd (omega arith)
