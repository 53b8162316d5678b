-- Every add is one of three moves: a refusal, a fragment more in the group of its key, a group opened for an unknown key.
-- The theorems of the calls are proved of the moves.
use Rattle.std.specs.Prelude.{if◌then◌else◌}
use mathlib.Core.Path.{◌≡◌, refl, sym, ap, ◌∙◌}
use Prim.Native.Nat.{ℕ, ◌-◌, ◌≤◌, ◌<◌}
use native.Mathlib.Omega.{arith}
use mathlib.Core.Bool.{Bool, true, false}
use lib.ListN.{get_or}
use borrow.Author.Tests.{ltb-false, eqb-true}
use Rattle.octets.specs.Words.{no, some, ◌<?◌, ◌=?◌}
use Rattle.refusals.specs.Numbers.{other_total, fragment_held, not_complete, buffer_too_short}
use Rattle.std.specs.Prelude.{Option, Some, None, Result, position}
use Rattle.refusals.specs.declared.Refusal.{Refusal}
use Rattle.refusals.specs.Refusals.{refusal_in}
use Rattle.groupkeys.specs.declared.Key.{Key}
use Rattle.groupkeys.specs.Key.{key_in}
use Rattle.groups.specs.declared.Group.{Group}
use Rattle.groups.specs.declared.Groups.{Groups}
use Rattle.groups.specs.Groups.{store_size, no_piece, free_group, is_free, has_key, complete, joined_length, keeps_pieces, group_at, with_group}
use Rattle.groups.proofs.Search.{found-bound, found-at, found-none}
use Rattle.groupcalls.specs.declared.Fragment.{Fragment}
use Rattle.groupcalls.specs.Answer.{added, collected, Outcome, refuse}
use Rattle.groupcalls.specs.Calls.{unless, gate, in_range, add_to, new_group, add_in, add_by, add, collect_by, collect}
use Rattle.groupcalls.proofs.Tests.{Ranged, ranged, Kept, kept, pieces_kept, group-kept, Passed, passed}

pub not_free : (b : Bool) → no b ≡ true → b ≡ false
not_free true e = sym e
not_free false e = refl

-- ---- the moves

pub data Move (t : Groups) (size : ℕ) (named : Result Key Refusal) (f : Fragment) : Outcome → Type 0 where
  refusing : (n : ℕ) → Move t size named f (refuse n t)
  joining : {g : ℕ} → Kept t → size ≡ store_size → Ranged f → g < 4 → has_key (key_in named) (group_at t g) ≡ true → (group_at t g).total ≡ f.total
      → (get_or (group_at t g).pieces (f.number - 1) no_piece).held ≡ false → Move t size named f (add_to t g (group_at t g) f)
  opening : {g : ℕ} → Kept t → size ≡ store_size → Ranged f → g < 4 → (group_at t g).is_open ≡ false → some (has_key (key_in named)) t.items ≡ false → refusal_in named ≡ 0
      → Move t size named f (add_to t g (new_group (key_in named) f) f)

pub add-moves : (t : Groups) (size : ℕ) (named : Result Key Refusal) (f : Fragment) → Move t size named f (add t size named f)
unfolding add
add-moves t size named f = go (0 <? gate t size named (in_range f)) refl
  where
    bound : (p : Group → Bool) (g : ℕ) → Passed t size named (in_range f) → Some g ≡ position p t.items → g < 4
    bound p g k q = omega (arith, found-bound p g t.items q, (kept t k.keeps).long)

    into : Passed t size named (in_range f) → some (has_key (key_in named)) t.items ≡ false → (x : Option ℕ) → x ≡ position is_free t.items → Move t size named f (add_in t (key_in named) f x)
    into k n (Some g) q = opening (kept t k.keeps) k.sized (ranged f k.inside) (bound is_free g k q) (not_free _ (found-at is_free g t.items q)) n k.known
    into k n None q = refusing 20

    at : Passed t size named (in_range f) → (g : ℕ) → Some g ≡ position (has_key (key_in named)) t.items → (a b : Bool) → ((group_at t g).total =? f.total) ≡ a
        → (get_or (group_at t g).pieces (f.number - 1) no_piece).held ≡ b → Move t size named f (unless (if no a then other_total else if b then fragment_held else 0) t (add_to t g (group_at t g) f))
    at k g q false b x y = refusing 18
    at k g q true true x y = refusing 19
    at k g q true false x y =
        joining (kept t k.keeps) k.sized (ranged f k.inside) (bound (has_key (key_in named)) g k q) (found-at (has_key (key_in named)) g t.items q) (eqb-true (group_at t g).total f.total x) y

    by : Passed t size named (in_range f) → (x : Option ℕ) → x ≡ position (has_key (key_in named)) t.items → Move t size named f (add_by t (key_in named) f x)
    by k (Some g) q = at k g q ((group_at t g).total =? f.total) (get_or (group_at t g).pieces (f.number - 1) no_piece).held refl refl
    by k None q = into k (found-none (has_key (key_in named)) t.items q) (position is_free t.items) refl

    go : (b : Bool) → (0 <? gate t size named (in_range f)) ≡ b
        → Move t size named f (if b then refuse (gate t size named (in_range f)) t else add_by t (key_in named) f (position (has_key (key_in named)) t.items))
    go true p = refusing (gate t size named (in_range f))
    go false p = by (passed t size named (in_range f) (let z = ltb-false 0 (gate t size named (in_range f)) p in omega arith)) (position (has_key (key_in named)) t.items) refl

-- an accepted add: its group is one of the four, and the fragment in its ranges
pub added-at : (t : Groups) (size : ℕ) (named : Result Key Refusal) (f : Fragment) (o : Outcome) (at : ℕ) → o ≡ add t size named f → o.answer ≡ added at → (at < 4) × Ranged f
added-at t size named f o at e a = go (add t size named f) (add-moves t size named f) (ap (λ (x : Outcome). x.answer) (sym e) ∙ a)
  where
    go : (x : Outcome) → Move t size named f x → x.answer ≡ added at → (at < 4) × Ranged f
    go x (refusing n) q = let z : ◌≡◌ {A = ℕ} 0 1 = cc in absurd (omega arith)
    go x (joining {g} k s r b u v w) q = let z : g ≡ at = cc in (omega arith, r)
    go x (opening {g} k s r b u v w) q = let z : g ≡ at = cc in (omega arith, r)

-- every collect is a refusal, or takes a complete group that has the key
pub data Taking (t : Groups) (size : ℕ) (named : Result Key Refusal) (room : ℕ) : Outcome → Type 0 where
  refusing : (n : ℕ) → Taking t size named room (refuse n t)
  taking : {g : ℕ} → Kept t → size ≡ store_size → refusal_in named ≡ 0 → g < 4 → has_key (key_in named) (group_at t g) ≡ true → complete (group_at t g) ≡ true
      → joined_length (group_at t g) ≤ room → Taking t size named room (record { answer = collected g (joined_length (group_at t g)); after = with_group t g free_group })

pub collect-takes : (t : Groups) (size : ℕ) (named : Result Key Refusal) (room : ℕ) → Taking t size named room (collect t size named room)
unfolding collect
collect-takes t size named room = go (0 <? gate t size named true) refl
  where
    at : Passed t size named true → (g : ℕ) → Some g ≡ position (has_key (key_in named)) t.items → (a b : Bool) → complete (group_at t g) ≡ a → (room <? joined_length (group_at t g)) ≡ b
        → Taking t size named room (unless (if no a then not_complete else if b then buffer_too_short else 0) t (record { answer = collected g (joined_length (group_at t g)); after = with_group t g free_group }))
    at k g q false b x y = refusing 21
    at k g q true true x y = refusing 5
    at k g q true false x y =
        taking {g = g} (kept t k.keeps) k.sized k.known (omega (arith, found-bound (has_key (key_in named)) g t.items q, (kept t k.keeps).long)) (found-at (has_key (key_in named)) g t.items q) x
        (ltb-false room (joined_length (group_at t g)) y)

    by : Passed t size named true → (x : Option ℕ) → x ≡ position (has_key (key_in named)) t.items → Taking t size named room (collect_by t room x)
    by k (Some g) q = at k g q (complete (group_at t g)) (room <? joined_length (group_at t g)) refl refl
    by k None q = refusing 21

    go : (b : Bool) → (0 <? gate t size named true) ≡ b
        → Taking t size named room (if b then refuse (gate t size named true) t else collect_by t room (position (has_key (key_in named)) t.items))
    go true p = refusing (gate t size named true)
    go false p = by (passed t size named true (let z = ltb-false 0 (gate t size named true) p in omega arith)) (position (has_key (key_in named)) t.items) refl

-- an accepted collect: its group is one of the four, the store is whole, and what the group holds fits
pub record Taken (t : Groups) (size room g : ℕ) : Type 0 where
  pub bound : g < 4
  pub sized : size ≡ store_size
  pub pieces : keeps_pieces (group_at t g).total 0 (group_at t g).pieces ≡ true
  pub fits : joined_length (group_at t g) ≤ room

pub taken : (t : Groups) (size : ℕ) (named : Result Key Refusal) (room : ℕ) (o : Outcome) (at n : ℕ) → o ≡ collect t size named room → o.answer ≡ collected at n → Taken t size room at
taken t size named room o at n e a = go (collect t size named room) (collect-takes t size named room) (ap (λ (x : Outcome). x.answer) (sym e) ∙ a)
  where
    go : (x : Outcome) → Taking t size named room x → x.answer ≡ collected at n → Taken t size room at
    go x (refusing m) q = let z : ◌≡◌ {A = ℕ} 0 1 = cc in absurd (omega arith)
    go x (taking {g} k s r b u v w) q =
        let z : g ≡ at = cc in
        record { bound = omega arith; sized = s; pieces = rw (← z) (pieces_kept (group_at t g) (group-kept t k g b)).1; fits = rw (← z) w }
