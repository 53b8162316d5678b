-- THEOREM: over any chain of adds, collects and sweeps from free groups, in which the host lends the same bytes unaltered, a collect that is not refused
-- gives exactly the bytes of the M fragments that were added under its key since the group opened, in the order of N, whatever the order of arrival.
use Rattle.std.specs.Prelude.{if◌then◌else◌}
use mathlib.Core.Path.{◌≡◌, refl, sym, ap, ◌∙◌, subst}
use Prim.Native.Nat.{ℕ, ◌-◌, ◌≤◌, ◌<◌}
use native.Mathlib.Omega.{arith}
use mathlib.Core.Bool.{Bool, true, false}
use mathlib.Core.List.{List, [], ◌∷◌, map}
use lib.ListN.{length, get_or, get_or-replicate}
use borrow.Author.Tests.{eq-eqb}
use Rattle.octets.specs.Words.{◌and◌, no, every, between, ◌=?◌}
use Rattle.octets.specs.Bytes.{front, placed}
use Rattle.octets.proofs.Tests.{and_both, true-not-false, inside}
use Rattle.refusals.specs.Numbers.{state_broken}
use Rattle.groupkeys.specs.declared.Key.{Key}
use Rattle.groupkeys.specs.Key.{same_key}
use Rattle.groupkeys.proofs.SameKey.{same_key-refl, same_key-sym}
use Rattle.groups.specs.declared.Group.{Group}
use Rattle.groups.specs.declared.Groups.{Groups}
use Rattle.groups.specs.declared.Piece.{Piece}
use Rattle.groups.specs.Groups.{place, store_size, no_piece, has_key, keeps_groups, past_group, group_at}
use Rattle.groupcalls.specs.Answer.{swept, Outcome, refuse}
use Rattle.groupcalls.specs.Calls.{with_fragment, new_group, sweep, swept_group}
use Rattle.groupcalls.proofs.Tests.{Ranged, pieces_kept, group-kept}
use Rattle.groupcalls.proofs.Moves.{Move, joining, opening, add-moves, Taking, taking, collect-takes}
use Rattle.fragments.specs.Store.{store_place, store_after, out_after}
use Rattle.assembly.specs.History.{Names, named, key_for, Arrival, fragment, Call, adding, collecting, sweeping, House, outcome, bytes_after, History, Reached, fresh, next, first_time, accepted, with_call, since, buffer_after, Delivered}
use Rattle.assembly.proofs.Rules.{some_at, free-key, open-key, total_kept}
use Rattle.assembly.proofs.Keeps.{empty-keeps, add-keeps, collect-keeps, sweep-keeps}
use Rattle.assembly.proofs.Parts.{parts_none, parts_add}
use Rattle.assembly.proofs.Sound.{Match, match-complete, match-joined, Good, good-empty, good-add, good-collect, good-sweep, shorts, has_same, has_other}

-- ---- the group that an accepted add leaves

first-stays : (f : Arrival) (l : List Arrival) → 0 < length l → first_time (f ∷ l) ≡ first_time l
first-stays f [] h = absurd (omega arith)
first-stays f (g ∷ l) h = refl

with-key : (j : Key) (x : Group) (f : Arrival) → has_key j x ≡ true → has_key j (with_fragment x (fragment f)) ≡ true
unfolding has_key
with-key j x f e = e

opened-key : (j : Key) (f : Arrival) → has_key j (with_fragment (new_group j (fragment f)) (fragment f)) ≡ true
unfolding has_key
opened-key j f = same_key-refl j

-- a fragment more in its group
joined-match : (l : List Arrival) (g : ℕ) (x : Group) (store : List ℕ) (f : Arrival) → Match l g x store → length store ≡ store_size → Ranged (fragment f) → g < 4 → x.total ≡ f.total
    → length x.pieces ≡ 16 → ((n : ℕ) → n < 16 → (get_or x.pieces n no_piece).len ≤ place) → (get_or x.pieces (f.number - 1) no_piece).held ≡ false
    → Match (f ∷ l) g (with_fragment x (fragment f)) (placed f.bytes (store_place g f.number) store)
joined-match l g x store f m s r h e long short new =
    record {
      filled = omega arith;
      total = sym e;
      agree =
          and_both _ _ (and_both _ _ (eq-eqb f.total f.total refl) (inside 1 f.total f.number r.from r.to))
          (ap (λ (c : ℕ). every (λ a. a.total =? c and between 1 a.total a.number) l) (sym e ∙ sym m.total) ∙ m.agree);
      began = first-stays f l m.filled ∙ m.began;
      parts = parts_add l g x.pieces store f s r.size h r.from (omega (arith, r.to, r.most)) long short new m.parts;
    }

-- the first fragment of a group
opened-match : (j : Key) (g : ℕ) (store : List ℕ) (f : Arrival) → length store ≡ store_size → Ranged (fragment f) → g < 4
    → Match (f ∷ []) g (with_fragment (new_group j (fragment f)) (fragment f)) (placed f.bytes (store_place g f.number) store)
opened-match j g store f s r h =
    record {
      filled = omega arith;
      total = refl;
      agree = and_both _ _ (and_both _ _ (eq-eqb f.total f.total refl) (inside 1 f.total f.number r.from r.to)) refl;
      began = refl;
      parts =
          parts_add [] g (new_group j (fragment f)).pieces store f s r.size h r.from (omega (arith, r.to, r.most)) refl
          (λ n b. let z = ap (λ (p : Piece). p.len) (get_or-replicate 16 n no_piece no_piece b) in omega arith)
          (ap (λ (p : Piece). p.held) (get_or-replicate 16 (f.number - 1) no_piece no_piece (omega (arith, r.from, r.to, r.most)))) (parts_none g store);
    }

-- ---- each call

abbrev Next : House → Call → (Key → List Arrival) → Outcome → List ℕ → Type 0
Next w c said o store = Good o.after store (λ k. if accepted o.answer then with_call k c (said k) else said k)

step-add : (w : House) (a : Names) (f : Arrival) (said : Key → List Arrival) → Good w.groups w.store said
    → Next w (adding a f) said (outcome w (adding a f)) (bytes_after w (adding a f))
step-add w a f said o =
    go (outcome w (adding a f)) (add-moves t (length w.store) (named a) (fragment f)) (add-keeps t (length w.store) a.originator a.master (fragment f) o.keeps)
  where
    t : Groups
    t = w.groups

    j : Key
    j = key_for a

    go : (x : Outcome) → Move t (length w.store) (named a) (fragment f) x → keeps_groups x.after ≡ true → Next w (adding a f) said x (store_after x.answer f.number f.bytes w.store)
    go x (Move.refusing n) e = o
    go x (joining {g} k s r b u v z) e =
        let y = group_at t g in
        let p = group-kept t k g b in
        good-add t w.store said o j g (with_fragment y (fragment f)) f e s r b (with-key j y f u) (λ i q. has_other j i y q u)
        (λ i q. joined-match (said i) g y w.store f (o.there i g b (has_same j i y q u)) s r b v (pieces_kept y p).0 (shorts y p) z)
    go x (opening {g} k s r b u v z) e =
        good-add t w.store said o j g (with_fragment (new_group j (fragment f)) (fragment f)) f e s r b (opened-key j f) (λ i q. free-key i (group_at t g) u)
        (λ i q. subst (λ (l : List Arrival). Match (f ∷ l) g (with_fragment (new_group j (fragment f)) (fragment f)) (placed f.bytes (store_place g f.number) w.store)) (sym (unknown i q)) (opened-match j g w.store f s r b))
      where
        without : (i : Key) → same_key j i ≡ true → (x : Group) → has_key j x ≡ false → (c : Bool) → has_key i x ≡ c → c ≡ false
        without i q x e true h = true-not-false (has_key j x) (has_same i j x (same_key-sym j i q) h) e
        without i q x e false h = refl

        unknown : (i : Key) → same_key j i ≡ true → said i ≡ []
        unknown i q = o.none i (λ m c. without i q (group_at t m) (some_at (has_key j) t.items m v (free-key j past_group refl)) (has_key i (group_at t m)) refl)

step-collect : (w : House) (a : Names) (out : List ℕ) (said : Key → List Arrival) → Good w.groups w.store said
    → Next w (collecting a out) said (outcome w (collecting a out)) w.store
step-collect w a out said o =
    go (outcome w (collecting a out)) (collect-takes w.groups (length w.store) (named a) (length out)) (collect-keeps w.groups (length w.store) (named a) (length out) o.keeps)
  where
    go : (x : Outcome) → Taking w.groups (length w.store) (named a) (length out) x → keeps_groups x.after ≡ true → Next w (collecting a out) said x w.store
    go x (Taking.refusing n) e = o
    go x (taking {g} k s r b u v z) e = good-collect w.groups w.store said o (key_for a) g e b u

step-sweep : (w : House) (time : ℕ) (said : Key → List Arrival) → Good w.groups w.store said → Next w (sweeping time) said (outcome w (sweeping time)) w.store
unfolding sweep
step-sweep w time said o = go (keeps_groups w.groups) (sweep-keeps time w.groups o.keeps)
  where
    outcomes : Bool → Outcome
    outcomes b = if no b then refuse state_broken w.groups else record { answer = swept; after = record { items = map (swept_group time) w.groups.items } }

    go : (b : Bool) → keeps_groups (outcomes b).after ≡ true → Next w (sweeping time) said (outcomes b) w.store
    go false e = o
    go true e = good-sweep w.groups w.store said o time e

step : (w : House) (c : Call) (said : Key → List Arrival) → Good w.groups w.store said → Next w c said (outcome w c) (bytes_after w c)
step w (adding a f) said o = step-add w a f said o
step w (collecting a out) said o = step-collect w a out said o
step w (sweeping time) said o = step-sweep w time said o

-- ---- the chain

-- after any chain of calls, the groups and the store agree with the history
pub sound : {h : History} {w : House} → Reached h w → Good w.groups w.store (λ k. since k h)
sound (fresh bytes) = good-empty empty-keeps bytes
sound (next {h} {w} r c) = step w c (λ k. since k h) (sound r)

pub chain : {h : History} {w : House} → Reached h w → (a : Names) (out : List ℕ) → accepted (outcome w (collecting a out)).answer ≡ true
    → Delivered (since (key_for a) h) out (buffer_after w a out)
chain {h} {w} r a out e = go (outcome w (collecting a out)) (collect-takes w.groups (length w.store) (named a) (length out)) e
  where
    go : (x : Outcome) → Taking w.groups (length w.store) (named a) (length out) x → accepted x.answer ≡ true
        → Delivered (since (key_for a) h) out (out_after x.answer w.groups w.store out)
    go x (Taking.refusing n) q = true-not-false false q refl
    go x (taking {g} k s z b u v y) q =
        let t = w.groups in
        let m = (sound r).there (key_for a) g b u in
        let p = group-kept t k g b in
        let o = open-key (key_for a) (group_at t g) u in
        let c = total_kept (group_at t g) p o in
        record {
          all = sym (match-complete (since (key_for a) h) g (group_at t g) w.store m p o) ∙ v;
          single = m.parts.single;
          agree = m.agree;
          least = omega (arith, c.0, m.total);
          bytes = ap (λ (s : List ℕ). front s out) (match-joined (since (key_for a) h) g (group_at t g) w.store m p o);
        }
