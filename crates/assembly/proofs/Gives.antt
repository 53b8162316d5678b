-- THEOREM: over any such chain, a collect of a key whose fragments 1 to M were all added since its group opened is not refused, if the store is whole,
-- the names are good, and the buffer has room for the bytes.
use mathlib.Core.Path.{◌≡◌, refl, sym, ap, ◌∙◌}
use Prim.Native.Nat.{ℕ, ◌≤◌, ◌<◌}
use native.Mathlib.Omega.{arith}
use mathlib.Core.Bool.{true}
use mathlib.Core.List.{List}
use lib.ListN.{length, length-take}
use borrow.Author.Tests.{eq-eqb, le-ltb}
use Rattle.octets.proofs.Tests.{if_no, no_true}
use Rattle.std.specs.Prelude.{Option, Some, None, Result, Ok, Err, position}
use Rattle.refusals.specs.declared.Refusal.{Refusal}
use Rattle.refusals.specs.Refusals.{refusal_in}
use Rattle.refusals.proofs.Told.{not-0}
use Rattle.groupkeys.specs.declared.Key.{Key}
use Rattle.groupkeys.specs.Key.{key_in}
use Rattle.groups.specs.declared.Groups.{Groups}
use Rattle.groups.specs.Groups.{store_size, free_group, has_key, fragments, complete, joined_length, keeps_groups, past_group, group_at, with_group}
use Rattle.groups.proofs.Search.{found-bound, found-at, found-none}
use Rattle.groupcalls.specs.Answer.{Outcome, collected}
use Rattle.groupcalls.specs.Calls.{unless, gate, collect_at, collect_by}
use Rattle.groupcalls.proofs.Tests.{kept, pieces_kept, group-kept, collect-passed}
use Rattle.fragments.proofs.Joins.{short_first, length_rest}
use Rattle.assembly.specs.History.{Names, named, key_for, collecting, House, outcome, History, Reached, whole, in_order, accepted, since}
use Rattle.assembly.proofs.Rules.{some_at, free-key, open-key}
use Rattle.assembly.proofs.Sound.{match-complete, match-joined, Good}
use Rattle.assembly.proofs.Chain.{sound}

gate-open : (t : Groups) (size : ℕ) (n : Result Key Refusal) → keeps_groups t ≡ true → size ≡ store_size → refusal_in n ≡ 0 → gate t size n true ≡ 0
unfolding gate
gate-open t size n k s r = if_no _ _ _ (no_true _ k) ∙ if_no _ _ _ (no_true _ (eq-eqb size store_size s)) ∙ if_no _ _ _ (le-ltb 0 (refusal_in n) (omega arith))

named-key : (m : Result Key Refusal) → refusal_in m ≡ 0 → m ≡ Ok (key_in m)
named-key (Ok k) e = refl
named-key (Err r) e = absurd (not-0 r e)

taken_at : (t : Groups) (g room : ℕ) → complete (group_at t g) ≡ true → joined_length (group_at t g) ≤ room → accepted (collect_at t g room).answer ≡ true
taken_at t g room c h =
    let taken : Outcome = record { answer = collected g (joined_length (group_at t g)); after = with_group t g free_group } in
    ap (λ (n : ℕ). accepted (unless n t taken).answer) (if_no _ _ _ (no_true _ c) ∙ if_no _ _ _ (le-ltb room (joined_length (group_at t g)) h))

pub chain-gives : {h : History} {w : House} → Reached h w → (a : Names) (out : List ℕ) → length w.store ≡ store_size → refusal_in (named a) ≡ 0 → 0 < length (since (key_for a) h)
    → whole (since (key_for a) h) ≡ true → length (in_order (since (key_for a) h)) ≤ length out → accepted (outcome w (collecting a out)).answer ≡ true
chain-gives {h} {w} r a out s n f c room =
    ap (λ (o : Outcome). accepted o.answer) (sym (collect-passed t (length w.store) (named a) (length out) 0 (sym (gate-open t (length w.store) (named a) o.keeps s n)) (omega arith) k (named-key (named a) n) found refl))
    ∙ by found refl
  where
    t : Groups
    t = w.groups

    k : Key
    k = key_for a

    o : Good w.groups w.store (λ i. since i h)
    o = sound r

    found : Option ℕ
    found = position (has_key k) t.items

    by : (x : Option ℕ) → x ≡ position (has_key k) t.items → accepted (collect_by t (length out) x).answer ≡ true
    by None q =
        let z = ap length (o.none k (λ g b. some_at (has_key k) t.items g (found-none (has_key k) t.items q) (free-key k past_group refl))) in
        absurd (omega arith)
    by (Some g) q =
        let b : g < 4 = omega (arith, found-bound (has_key k) g t.items q, (kept t o.keeps).long) in
        let e = found-at (has_key k) g t.items q in
        let x = group_at t g in
        let m = o.there k g b e in
        let p = group-kept t (kept t o.keeps) g b in
        let u = open-key k x e in
        let v = (pieces_kept x p).0 in
        let l = length_rest w.store g b s (fragments x) 0 (omega arith) (rw length-take (omega arith)) (short_first x x.total (pieces_kept x p).1) in
        let j = ap length (match-joined (since k h) g x w.store m p u) in
        taken_at t g (length out) (match-complete (since k h) g x w.store m p u ∙ c) (omega arith)
