-- THEOREM: a call on a row that keeps the rules returns one that keeps them, whatever 32-bit numbers it is given.
use Rattle.std.specs.Prelude.{if◌then◌else◌}
use mathlib.Core.Path.{◌≡◌, refl, sym, ap, ◌∙◌, subst}
use Prim.Native.Nat.{ℕ, suc, ◌+◌, ◌≤◌, ◌<◌, max}
use native.Mathlib.Omega.{arith}
use mathlib.Core.Bool.{Bool, true, false}
use mathlib.Core.List.{List, [], ◌∷◌}
use lib.ListN.{length}
use borrow.Author.Tests.{le-leb, leb-false, ltb-true, ltb-false, eqb-false}
use Rattle.octets.specs.Words.{◌and◌, ◌or◌, every, ◌<?◌, ◌≤?◌, ◌=?◌}
use Rattle.octets.proofs.Tests.{and_left, and_right, and_both, and-next, true-not-false}
use Rattle.places.specs.declared.Held.{Held}
use Rattle.rows.specs.declared.Row.{Row}
use Rattle.rows.specs.Answer.{Outcome}
use Rattle.rows.specs.Stream.{Stream, fresh, word, words, ascending, above, holds, insert, gap_open, keeps, accept, offer, stay, give, take, force}
use Rattle.rows.specs.Row.{stream_of, row_of, keeps_row, checked, offer_of, take_of, force_of}
use Rattle.rows.specs.Steps.{full, start_after}
use Rattle.rows.proofs.Rules.{Kept, kept, keep, kept_row, keeps-row, held-most}
use Rattle.rows.proofs.Cases.{by-offer, by-take, by-force}

-- ---- one more message

or-first : (a b : Bool) → a or b ≡ false → a ≡ false
or-first true b e = e
or-first false b e = refl

or-second : (a b : Bool) → a or b ≡ false → b ≡ false
or-second true b e = true-not-false true refl e
or-second false b e = e

insert-order : (low : ℕ) (x : Held) (l : List Held) → ascending low l ≡ true → low ≤ x.number → holds x.number l ≡ false → ascending low (insert x l) ≡ true
insert-order low x [] a h d = and_both _ _ (le-leb _ _ h) refl
insert-order low x (m ∷ l) a h d = go (x.number <? m.number) refl (insert-order (m.number + 1) x l (and_right (low ≤? m.number) _ a))
  where
    go : (b : Bool) → (x.number <? m.number) ≡ b → (m.number + 1 ≤ x.number → holds x.number l ≡ false → ascending (m.number + 1) (insert x l) ≡ true)
        → ascending low (if b then x ∷ m ∷ l else (m ∷ insert x l)) ≡ true
    go true e rest =
        let k = ltb-true x.number m.number e in
        and_both _ _ (le-leb _ _ h) (and_both _ _ (le-leb (x.number + 1) m.number (omega arith)) (and_right (low ≤? m.number) _ a))
    go false e rest =
        let k = ltb-false x.number m.number e in
        let n = eqb-false m.number x.number (or-first (m.number =? x.number) _ d) in
        and_both _ _ (and_left (low ≤? m.number) _ a)
        (rest (omega arith) (or-second (m.number =? x.number) _ d))

insert-above : (e : ℕ) (x : Held) (l : List Held) → above e (insert x l) ≡ (if e <? x.number then 1 else 0) + above e l
insert-above e x [] = refl
insert-above e x (m ∷ l) = go (x.number <? m.number) (insert-above e x l)
  where
    go : (b : Bool) → above e (insert x l) ≡ (if e <? x.number then 1 else 0) + above e l
        → above e (if b then x ∷ m ∷ l else (m ∷ insert x l)) ≡ (if e <? x.number then 1 else 0) + ((if e <? m.number then 1 else 0) + above e l)
    go true ih = refl
    go false ih = omega arith

insert-words : (x : Held) (l : List Held) → words x ≡ true → every words l ≡ true → every words (insert x l) ≡ true
insert-words x [] w e = and_both _ _ w refl
insert-words x (m ∷ l) w e = go (x.number <? m.number) (insert-words x l w (and_right (words m) _ e))
  where
    go : (b : Bool) → every words (insert x l) ≡ true → every words (if b then x ∷ m ∷ l else (m ∷ insert x l)) ≡ true
    go true ih = and_both _ _ w e
    go false ih = and_both _ _ (and_left (words m) _ e) ih

above-le : (e : ℕ) (l : List Held) → above e l ≤ length l
above-le e [] = omega arith
above-le e (m ∷ l) = go (e <? m.number) (above-le e l)
  where
    go : (b : Bool) → above e l ≤ length l → (if b then 1 else 0) + above e l ≤ suc (length l)
    go true q = omega arith
    go false q = omega arith

-- the gap start after a call is at most the clock, and 0 where no gap is open
start_right : (before after : Bool) (kept clock : ℕ) → kept ≤ clock → (start_after before after kept clock ≤ clock) × ((after or start_after before after kept clock =? 0) ≡ true)
start_right true true kept clock h = (h, refl)
start_right false true kept clock h = (omega arith, refl)
start_right before false kept clock h = (omega arith, refl)

few-more : (s : Stream) (m : Held) → Kept s → full s m.number ≡ false → above s.expected (insert m s.held) ≤ 15
few-more s m k f = go (s.expected <? m.number) refl
  where
    go : (b : Bool) → (s.expected <? m.number) ≡ b → above s.expected (insert m s.held) ≤ 15
    go true e =
        let h = leb-false 15 (above s.expected s.held) (sym (and-next _ _ e) ∙ f) in
        rw (insert-above s.expected m s.held, e) (omega arith)
    go false e = rw (insert-above s.expected m s.held, e) (omega (arith, k.few))

-- ---- the outcomes

module _ (s : Stream) (k : Kept s) (time : ℕ) (t : word time ≡ true) where
  now : (s.clock ≤ max s.clock time) × (max s.clock time < 4294967296)
  now = (omega arith, omega (arith, k.clock, ltb-true time 4294967296 t))

  stay-keeps : keeps (stay s (max s.clock time)).after ≡ true
  stay-keeps =
      keep _
      (record { low = k.low; high = k.high; order = k.order; few = k.few; since = omega (arith, k.since, now.0); gap = k.gap; clock = now.1; sizes = k.sizes })

  accept-keeps : (m : Held) → words m ≡ true → s.expected ≤ m.number → holds m.number s.held ≡ false → full s m.number ≡ false
      → keeps (accept s m (max s.clock time)).after ≡ true
  accept-keeps m w h d f =
      let g = start_right (gap_open s.expected s.held) (gap_open s.expected (insert m s.held)) s.gap_start (max s.clock time) (omega (arith, k.since, now.0)) in
      keep _
      (record {
        low = k.low;
        high = k.high;
        order = insert-order s.expected m s.held k.order h d;
        few = few-more s m k f;
        since = g.0;
        gap = g.1;
        clock = now.1;
        sizes = insert-words m s.held w k.sizes;
      })

  give-keeps : (m : Held) (rest : List Held) → s.held ≡ m ∷ rest → keeps (give m rest (max s.clock time)).after ≡ true
  give-keeps m rest e =
      let g = start_right false (gap_open (m.number + 1) rest) 0 (max s.clock time) (omega arith) in
      let w : words m and every words rest ≡ true = ap (every words) (sym e) ∙ k.sizes in
      let n = ltb-true m.number 4294967296 (and_left (word m.number) _ (and_left (words m) _ w)) in
      let o : ascending s.expected (m ∷ rest) ≡ true = ap (ascending s.expected) (sym e) ∙ k.order in
      let l : suc (length rest) ≤ 16 = subst (λ (l : List Held). length l ≤ 16) e (held-most s k) in
      keep _
      (record {
        low = omega arith;
        high = omega arith;
        order = and_right (s.expected ≤? m.number) _ o;
        few = omega (arith, above-le (m.number + 1) rest);
        since = g.0;
        gap = g.1;
        clock = now.1;
        sizes = and_right (words m) _ w;
      })

-- ---- the calls, on what a row stands for

abbrev Keeping : Outcome Stream → Type 0
Keeping o = keeps o.after ≡ true

module _ (s : Stream) (e : keeps s ≡ true) (time : ℕ) (t : word time ≡ true) where
  pub offer-keeps : (m : Held) → words m ≡ true → keeps (offer s m time).after ≡ true
  offer-keeps m w = by-offer s Keeping time m e e e (accept-keeps s (kept s e) time t m w)

  pub take-keeps : keeps (take s time).after ≡ true
  take-keeps = by-take s Keeping time (stay-keeps s (kept s e) time t) (λ m rest h d. give-keeps s (kept s e) time t m rest h)

  pub force-keeps : keeps (force s time).after ≡ true
  force-keeps = by-force s Keeping time (stay-keeps s (kept s e) time t) (give-keeps s (kept s e) time t)

-- ---- the calls on a row

pub fresh_keeps : keeps_row (row_of fresh) ≡ true
unfolding keeps_row keeps
fresh_keeps = refl

module _ (r : Row) (e : keeps_row r ≡ true) where
  checked-keeps : (o : Outcome Stream) → keeps o.after ≡ true → keeps_row (checked r o).after ≡ true
  checked-keeps o k = rw e (keeps-row o.after k)

  keeping : keeps (stream_of r) ≡ true
  keeping = keep (stream_of r) (kept_row r e).stream

  module _ (time : ℕ) (t : word time ≡ true) where
    pub offer-keeps-row : (m : Held) → words m ≡ true → keeps_row (offer_of r m time).after ≡ true
    offer-keeps-row m w = checked-keeps (offer (stream_of r) m time) (offer-keeps (stream_of r) keeping time t m w)

    pub take-keeps-row : keeps_row (take_of r time).after ≡ true
    take-keeps-row = checked-keeps (take (stream_of r) time) (take-keeps (stream_of r) keeping time t)

    pub force-keeps-row : keeps_row (force_of r time).after ≡ true
    force-keeps-row = checked-keeps (force (stream_of r) time) (force-keeps (stream_of r) keeping time t)
