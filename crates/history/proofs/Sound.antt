-- What ties a row to the history that led to it, and that every call of a row keeps it.
use Prim.Native.Nat.{ℕ, ◌+◌, ◌-◌, ◌<◌, ◌≤◌, max}
use native.Mathlib.Omega.{arith}
use native.Mathlib.Decide.{ℕ_discrete, dec_le}
use mathlib.Core.Path.{◌≡◌, refl, sym, ap, ◌∙◌, subst}
use mathlib.Core.Bool.{Bool, true, false}
use mathlib.Core.List.{List, [], ◌∷◌}
use mathlib.Core.Logic.{◌⊎◌, inl, inr}
use borrow.Author.Tests.{lt-ltb, ltb-true, le-leb, leb-true, ne_eqb, eq-eqb}
use Rattle.octets.specs.Words.{◌or◌, ◌<?◌, ◌=?◌}
use Rattle.octets.proofs.Tests.{and_left, and_right, and_both, or_left, or-next, true-not-false}
use Rattle.places.specs.declared.Held.{Held}
use Rattle.rows.specs.Stream.{Stream, fresh, ascending, insert, gap_open, due, accept, stay, give}
use Rattle.rows.specs.Steps.{start_after}
use Rattle.rows.proofs.Rules.{Kept}
use Rattle.history.specs.History.{Way, take, Event, accepts, gives, gives_nothing, History, opened, restored, ◌▷◌, Sent, sent, taken_in, given_out, next, told, count, count_held, numbered, In, Gap, OpenSince, MayPass, Rightly, Fair, Ordered}
use Rattle.history.proofs.Counting.{bit_is, count-append, held-append, held-insert, first-low, rest-order, held_low, held-once, Within, within-rises, within_more, count-high, count-once, in-append, in-last, in_insert, one_of}

-- the numbers: e is the next of h, and l is what h accepted and did not give out
pub record Tally (h : History) (e : ℕ) (l : List Held) : Type 0 where
  pub next-is : next h ≡ e
  pub counted : (p : Sent → Bool) → count_held p (taken_in h) ≡ count p (given_out h) + count_held p l
  pub came : (m : Held) → In m l → In m (taken_in h)
  pub rising : Within 0 e (given_out h)
  pub order : ascending e l ≡ true

pub record Sound (h : History) (s : Stream) : Type 0 where
  pub tally : Tally h s.expected s.held
  pub told_is : told h ≡ s.clock
  pub past : s.gap_start ≤ s.clock
  pub stood : gap_open s.expected s.held ≡ true → OpenSince s.gap_start h
  pub earliest : (x : ℕ) → OpenSince x h → s.gap_start ≤ x
  pub fair : Fair h

-- ---- the row's test for a gap is the history's

gap-shows : (h : History) (e : ℕ) (l : List Held) → Tally h e l → gap_open e l ≡ true → Gap h
gap-shows h e [] k t = true-not-false false t refl
gap-shows h e (m ∷ l) k t =
    let lt : e < m.number = ltb-true e m.number t in
    let o : ascending m.number (m ∷ l) ≡ true = and_both _ _ (le-leb m.number m.number (omega arith)) (rest-order e m l k.order) in (
      (m.number, omega (arith, k.counted (numbered m.number), bit_is m.number m.number refl)),
      rw k.next-is (omega (arith, k.counted (numbered e), count-high e 0 e (given_out h) (omega arith) k.rising, held_low e m.number (m ∷ l) lt o)),
    )

pub gap-tests : (h : History) (e : ℕ) (l : List Held) → Tally h e l → Gap h → gap_open e l ≡ true
gap-tests h e [] k g = absurd (omega (arith, k.counted (numbered g.0.0), g.0.1))
gap-tests h e (m ∷ l) k g = lt-ltb e m.number (go (ℕ_discrete m.number e))
  where
    go : Dec (m.number ≡ e) → e < m.number
    go (yes q) = absurd (omega (arith, k.counted (numbered e), rw k.next-is at g.1, bit_is e m.number q))
    go (no d) = omega (arith, first-low e m l k.order)

open-gap : (x : ℕ) (h : History) → OpenSince x h → Gap h
open-gap x opened o = absurd o
open-gap x (restored r) o = o.0
open-gap x (h ▷ e) o = o.0

-- ---- where a history begins

pub sound-opened : Sound opened fresh
sound-opened = record {
  tally = record { next-is = refl; counted = λ p. refl; came = λ m i. i; rising = omega arith; order = refl };
  told_is = refl;
  past = omega arith;
  stood = λ t. true-not-false false t refl;
  earliest = λ x o. absurd o;
  fair = tt;
}

pub sound-restored : (s : Stream) → Kept s → Sound (restored s) s
sound-restored s k = record {
  tally = tally;
  told_is = refl;
  past = k.since;
  stood = λ t. (gap-shows (restored s) s.expected s.held tally t, refl);
  earliest = λ x o. omega (arith, o.1);
  fair = tt;
}
  where
    tally : Tally (restored s) s.expected s.held
    tally = record { next-is = refl; counted = λ p. omega arith; came = λ m i. i; rising = omega arith; order = k.order }

-- ---- what a call leaves

-- the gap start after an offer, by whether the gap was open and is open
by-start : (P : ℕ → Type 0) (was is : Bool) (kept now : ℕ) → (is ≡ true → was ≡ true → P kept) → (is ≡ true → was ≡ false → P now) → (is ≡ false → P 0)
    → P (start_after was is kept now)
by-start P true true kept now f g z = f refl refl
by-start P false true kept now f g z = g refl refl
by-start P was false kept now f g z = z refl

module _ (h : History) (s : Stream) (k : Sound h s) where
  -- a call that gives nothing leaves an open gap's start where it was
  still : (now x : ℕ) → s.gap_start ≤ now → (now ≡ x) ⊎ (Unit {0} × OpenSince x h) → s.gap_start ≤ x
  still now x p (inl e) = omega arith
  still now x p (inr q) = k.earliest x q.1

  pub sound-stay : (time : ℕ) → Sound (h ▷ gives_nothing time) (stay s (max s.clock time)).after
  sound-stay time = record {
    tally = tally;
    told_is = rw k.told_is refl;
    past = omega (arith, k.past);
    stood = λ t. (gap-shows (h ▷ gives_nothing time) s.expected s.held tally t, inr (tt, k.stood t));
    earliest = λ x o. still (max (told h) time) x (omega (arith, k.past, k.told_is)) o.1;
    fair = k.fair;
  }
    where
      tally : Tally (h ▷ gives_nothing time) s.expected s.held
      tally = record { next-is = k.tally.next-is; counted = k.tally.counted; came = k.tally.came; rising = k.tally.rising; order = k.tally.order }

  module _ (m : Held) (time : ℕ) (order : ascending s.expected (insert m s.held) ≡ true) where
    start-after : (P : ℕ → Type 0) → (gap_open s.expected (insert m s.held) ≡ true → gap_open s.expected s.held ≡ true → P s.gap_start)
        → (gap_open s.expected (insert m s.held) ≡ true → gap_open s.expected s.held ≡ false → P (max s.clock time))
        → (gap_open s.expected (insert m s.held) ≡ false → P 0) → P (accept s m (max s.clock time)).after.gap_start
    start-after P = by-start P (gap_open s.expected s.held) (gap_open s.expected (insert m s.held)) s.gap_start (max s.clock time)

    anew : (x : ℕ) → gap_open s.expected s.held ≡ false → (max (told h) time ≡ x) ⊎ (Unit {0} × OpenSince x h) → max s.clock time ≤ x
    anew x u (inl q) = omega (arith, k.told_is)
    anew x u (inr q) = true-not-false _ (gap-tests h s.expected s.held k.tally (open-gap x h q.1)) u

    pub sound-accept : Sound (h ▷ accepts m time) (accept s m (max s.clock time)).after
    sound-accept = record {
      tally = tally;
      told_is = rw k.told_is refl;
      past = start-after (λ (g : ℕ). g ≤ max s.clock time) (λ t u. omega (arith, k.past)) (λ t u. omega arith) (λ t. omega arith);
      stood = λ t. (
        gap-shows (h ▷ accepts m time) s.expected (insert m s.held) tally t,
        start-after (λ (g : ℕ). (max (told h) time ≡ g) ⊎ (Unit {0} × OpenSince g h))
            (λ t u. inr (tt, k.stood u)) (λ t u. inl (rw k.told_is refl)) (λ u. true-not-false _ t u),
      );
      earliest = λ x o. start-after (λ (g : ℕ). g ≤ x)
          (λ t u. still (max (told h) time) x (omega (arith, k.past, k.told_is)) o.1) (λ t u. anew x u o.1) (λ t. omega arith);
      fair = k.fair;
    }
      where
        came : (x : Held) → (x ≡ m) ⊎ In x s.held → In x (taken_in (h ▷ accepts m time))
        came x (inl q) = subst (λ (y : Held). In y (taken_in (h ▷ accepts m time))) (sym q) (in-last m (taken_in h))
        came x (inr i) = in-append x (taken_in h) (m ∷ []) (k.tally.came x i)

        tally : Tally (h ▷ accepts m time) s.expected (insert m s.held)
        tally = record {
          next-is = k.tally.next-is;
          counted = λ p. omega (arith, k.tally.counted p, held-append p (taken_in h) (m ∷ []), held-insert p m s.held);
          came = λ x i. came x (in_insert x m s.held i);
          rising = k.tally.rising;
          order = order;
        }

  -- the lowest is given
  module _ (m : Held) (rest : List Held) (is : s.held ≡ m ∷ rest) (way : Way) (time : ℕ) (pass : next h < m.number → MayPass h way m.number time) where
    order : ascending s.expected (m ∷ rest) ≡ true
    order = subst (λ (l : List Held). ascending s.expected l ≡ true) is k.tally.order

    counts : (p : Sent → Bool) → count_held p (taken_in h) ≡ count p (given_out h) + count_held p (m ∷ rest)
    counts p = subst (λ (l : List Held). count_held p (taken_in h) ≡ count p (given_out h) + count_held p l) is (k.tally.counted p)

    event : Event
    event = gives way m.number m.slip time

    rightly : Rightly h way m.number time
    rightly = record {
      in-turn = omega (arith, k.tally.next-is, first-low s.expected m rest order);
      missing = λ i le lt. omega (
        arith,
        counts (numbered i),
        count-high i 0 s.expected (given_out h) (omega (arith, k.tally.next-is)) k.tally.rising,
        held_low i m.number (m ∷ rest) lt (and_both _ _ (le-leb m.number m.number (omega arith)) (rest-order s.expected m rest order)),
      );
      passes = pass;
    }

    tally-give : Tally (h ▷ gives way m.number m.slip time) (m.number + 1) rest
    tally-give = record {
      next-is = refl;
      counted = λ p. omega (arith, counts p, count-append p (given_out h) (sent m ∷ []));
      came = λ x i. k.tally.came x (subst (λ (l : List Held). In x l) (sym is) (inr i));
      rising = within_more 0 s.expected (sent m) (given_out h) (first-low s.expected m rest order) k.tally.rising;
      order = rest-order s.expected m rest order;
    }

    start-give : (P : ℕ → Type 0) → (gap_open (m.number + 1) rest ≡ true → P (max s.clock time)) → (gap_open (m.number + 1) rest ≡ false → P 0)
        → P (give m rest (max s.clock time)).after.gap_start
    start-give P f z = by-start P false (gap_open (m.number + 1) rest) 0 (max s.clock time) (λ t u. true-not-false false u refl) (λ t u. f t) z

    -- after a give the gap begins anew
    since : (x : ℕ) → (max (told h) time ≡ x) ⊎ (⊥ × OpenSince x h) → (give m rest (max s.clock time)).after.gap_start ≤ x
    since x (inl q) = start-give (λ (g : ℕ). g ≤ x) (λ t. omega (arith, k.told_is)) (λ t. omega arith)
    since x (inr q) = absurd q.0

    pub sound-give : Sound (h ▷ gives way m.number m.slip time) (give m rest (max s.clock time)).after
    sound-give = record {
      tally = tally-give;
      told_is = rw k.told_is refl;
      past = start-give (λ (g : ℕ). g ≤ max s.clock time) (λ t. omega arith) (λ t. omega arith);
      stood = λ u. (
        gap-shows (h ▷ gives way m.number m.slip time) (m.number + 1) rest tally-give u,
        inl (start-give (λ (g : ℕ). max (told h) time ≡ g) (λ t. rw k.told_is refl) (λ t. true-not-false _ u t)),
      );
      earliest = λ x o. since x o.1;
      fair = (k.fair, rightly);
    }

-- ---- what is due may pass, and what may pass is due

or-second : (a b : Bool) → b ≡ true → a or b ≡ true
or-second true b e = refl
or-second false b e = e

module _ (h : History) (s : Stream) (k : Sound h s) (m : Held) (rest : List Held) (is : s.held ≡ m ∷ rest) (time : ℕ) where
  pub due-passes : due s m (max s.clock time) ≡ true → next h < m.number → MayPass h take m.number time
  due-passes d lt =
      let e : s.expected < m.number = omega (arith, k.tally.next-is) in
      let w = sym (or-next (m.number =? s.expected) _ (ne_eqb m.number s.expected (λ q. omega arith))) ∙ d in
      let p : 0 < m.timeout = ltb-true 0 m.timeout (and_left (0 <? m.timeout) _ w) in
      let q : m.timeout ≤ max s.clock time - s.gap_start = leb-true m.timeout _ (and_right (0 <? m.timeout) _ w) in
      let g : gap_open s.expected s.held ≡ true = ap (gap_open s.expected) is ∙ lt-ltb s.expected m.number e in
      (m, k.tally.came m (subst (λ (l : List Held). In m l) (sym is) (inl refl)), refl, omega arith, (s.gap_start, k.stood g, omega (arith, k.told_is)))

-- no number was accepted twice
pub once : (h : History) (s : Stream) → Sound h s → (n : ℕ) → count_held (numbered n) (taken_in h) ≤ 1
once h s k n = go (dec_le s.expected n)
  where
    go : Dec (s.expected ≤ n) → count_held (numbered n) (taken_in h) ≤ 1
    go (yes le) = omega (arith, k.tally.counted (numbered n), count-high n 0 s.expected (given_out h) le k.tally.rising, held-once n s.expected s.held k.tally.order)
    go (no gt) = omega (
      arith,
      k.tally.counted (numbered n),
      held_low n s.expected s.held (omega arith) k.tally.order,
      count-once n 0 (given_out h) (within-rises 0 s.expected (given_out h) k.tally.rising),
    )

pub ordered : (h : History) (s : Stream) → Sound h s → Ordered h s.held
ordered h s k = record {
  kept = k.tally.counted;
  once = once h s k;
  rises = within-rises 0 s.expected (given_out h) k.tally.rising;
  waits = rw k.tally.next-is k.tally.order;
  fair = k.fair;
}

-- the lowest held is due where it is the next, and where it may pass
pub is-due : (h : History) (s : Stream) → Sound h s → (m : Held) (rest : List Held) → s.held ≡ m ∷ rest → (time : ℕ)
    → (m.number ≡ next h) ⊎ MayPass h take m.number time → due s m (max s.clock time) ≡ true
is-due h s k m rest is time (inl e) = or_left (m.number =? s.expected) _ (eq-eqb m.number s.expected (e ∙ k.tally.next-is))
is-due h s k m rest is time (inr (x, i, q, p, (start, stands, le))) =
    let j = k.tally.came m (subst (λ (l : List Held). In m l) (sym is) (inl refl)) in
    let same : x ≡ m = one_of x m (taken_in h) q (once h s k x.number) i j in
    let t : x.timeout ≡ m.timeout = ap (λ (y : Held). y.timeout) same in
    or-second (m.number =? s.expected) _
    (and_both _ _ (lt-ltb 0 m.timeout (omega arith)) (le-leb m.timeout (max s.clock time - s.gap_start) (omega (arith, k.earliest start stands, k.told_is))))
