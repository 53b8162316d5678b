-- W14, OF ONE ROW BY ITSELF: what demand 3 says of its history, and what a last call that gave nothing says of its lowest held.
use Prim.Native.Nat.{ℕ, ◌<◌, ◌≤◌}
use native.Mathlib.Omega.{arith}
use mathlib.Core.Path.{◌≡◌, refl, sym, ap, ◌∙◌}
use mathlib.Core.Bool.{Bool, true}
use mathlib.Core.List.{List, [], ◌∷◌}
use mathlib.Core.Logic.{inl}
use borrow.Author.Tests.{le-leb}
use Rattle.octets.proofs.Tests.{and_left, and_right, and_both}
use Rattle.places.specs.declared.Held.{Held}
use Rattle.rows.specs.Answer.{Answer, given, Outcome, nothing}
use Rattle.rows.specs.Stream.{Stream, fresh, words, ascending, keeps}
use Rattle.rows.specs.Stream as row
use Rattle.rows.proofs.Rules.{kept}
use Rattle.rows.proofs.Keeps.{offer-keeps, take-keeps, force-keeps}
use Rattle.rows.proofs.Cases.{by-offer, by-take, by-force}
use Rattle.history.specs.History.{take, force, accepts, gives, gives_nothing, History, opened, restored, ◌▷◌, Sent, taken_in, given_out, next, count, count_held, numbered, Fair, Ordered}
use Rattle.history.specs.Chain.{Call, offer, give, close, small, noted, closing, row_call}
use Rattle.history.proofs.Counting.{bit_is, first-low, rest-order, held_low, Within, within_more, count-high}
use Rattle.history.proofs.Sound.{Sound, sound-opened, sound-restored, ordered, is-due}
use Rattle.history.proofs.Steps.{Led, step-led}
use Rattle.arrival.specs.Arrival.{Exactly, GaveNothing, in_order, Alone, begins, brought, asks, Heard, AllOut}
use Rattle.arrival.proofs.Rising.{of-each, at_most, none-astray, is-in-order}

-- ---- of any history that demand 3 holds of

-- the lowest held is not the next
abbrev pub NotNext : History → List Held → Type 0
NotNext h [] = Unit {0}
NotNext h (m ∷ rest) = m.number ≡ next h → ⊥

-- what was given out is below the next
given_below : (h : History) → Fair h → Within 0 (next h) (given_out h)
given_below opened f = omega arith
given_below (restored s) f = omega arith
given_below (h ▷ accepts m time) f = given_below h f
given_below (h ▷ gives way n slip time) f = within_more 0 (next h) (record { number = n; slip = slip }) (given_out h) f.1.in-turn (given_below h f.0)
given_below (h ▷ gives_nothing time) f = given_below h f

module _ (n : ℕ) (slip : ℕ → ℕ) (h : History) (low : 1 ≤ next h) (e : Exactly n slip (taken_in h)) where
  -- the next number, not above n, was accepted; it was not given out, and what is held begins above it
  none-held : (held : List Held) → Ordered h held → NotNext h held → held ≡ []
  none-held [] d q = refl
  none-held (m ∷ rest) d q =
      let first : next h ≤ m.number = first-low (next h) m rest d.waits in
      let other : m.number ≡ next h → ⊥ = q in
      let apart : next h < m.number = omega arith in
      let most : m.number ≤ n = at_most n m.number (omega (arith, e.numbers m.number, d.kept (numbered m.number), bit_is m.number m.number refl)) in
      let up : ascending m.number (m ∷ rest) ≡ true = and_both _ _ (le-leb m.number m.number (omega arith)) (rest-order (next h) m rest d.waits) in
      absurd (omega (
        arith,
        e.numbers (next h),
        of-each n (next h) low (omega arith),
        d.kept (numbered (next h)),
        held_low (next h) m.number (m ∷ rest) apart up,
        count-high (next h) 0 (next h) (given_out h) (omega arith) (given_below h d.fair),
      ))

  pub all-out : (held : List Held) → Ordered h held → NotNext h held → AllOut n slip h held
  all-out held d q = record { gave = gave; holds = none }
    where
      none : held ≡ []
      none = none-held held d q

      same : (p : Sent → Bool) → count p (given_out h) ≡ count_held p (taken_in h)
      same p = omega (arith, d.kept p, ap (count_held p) none)

      gave : given_out h ≡ in_order n slip
      gave = is-in-order slip n (given_out h) d.rises (λ i. same (numbered i) ∙ e.numbers i) (same _ ∙ none-astray slip (taken_in h) e.slips)

-- ---- of a row by itself

-- the row keeps the rules, and is the one to which its history leads
pub record Good (h : History) (s : Stream) : Type 0 where
  pub keeps-rules : keeps s ≡ true
  pub led : Led h s

fresh-good : keeps fresh ≡ true
unfolding keeps
fresh-good = refl

call-keeps : (s : Stream) → keeps s ≡ true → (c : Call) → small c ≡ true → keeps (row_call s c).after ≡ true
call-keeps s e (offer m time) w = offer-keeps s e time (and_right (words m) _ w) m (and_left (words m) _ w)
call-keeps s e (give take time) w = take-keeps s e time w
call-keeps s e (give force time) w = force-keeps s e time w
call-keeps s e close w = go s.held
  where
    go : (l : List Held) → keeps (closing s l).after ≡ true
    go [] = fresh-good
    go (m ∷ l) = e

pub good : {h : History} {s : Stream} → Alone h s → Good h s
good begins = record { keeps-rules = fresh-good; led = record { sound = sound-opened; is = refl } }
good (brought s e) = record { keeps-rules = e; led = record { sound = sound-restored s (kept s e); is = refl } }
good (asks {h} {s} x c w) = record { keeps-rules = call-keeps s (good x).keeps-rules c w; led = step-led h s (good x).led (good x).keeps-rules c w }

-- ---- a last call that gave nothing

next-is-taken : (h : History) (s : Stream) → Sound h s → (m : Held) (rest : List Held) (time : ℕ) → s.held ≡ m ∷ rest → m.number ≡ next h → (row.take s time).answer ≡ given m.number m.slip
unfolding row.take
next-is-taken h s k m rest time e q = rw (e, is-due h s k m rest e time (inl q))

lowest-is-forced : (s : Stream) (m : Held) (rest : List Held) (time : ℕ) → s.held ≡ m ∷ rest → (row.force s time).answer ≡ given m.number m.slip
unfolding row.force
lowest-is-forced s m rest time e = rw e

module _ (h : History) (s : Stream) (k : Sound h s) (before : GaveNothing h → NotNext h s.held) where
  abbrev Leaves : Call → Outcome Stream → Type 0
  Leaves c o = GaveNothing (noted h c o.answer) → NotNext (noted h c o.answer) o.after.held

  -- a call that would give the next, and gave nothing
  stayed : (time : ℕ) (a : Answer) → ((m : Held) (rest : List Held) → s.held ≡ m ∷ rest → m.number ≡ next h → a ≡ given m.number m.slip) → nothing ≡ a
      → NotNext (h ▷ gives_nothing time) s.held
  stayed time a f e = go s.held refl
    where
      go : (l : List Held) → s.held ≡ l → NotNext (h ▷ gives_nothing time) l
      go [] is = tt
      go (m ∷ rest) is = λ q. let x = f m rest is q in let z : ◌≡◌ {A = ℕ} 0 1 = cc in omega arith

  not-next-step : (c : Call) → Leaves c (row_call s c)
  not-next-step (offer m time) = by-offer s (Leaves (offer m time)) time m before before before (λ a b c g. absurd g)
  not-next-step (give take time) =
      by-take s (λ o. row.take s time ≡ o → Leaves (give take time) o) time
      (λ q g. stayed time (row.take s time).answer (λ m rest is. next-is-taken h s k m rest time is) (ap (λ (o : Outcome Stream). o.answer) (sym q))) (λ m rest is d q g. absurd g) refl
  not-next-step (give force time) =
      by-force s (λ o. row.force s time ≡ o → Leaves (give force time) o) time
      (λ q g. stayed time (row.force s time).answer (λ m rest is e. lowest-is-forced s m rest time is) (ap (λ (o : Outcome Stream). o.answer) (sym q))) (λ m rest is q g. absurd g) refl
  not-next-step close = go s.held refl
    where
      go : (l : List Held) → s.held ≡ l → Leaves close (closing s l)
      go [] is = λ g. absurd g
      go (m ∷ l) is = before

not-next : {h : History} {s : Stream} → Alone h s → GaveNothing h → NotNext h s.held
not-next begins g = absurd g
not-next (brought s e) g = absurd g
not-next (asks {h} {s} x c w) g = not-next-step h s (good x).led.sound (λ b. not-next x b) c g

-- ---- THE THEOREM

pub one-row : {n : ℕ} {slip : ℕ → ℕ} (x : Heard n slip) → AllOut n slip x.history x.row.held
one-row {n} {slip} x =
    let g = good x.alone in
    all-out n slip x.history (omega (arith, (kept x.row g.keeps-rules).low, g.led.sound.tally.next-is)) x.exactly x.row.held
    (ordered x.history x.row g.led.sound) (not-next x.alone x.ends)
