-- Lists of messages whose numbers rise: where there is one of each number from 1 to n and no other, each with its slip, they are 1 to n in order.
use Prim.Native.Nat.{ℕ, zero, suc, ◌+◌, ◌<◌, ◌≤◌}
use native.Mathlib.Omega.{arith}
use native.Mathlib.Decide.{ℕ_discrete, dec_le}
use mathlib.Core.Path.{◌≡◌, refl, sym, ap, ◌∙◌, subst}
use mathlib.Core.Bool.{Bool, true, false}
use mathlib.Core.List.{List, [], ◌∷◌, ◌++◌}
use mathlib.Core.Logic.{inl, inr}
use borrow.Author.Tests.{eq-eqb, eqb-true, ne_eqb}
use Rattle.octets.specs.Words.{no as nay, between, ◌=?◌}
use Rattle.octets.proofs.Tests.{no_true, inside, below, above, inside-high}
use Rattle.places.specs.declared.Held.{Held}
use Rattle.history.specs.History.{Sent, bit, count, count_held, numbered, In, Rises}
use Rattle.history.proofs.Counting.{bit_is, count-append}
use Rattle.arrival.specs.Arrival.{in_order}

-- ---- one of each number from 1 to n

pub of-each : (n i : ℕ) → 1 ≤ i → i ≤ n → bit (between 1 n i) ≡ 1
of-each n i p q = ap bit (inside 1 n i p q)

pub of-nought : (n : ℕ) → bit (between 1 n 0) ≡ 0
of-nought n = ap bit (below 1 n 0 (omega arith))

pub of-more : (n i : ℕ) → n < i → bit (between 1 n i) ≡ 0
of-more n i p = ap bit (above 1 n i p)

-- a number of which there is one is at most n
pub at_most : (n i : ℕ) → 1 ≤ bit (between 1 n i) → i ≤ n
at_most n i p = go (between 1 n i) refl p
  where
    go : (b : Bool) → between 1 n i ≡ b → 1 ≤ bit b → i ≤ n
    go true e q = inside-high 1 n i e
    go false e q = absurd (omega arith)

-- one number more
pub one_more : (n i : ℕ) → bit (between 1 (suc n) i) ≡ bit (between 1 n i) + bit (n + 1 =? i)
one_more n i = go (dec_le 1 i) (dec_le i n) (ℕ_discrete (n + 1) i)
  where
    go : Dec (1 ≤ i) → Dec (i ≤ n) → Dec (n + 1 ≡ i) → bit (between 1 (suc n) i) ≡ bit (between 1 n i) + bit (n + 1 =? i)
    go (yes p) (yes q) d = omega (arith, of-each (suc n) i p (omega arith), of-each n i p q, ap bit (ne_eqb (n + 1) i (λ e. omega arith)))
    go (yes p) (no q) (yes e) = omega (arith, of-each (suc n) i p (omega arith), of-more n i (omega arith), bit_is i (n + 1) e)
    go (yes p) (no q) (no d) = omega (arith, of-more (suc n) i (omega arith), of-more n i (omega arith), ap bit (ne_eqb (n + 1) i d))
    go (no p) q d = let z : i ≡ 0 = omega arith in rw z (omega (arith, of-nought (suc n), of-nought n, ap bit (ne_eqb (n + 1) 0 (λ e. omega arith))))

-- so a list is exactly 1 to n by its numbers where it has as many of each number as 1 to n
pub of-order : (slip : ℕ → ℕ) (n i : ℕ) → count (numbered i) (in_order n slip) ≡ bit (between 1 n i)
of-order slip zero i = go (dec_le 1 i)
  where
    go : Dec (1 ≤ i) → 0 ≡ bit (between 1 0 i)
    go (yes p) = sym (of-more 0 i p)
    go (no p) = let z : i ≡ 0 = omega arith in rw z (sym (of-nought 0))
of-order slip (suc n) i = omega (arith, of-order slip n i, one_more n i, count-append (numbered i) (in_order n slip) (record { number = n + 1; slip = slip (n + 1) } ∷ []))

-- ---- slips

module _ (slip : ℕ → ℕ) where
  -- a message that bears another slip than its number's
  abbrev pub astray : Sent → Bool
  astray x = nay (x.slip =? slip x.number)

  pub none-astray : (l : List Held) → ((m : Held) → In m l → m.slip ≡ slip m.number) → count_held astray l ≡ 0
  none-astray [] h = refl
  none-astray (m ∷ l) h =
      omega (arith, ap bit (no_true (m.slip =? slip m.number) (eq-eqb m.slip (slip m.number) (h m (inl refl)))), none-astray l (λ x i. h x (inr i)))

  its-slip : (x : Sent) → bit (astray x) ≡ 0 → x.slip ≡ slip x.number
  its-slip x e = go (x.slip =? slip x.number) refl e
    where
      go : (b : Bool) → (x.slip =? slip x.number) ≡ b → bit (nay b) ≡ 0 → x.slip ≡ slip x.number
      go true q z = eqb-true x.slip (slip x.number) q
      go false q z = absurd (omega arith)

  -- ---- the messages from number a on, c of them

  abbrev from : (a c : ℕ) → List Sent
  from a zero = []
  from a (suc c) = record { number = a; slip = slip a } ∷ from (a + 1) c

  from_last : (a c : ℕ) → from a (suc c) ≡ from a c ++ (record { number = a + c; slip = slip (a + c) } ∷ [])
  from_last a zero = let e : a + 0 ≡ a = omega arith in rw e refl
  from_last a (suc c) = let e : a + suc c ≡ (a + 1) + c = omega arith in rw e (ap (λ (l : List Sent). record { number = a; slip = slip a } ∷ l) (from_last (a + 1) c))

  from-1 : (n : ℕ) → from 1 n ≡ in_order n slip
  from-1 zero = refl
  from-1 (suc n) = from_last 1 n ∙ (let e : 1 + n ≡ n + 1 = omega arith in rw (e, from-1 n) refl)

  -- a number of a list that rises from `low` on is not below it
  not-below : (i low : ℕ) (l : List Sent) → Rises low l → 1 ≤ count (numbered i) l → low ≤ i
  not-below i low [] r c = absurd (omega arith)
  not-below i low (x ∷ l) r c = go (ℕ_discrete x.number i) (not-below i (x.number + 1) l r.1)
    where
      go : Dec (x.number ≡ i) → (1 ≤ count (numbered i) l → x.number + 1 ≤ i) → low ≤ i
      go (yes e) f = omega (arith, r.0)
      go (no d) f = omega (arith, r.0, f (omega (arith, ap bit (ne_eqb x.number i d))))

  -- rising from a on, one of each number below a + c and none from there on
  pub only-from : (a c : ℕ) (l : List Sent) → Rises a l → ((i : ℕ) → a ≤ i → i < a + c → count (numbered i) l ≡ 1)
      → ((i : ℕ) → a + c ≤ i → count (numbered i) l ≡ 0) → count astray l ≡ 0 → l ≡ from a c
  only-from a zero [] r one none z = refl
  only-from a zero (x ∷ l) r one none z = absurd (omega (arith, r.0, none x.number (omega (arith, r.0)), bit_is x.number x.number refl))
  only-from a (suc c) [] r one none z = absurd (omega (arith, one a (omega arith) (omega arith)))
  only-from a (suc c) (x ∷ l) r one none z =
      let e = first (ℕ_discrete x.number a) in
      let others : (i : ℕ) → a + 1 ≤ i → bit (x.number =? i) ≡ 0 = λ i p. ap bit (ne_eqb x.number i (λ q. omega arith)) in
      let tail = only-from (a + 1) c l (subst (λ (b : ℕ). Rises (b + 1) l) e r.1)
      (λ i p q. omega (arith, one i (omega arith) (omega arith), others i p)) (λ i p. omega (arith, none i (omega arith), others i (omega arith))) (omega arith) in
      λ i. message e i ∷ tail i
    where
      -- a is there once, and the first is the lowest
      first : Dec (x.number ≡ a) → x.number ≡ a
      first (yes e) = e
      first (no d) = absurd (omega (arith, r.0, not-below a (x.number + 1) l r.1 (omega (arith, one a (omega arith) (omega arith), ap bit (ne_eqb x.number a d)))))

      message : x.number ≡ a → x ≡ record { number = a; slip = slip a }
      message e = λ i. record { number = e i; slip = (its-slip x (omega arith) ∙ ap slip e) i }

  -- rising, exactly 1 to n
  pub is-in-order : (n : ℕ) (l : List Sent) → Rises 0 l → ((i : ℕ) → count (numbered i) l ≡ bit (between 1 n i)) → count astray l ≡ 0 → l ≡ in_order n slip
  is-in-order n l r each z =
      only-from 1 n l (from_one l r (each 0 ∙ of-nought n)) (λ i p q. each i ∙ of-each n i p (omega arith)) (λ i p. each i ∙ of-more n i (omega arith)) z ∙ from-1 n
    where
      from_one : (l : List Sent) → Rises 0 l → count (numbered 0) l ≡ 0 → Rises 1 l
      from_one [] r e = tt
      from_one (x ∷ l) r e = (go (ℕ_discrete x.number 0), r.1)
        where
          go : Dec (x.number ≡ 0) → 1 ≤ x.number
          go (yes q) = absurd (omega (arith, bit_is 0 x.number q))
          go (no d) = omega arith
