-- What the code makes of a row that keeps its rules is what document 01 says of the stream, packed. Over plain values.
use Rattle.std.specs.Prelude.{if◌then◌else◌}
use mathlib.Core.Path.{◌≡◌, refl, sym, ap, ◌∙◌}
use Prim.Native.Nat.{ℕ, zero, suc, ◌+◌, ◌-◌, ◌<◌, ◌≤◌, max}
use native.Mathlib.Omega.{arith}
use mathlib.Core.Bool.{Bool, true, false}
use mathlib.Core.List.{List, [], ◌∷◌, ◌++◌}
use lib.ListN.{length, get_or, take, drop}
use lib.Seq.{length-take-le}
use borrow.Author.Tests.{lt-ltb, le-ltb, ltb-true, ltb-false}
use Rattle.octets.specs.Words.{◌and◌, ◌<?◌, ◌≤?◌}
use Rattle.octets.proofs.Tests.{if_yes, if_no, and_left, and-next, and-not-left, true-not-false}
use Rattle.std.specs.Prelude.{Result, Ok, Err}
use Rattle.std.specs.Result.{is_err}
use Rattle.refusals.specs.Numbers.{stale, already_held, row_full}
use Rattle.refusals.specs.declared.Refusal.{Refusal}
use Rattle.refusals.specs.Refusals.{refusal_in}
use Rattle.refusals.proofs.Told.{not-0}
use Rattle.row_numbers.specs.Numbers.{refuses_offer, due_by}
use Rattle.places.specs.declared.Held.{Held}
use Rattle.rows.specs.declared.Row.{Row}
use Rattle.rows.specs.Answer.{Answer, given, nothing, accepted, refused, Outcome, refuse, accepting}
use Rattle.rows.specs.Stream.{Stream, ascending, above, holds, gap_open, insert, offer, accept, stay, give, take as takes, take_from, force, force_from}
use Rattle.rows.specs.Row.{blank, held_in, stream_of, places, keeps_row, packed, checked, offer_of, take_of, force_of}
use Rattle.rows.specs.Steps.{place_for, above_by, start_after, due_from, given_if}
use Rattle.places.proofs.Packing.{Placed, counted, placed, lowest-of, rest-taken, rest-placed, rest-counted, more-placed, more-taken, length-insert}
use Rattle.rows.proofs.Rules.{kept_row, placed-in, row_is, packs, above-count, room}

-- an outcome from its parts
pub with_row : (a : Answer) (r q : Row) → r ≡ q → ◌≡◌ {A = Outcome Row} (record { answer = a; after = r }) (record { answer = a; after = q })
with_row a r q e = ap {B = Outcome Row} (λ (x : Row). record { answer = a; after = x }) e

module _ (r : Row) (k : keeps_row r ≡ true) where
  w : Placed r.count r.held
  w = placed-in r k

  -- a refusal hands the row back as it came
  pub refusal_is : (n : ℕ) → refuse n r ≡ packed (refuse n (stream_of r))
  refusal_is n = with_row (refused n) _ _ (packs r k)

  pub stay-is : (clock : ℕ)
      → ◌≡◌ {A = Outcome Row}
      (record { answer = nothing; after = record { expected = r.expected; clock = clock; gap_start = r.gap_start; count = r.count; held = r.held } })
      (packed (stay (stream_of r) clock))
  stay-is clock = with_row nothing _ _ (row_is (stay (stream_of r) clock).after r.count r.held (counted _ _ w) (placed _ _ w))

  pub accept-is : (m : Held) (clock start p : ℕ) (more : List Held) (before after : Bool)
      → length (held_in r) < 16
      → p ≡ place_for m.number (held_in r)
      → more ≡ take 16 (take p r.held ++ (m ∷ drop p r.held))
      → before ≡ gap_open r.expected (held_in r)
      → after ≡ gap_open r.expected (take (r.count + 1) more)
      → start ≡ start_after before after r.gap_start clock
      → ◌≡◌ {A = Outcome Row}
      (record { answer = accepted; after = record { expected = r.expected; clock = clock; gap_start = start; count = r.count + 1; held = more } })
      (packed (accept (stream_of r) m clock))
  accept-is m clock start p more before after room pp mm bb aa ss =
      let l = held_in r in
      let n : r.count ≡ length l = counted _ _ w in
      let h : more ≡ places (insert m l) =
      mm ∙ ap (λ (h : List Held). take 16 (take p h ++ (m ∷ drop p h))) (placed _ _ w)
      ∙ ap (λ (k : ℕ). take 16 (take k (places l) ++ (m ∷ drop k (places l)))) pp
      ∙ more-placed m l room in
      let a : after ≡ gap_open r.expected (insert m l) =
      aa ∙ ap (λ (k : ℕ). gap_open r.expected (take (k + 1) more)) n
      ∙ ap (λ (h : List Held). gap_open r.expected (take (length l + 1) h)) h
      ∙ ap (gap_open r.expected) (more-taken m l) in
      let g : start ≡ (accept (stream_of r) m clock).after.gap_start =
      ss ∙ ap (λ (b : Bool). start_after b after r.gap_start clock) bb
      ∙ ap (λ (b : Bool). start_after (gap_open r.expected l) b r.gap_start clock) a in
      with_row accepted _ _
      (ap {B = Row} (λ (x : ℕ). record { expected = r.expected; clock = clock; gap_start = x; count = r.count + 1; held = more }) g
      ∙ row_is (accept (stream_of r) m clock).after (r.count + 1) more (ap (λ (k : ℕ). k + 1) n ∙ sym (length-insert m l)) h)

  module _ (z : 0 < r.count) where
    lowest : Held
    lowest = get_or r.held 0 blank

    pub first-held : held_in r ≡ get_or r.held 0 blank ∷ take (r.count - 1) (drop 1 r.held)
    first-held = lowest-of r.held r.count z (omega (arith, w.long))

    pub give-is : (clock next start : ℕ) (rest : List Held) (after : Bool)
        → rest ≡ drop 1 r.held ++ (blank ∷ [])
        → next ≡ (get_or r.held 0 blank).number + 1
        → after ≡ gap_open next (take (r.count - 1) rest)
        → start ≡ start_after false after 0 clock
        → ◌≡◌ {A = Outcome Row}
        (record {
          answer = given (get_or r.held 0 blank).number (get_or r.held 0 blank).slip;
          after = record { expected = next; clock = clock; gap_start = start; count = r.count - 1; held = rest };
        })
        (packed (force_from (stream_of r) clock (held_in r)))
    give-is clock next start rest after p q o g =
        let h = get_or r.held 0 blank in
        let t = take (r.count - 1) (drop 1 r.held) in
        let o' : after ≡ gap_open (h.number + 1) t =
        o ∙ ap (λ (n : ℕ). gap_open n (take (r.count - 1) rest)) q
        ∙ ap (λ (l : List Held). gap_open (h.number + 1) (take (r.count - 1) l)) p
        ∙ ap (gap_open (h.number + 1)) (rest-taken _ _ z w) in
        let g' : start ≡ (give h t clock).after.gap_start = g ∙ ap (λ (b : Bool). start_after false b 0 clock) o' in
        with_row (given h.number h.slip) _ _
        (ap {B = Row} (λ (x : ℕ). record { expected = x; clock = clock; gap_start = start; count = r.count - 1; held = rest }) q
        ∙ ap {B = Row} (λ (x : ℕ). record { expected = h.number + 1; clock = clock; gap_start = x; count = r.count - 1; held = rest }) g'
        ∙ row_is (give h t clock).after (r.count - 1) rest (rest-counted _ _ z w) (p ∙ rest-placed _ _ z w))
        ∙ ap (λ (l : List Held). packed (force_from (stream_of r) clock l)) (sym first-held)

  -- whether the lowest is due
  pub due-is : (clock : ℕ)
      → due_by r.count (get_or r.held 0 blank).number (get_or r.held 0 blank).timeout r.expected r.gap_start clock ≡ due_from (stream_of r) clock (held_in r)
  due-is clock = go r.count refl
    where
      go : (n : ℕ) → r.count ≡ n
          → due_by r.count (get_or r.held 0 blank).number (get_or r.held 0 blank).timeout r.expected r.gap_start clock ≡ due_from (stream_of r) clock (held_in r)
      go zero q = and-not-left _ _ (le-ltb 0 r.count (omega arith)) ∙ sym (ap (λ (k : ℕ). due_from (stream_of r) clock (take k r.held)) q)
      go (suc n) q = and-next _ _ (lt-ltb 0 r.count (omega arith)) ∙ ap (due_from (stream_of r) clock) (sym (first-held (omega arith)))

-- what a take does is decided by the lowest
pub take-is : (s : Stream) (clock : ℕ) (l : List Held) → take_from s clock l ≡ (if due_from s clock l then force_from s clock l else stay s clock)
take-is s clock [] = refl
take-is s clock (m ∷ l) = refl

pub none-held : (r : Row) → r.count ≡ 0 → held_in r ≡ []
none-held r z = ap (λ (n : ℕ). take n r.held) z

-- how many stand above expected
pub above-is : (k : ℕ) (gap : Bool) (r : Row) → length r.held ≡ 16 → r.count ≤ 16 → ascending r.expected (held_in r) ≡ true → gap ≡ gap_open r.expected (held_in r)
    → k ≡ above_by gap r.count → k ≡ above r.expected (held_in r)
above-is k gap r l m a g e =
    e ∙ ap (λ (b : Bool). above_by b r.count) g ∙ ap (above_by (gap_open r.expected (held_in r))) (sym (length-take-le r.count r.held (omega arith))) ∙ above-count r.expected (held_in r) a

-- a take and a force, by whether the lowest may be given
pub take-given : (r : Row) (due : Bool) (clock time : ℕ)
    → due ≡ due_by r.count (get_or r.held 0 blank).number (get_or r.held 0 blank).timeout r.expected r.gap_start clock
    → clock ≡ max r.clock time → given_if r due clock ≡ take_of r time
unfolding takes
take-given r due clock time p q = go (keeps_row r) refl
  where
    s : Stream
    s = stream_of r

    go : (b : Bool) → keeps_row r ≡ b → given_if r due clock ≡ take_of r time
    go false k = if_no _ _ _ k ∙ sym (if_no _ _ _ k)
    go true k =
        ap (λ (b : Bool). checked r (if b then force_from s clock s.held else stay s clock)) (p ∙ due-is r k clock)
        ∙ ap (λ (o : Outcome Stream). checked r o) (sym (take-is s clock s.held) ∙ ap (λ (n : ℕ). take_from s n s.held) q)

pub force-given : (r : Row) (due : Bool) (clock time : ℕ) → due ≡ (0 <? r.count) → clock ≡ max r.clock time → given_if r due clock ≡ force_of r time
unfolding force
force-given r due clock time p q =
    ap (λ (b : Bool). checked r (if b then force_from s clock s.held else stay s clock)) p
    ∙ ap (λ (o : Outcome Stream). checked r o) (go r.count refl ∙ ap (λ (n : ℕ). force_from s n s.held) q)
  where
    s : Stream
    s = stream_of r

    go : (n : ℕ) → r.count ≡ n → (if 0 <? r.count then force_from s clock s.held else stay s clock) ≡ force_from s clock s.held
    go zero e = if_no _ _ _ (le-ltb 0 r.count (omega arith)) ∙ ap (λ (l : List Held). force_from s clock l) (sym (none-held r e))
    go (suc n) e = if_yes _ _ _ (lt-ltb 0 r.count (omega arith))

pub due-held : (n : ℕ) (b : Bool) → (0 <? n and b) ≡ true → 0 < n
due-held n b e = ltb-true 0 n (and_left (0 <? n) b e)

-- ---- an offer, by the number that refuses it

-- the number, on a row that keeps the rules
abbrev refuses : Stream → Held → ℕ
refuses s m = refuses_offer true m.number s.expected (holds m.number s.held) (above s.expected s.held)

offer-by : (s : Stream) (m : Held) (time : ℕ) → offer s m time ≡ (if 0 <? refuses s m then refuse (refuses s m) s else accept s m (max s.clock time))
unfolding offer
offer-by s m time = go (m.number <? s.expected) (holds m.number s.held) (s.expected <? m.number and 15 ≤? above s.expected s.held)
  where
    go : (a b c : Bool)
        → (if a then refuse stale s else if b then refuse already_held s else if c then refuse row_full s else accept s m (max s.clock time))
        ≡ (let n = (if a then stale else if b then already_held else if c then row_full else 0) in if 0 <? n then refuse n s else accept s m (max s.clock time))
    go true b c = refl
    go false true c = refl
    go false false true = refl
    go false false false = refl

-- what the code hands to `refuses_offer`, and what comes of it
module _ (r : Row) (m : Held) (n : ℕ) (long : length r.held ≡ 16) (keeps known gap : Bool)
    (k : keeps ≡ keeps_row r) (h : known ≡ holds m.number (held_in r)) (g : gap ≡ gap_open r.expected (held_in r))
    (e : n ≡ refuses_offer keeps m.number r.expected known (above_by gap r.count)) where
  -- on a row that keeps the rules the count and the gap say how many stand above expected
  is-refuses : keeps_row r ≡ true → n ≡ refuses (stream_of r) m
  is-refuses q =
      let w = kept_row r q in
      e ∙ ap (λ (b : Bool). refuses_offer b m.number r.expected known (above_by gap r.count)) (k ∙ q)
      ∙ ap (λ (b : Bool). refuses_offer true m.number r.expected b (above_by gap r.count)) h
      ∙ ap (refuses_offer true m.number r.expected (holds m.number (held_in r))) (above-is _ gap r long w.most w.stream.order g refl)

  pub offer-refused : (time : ℕ) → (n ≡ 0 → ⊥) → refuse n r ≡ offer_of r m time
  offer-refused time z = go (keeps_row r) refl
    where
      go : (b : Bool) → keeps_row r ≡ b → refuse n r ≡ offer_of r m time
      go false q = ap (λ (x : ℕ). refuse x r) (e ∙ ap (λ (b : Bool). refuses_offer b m.number r.expected known (above_by gap r.count)) (k ∙ q)) ∙ sym (if_no _ _ _ q)
      go true q =
          let f = is-refuses q in
          refusal_is r q n
          ∙ ap packed (ap (λ (x : ℕ). refuse x (stream_of r)) f ∙ sym (offer-by (stream_of r) m time ∙ if_yes _ _ _ (ap (λ (x : ℕ). 0 <? x) (sym f) ∙ lt-ltb 0 n (omega (arith, z)))))
          ∙ sym (if_yes _ _ _ q)

  -- 0: the row keeps the rules, and the message finds its place
  module _ (z : n ≡ 0) where
    pub offer-keeps : keeps_row r ≡ true
    offer-keeps = go (keeps_row r) refl
      where
        go : (b : Bool) → keeps_row r ≡ b → keeps_row r ≡ true
        go true q = q
        go false q = let f = e ∙ ap (λ (b : Bool). refuses_offer b m.number r.expected known (above_by gap r.count)) (k ∙ q) in absurd (omega (arith, f, z))

    pub offer-room : length (held_in r) < 16
    offer-room = go (m.number <? r.expected) (holds m.number (held_in r)) (r.expected <? m.number and 15 ≤? above r.expected (held_in r)) refl refl refl (sym (is-refuses offer-keeps) ∙ z)
      where
        go : (a b c : Bool) → (m.number <? r.expected) ≡ a → holds m.number (held_in r) ≡ b → (r.expected <? m.number and 15 ≤? above r.expected (held_in r)) ≡ c
            → (if a then stale else if b then already_held else if c then row_full else 0) ≡ 0 → length (held_in r) < 16
        go true b c p q s f = absurd (omega (arith, f))
        go false true c p q s f = absurd (omega (arith, f))
        go false false true p q s f = absurd (omega (arith, f))
        go false false false p q s f = room (stream_of r) m.number (kept_row r offer-keeps).stream (ltb-false _ _ p) q s

    pub offer-accepted : (time : ℕ) → packed (accept (stream_of r) m (max r.clock time)) ≡ offer_of r m time
    offer-accepted time =
        ap packed (sym (offer-by (stream_of r) m time ∙ if_no _ _ _ (ap (λ (x : ℕ). 0 <? x) (sym (is-refuses offer-keeps) ∙ z)))) ∙ sym (if_yes _ _ _ offer-keeps)

-- ---- what a test that refuses answers

pub err-says : (a : Result Unit Refusal) → is_err a ≡ true → (accepting a ≡ refused (refusal_in a)) × (refusal_in a ≡ 0 → ⊥)
err-says (Ok x) e = true-not-false false e refl
err-says (Err why) e = (refl, not-0 why)

pub ok-says : (a : Result Unit Refusal) → is_err a ≡ false → refusal_in a ≡ 0
ok-says (Ok x) e = refl
ok-says (Err why) e = true-not-false true refl e
