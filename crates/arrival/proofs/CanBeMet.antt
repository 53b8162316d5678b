-- W14, the premises can be met for every n from 1 to 4294967295, for every stream and whatever slips of 32 bits, as document 02's sentence has them: the
-- messages come in order, and each is taken as it comes. On a row by itself for n = 0 too.
use Prim.Native.Nat.{ℕ, zero, suc, ◌+◌, ◌≤◌}
use native.Mathlib.Omega.{arith}
use mathlib.Core.Path.{◌≡◌, refl, sym, ap, ◌∙◌, subst}
use mathlib.Core.Bool.{true}
use mathlib.Core.List.{List, [], ◌∷◌, ◌++◌}
use mathlib.Core.Logic.{inl, inr}
use mathlib.Core.Option.{Option, none, some as just}
use borrow.Author.Tests.{lt-ltb, le-ltb, eq-eqb}
use Rattle.octets.proofs.Tests.{if_yes, and_both}
use Rattle.utf8.specs.Utf8 as utf8
use Rattle.callsigns.specs.Runs as runs
use Rattle.callsigns.specs.Callsign.{alnum, suffix, base_length, callsign}
use Rattle.names.specs.Texts.{text_byte, ruled, id_text, stream_id}
use Rattle.keys.specs.declared.Key.{Key}
use Rattle.keys.specs.Key.{same_key, key_of, named_of}
use Rattle.keys.proofs.SameKey.{same_key-refl}
use Rattle.places.specs.declared.Held.{Held}
use Rattle.rows.specs.declared.Row.{Row}
use Rattle.rows.specs.Answer.{accepted, given, Outcome}
use Rattle.rows.specs.Stream.{Stream, fresh, word, words}
use Rattle.rows.specs.Stream as row
use Rattle.rows.proofs.Rules.{unpacks}
use Rattle.rows.proofs.Keeps.{fresh_keeps}
use Rattle.streams.specs.declared.Table.{Table}
use Rattle.streams.specs.Table.{empty, has_key}
use Rattle.streams.specs.Meaning.{row_for}
use Rattle.streams.proofs.Alone.{named-is}
use Rattle.streams.proofs.Unknown as unknown
use Rattle.history.specs.History.{take, Event, accepts, gives_nothing, History, opened, restored, ◌▷◌, numbered, In}
use Rattle.history.specs.Chain.{Call, offer, give, small, asked, Log, answered, noted, mine, Chain, begins, row_call, replay}
use Rattle.history.specs.Cards.{originator, chat}
use Rattle.history.proofs.Counting.{held-append}
use Rattle.history.proofs.Demand3.{rules-kept, own-answer, no-row-no-history}
use Rattle.arrival.specs.Arrival.{Exactly, GaveNothing, Heard}
use Rattle.arrival.specs.Arrival as alone
use Rattle.arrival.specs.Workshops.{OnFresh, no-row-yet, on-it, AsWritten}
use Rattle.arrival.proofs.Rising.{one_more, of-order}
use Rattle.arrival.proofs.OneRow.{good}
use Rattle.arrival.proofs.Workshops.{row-of, heard}
use Rattle.arrival.proofs.Sentence.{chain-of, as-workshop}

-- ---- the row that expects e and holds nothing, its next message, and a take after it

abbrev at : ℕ → Stream
at e = record { expected = e; clock = 0; gap_start = 0; held = [] }

abbrev holding : ℕ → Held → Stream
holding e m = record { expected = e; clock = 0; gap_start = 0; held = m ∷ [] }

module _ (slip : ℕ → ℕ) (i : ℕ) where
  abbrev message : Held
  message = record { number = i + 1; timeout = 0; slip = slip (i + 1) }

  offers-next : row.offer (at (i + 1)) message 0 ≡ record { answer = accepted; after = holding (i + 1) message }
  unfolding row.offer
  offers-next = rw (le-ltb (i + 1) (i + 1) (omega arith)) refl

  takes-next : row.take (holding (i + 1) message) 0 ≡ record { answer = given (i + 1) (slip (i + 1)); after = at ((i + 1) + 1) }
  unfolding row.take
  takes-next = rw (eq-eqb (i + 1) (i + 1) refl) refl

  one-more-exactly : (l : List Held) → Exactly i slip l → Exactly (suc i) slip (l ++ (message ∷ []))
  one-more-exactly l e = record { numbers = λ j. omega (arith, e.numbers j, one_more i j, held-append (numbered j) l (message ∷ [])); slips = λ y. slips y l (e.slips y) }
    where
      slips : (y : Held) (l : List Held) → (In y l → y.slip ≡ slip y.number) → In y (l ++ (message ∷ [])) → y.slip ≡ slip y.number
      slips y [] f (inl z) = rw z refl
      slips y [] f (inr j) = elim j [ ]
      slips y (x ∷ l) f (inl z) = f (inl z)
      slips y (x ∷ l) f (inr j) = slips y l (λ b. f (inr b)) j

takes_none : (e : ℕ) → row.take (at e) 0 ≡ row.stay (at e) 0
unfolding row.take
takes_none e = refl

-- ---- on the table

pub empty-row : (k : Key) → row_for k empty ≡ none
unfolding has_key
empty-row k = refl

module _ (o s : List ℕ) (p : callsign o ≡ true) (q : stream_id s ≡ true) where
  abbrev k : Key
  k = key_of o s

  own : same_key k (named_of o s).key ≡ true
  own = rw (named-is o s p q) (same_key-refl k)

  -- a call that is answered as the row by itself answers it: the history and the row after it
  module _ {l : Log} {t : Table} (x : Chain l t) (c : Call) (w : small c ≡ true) (r : Outcome Stream) (a : (asked t o s c).answer ≡ (row_call (replay (mine k l)) c).answer)
      (e : row_call (replay (mine k l)) c ≡ r) where
    says : (asked t o s c).answer ≡ r.answer
    says = a ∙ ap (λ (y : Outcome Stream). y.answer) e

    history-is : mine k (answered l o s c (asked t o s c).answer) ≡ noted (mine k l) c r.answer
    history-is = if_yes _ _ _ own ∙ ap (noted (mine k l) c) says

    row-after : replay (mine k (answered l o s c (asked t o s c).answer)) ≡ r.after
    row-after = ap replay (if_yes _ _ _ own ∙ ap (noted (mine k l) c) a) ∙ sym (good (alone.asks (row-of x k) c w)).led.is ∙ ap (λ (y : Outcome Stream). y.after) e

  -- a stream with a history has a row, and so a call on it is answered as the row by itself answers it
  by_row : {l : Log} {t : Table} → Chain l t → (h : History) (e : Event) → mine k l ≡ h ▷ e → (c : Call) → (asked t o s c).answer ≡ (row_call (replay (mine k l)) c).answer
  by_row {l} {t} x h e is c = go (row_for k t) refl
    where
      HasEvent : History → Type 0
      HasEvent opened = ⊥
      HasEvent (restored r) = Unit {0}
      HasEvent (g ▷ d) = Unit {0}

      go : (y : Option Row) → row_for k t ≡ y → (asked t o s c).answer ≡ (row_call (replay (mine k l)) c).answer
      go none f = absurd (subst HasEvent (sym is ∙ no-row-no-history x k f) tt)
      go (just r) f = own-answer x o s p q r f c

  -- an empty table opens a row for the first
  first-answer : (m : Held) → 1 ≤ m.number → (asked empty o s (offer m 0)).answer ≡ (row.offer fresh m 0).answer
  first-answer m low =
      (unknown.offer-opens empty o s (rules-kept begins) p q (empty-row k) m 0 low 0 refl).answer
      ∙ ap (λ (y : Outcome Row). y.answer) (if_yes _ _ _ fresh_keeps) ∙ ap (λ (y : Stream). (row.offer y m 0).answer) (unpacks fresh)

  -- 1 to i came and were taken; the next offer will be answered as the row by itself answers it, and from 1 on there is a history, and so a row
  record Came (slip : ℕ → ℕ) (i : ℕ) : Type 0 where
    log : Log
    table : Table
    offers : List Held
    on-fresh : OnFresh k log table offers
    exactly : Exactly i slip offers
    row_is : replay (mine k log) ≡ at (i + 1)
    answers : (m : Held) → 1 ≤ m.number → (asked table o s (offer m 0)).answer ≡ (row.offer (replay (mine k log)) m 0).answer
    begun : 1 ≤ i → (h : History) × (e : Event) × (mine k log ≡ h ▷ e)

  module _ (slip : ℕ → ℕ) (n : ℕ) (most : n ≤ 4294967295) (w : (i : ℕ) → 1 ≤ i → i ≤ n → word (slip i) ≡ true) where
    message-small : (i : ℕ) → i + 1 ≤ n → small (offer (message slip i) 0) ≡ true
    message-small i le = and_both (words (message slip i)) _ (and_both (word (i + 1)) _ (lt-ltb (i + 1) 4294967296 (omega arith)) (w (i + 1) (omega arith) le)) refl

    next-came : (i : ℕ) → i + 1 ≤ n → Came slip i → Came slip (suc i)
    next-came i le x =
        let m = message slip i in
        let small-m = message-small i le in
        let held-m : Outcome Stream = record { answer = accepted; after = holding (i + 1) m } in
        let given-m : Outcome Stream = record { answer = given (i + 1) (slip (i + 1)); after = at ((i + 1) + 1) } in
        let before = chain-of x.on-fresh in
        let a = x.answers m (omega arith) in
        let e = ap (λ (y : Stream). row.offer y m 0) x.row_is ∙ offers-next slip i in
        let h = history-is before (offer m 0) small-m held-m a e in
        let with-m = on-it x.on-fresh o s (offer m 0) small-m own (refl, says before (offer m 0) small-m held-m a e) in
        let b = by_row (chain-of with-m) (mine k x.log) (accepts m 0) h (give take 0) in
        let f = ap (λ (y : Stream). row.take y 0) (row-after before (offer m 0) small-m held-m a e) ∙ takes-next slip i in
        let g = history-is (chain-of with-m) (give take 0) refl given-m b f in
        let after-m = on-it with-m o s (give take 0) refl own tt in
        record {
          log = _;
          table = _;
          offers = x.offers ++ (m ∷ []);
          on-fresh = after-m;
          exactly = one-more-exactly slip i x.offers x.exactly;
          row_is = row-after (chain-of with-m) (give take 0) refl given-m b f ∙ (let z : (i + 1) + 1 ≡ suc i + 1 = omega arith in ap at z);
          answers = λ y low. by_row (chain-of after-m) _ _ g (offer y 0);
          begun = λ low. (_, _, g);
        }

    came : (i : ℕ) → i ≤ n → Came slip i
    came zero le = record {
      log = _;
      table = _;
      offers = [];
      on-fresh = no-row-yet begins (empty-row k);
      exactly = record { numbers = of-order slip 0; slips = λ m i. absurd i };
      row_is = refl;
      answers = first-answer;
      begun = λ low. absurd (omega arith);
    }
    came (suc i) le = next-came i (omega arith) (came i (omega arith))

    pub can-be-written : 1 ≤ n → AsWritten k n slip
    can-be-written low =
        let x = came n (omega arith) in
        let begun = x.begun low in
        let before = chain-of x.on-fresh in
        let a = by_row before begun.0 begun.1 begun.2 (give take 0) in
        let e = ap (λ (y : Stream). row.take y 0) x.row_is ∙ takes_none (n + 1) in
        let g = history-is before (give take 0) refl (row.stay (at (n + 1)) 0) a e in
        record {
          log = _;
          table = _;
          offers = x.offers;
          on-fresh = on-it x.on-fresh o s (give take 0) refl own tt;
          exactly = x.exactly;
          ends = subst GaveNothing (sym g) tt;
        }

-- ---- on a row by itself

are-names : (callsign originator ≡ true) × (stream_id chat ≡ true)
unfolding utf8.run runs.run runs.rest alnum suffix base_length callsign text_byte ruled id_text stream_id
are-names = (refl, refl)

-- for n = 0 nothing came, and a take gives nothing
pub can-be-met : (slip : ℕ → ℕ) (n : ℕ) → n ≤ 4294967295 → ((i : ℕ) → 1 ≤ i → i ≤ n → word (slip i) ≡ true) → Heard n slip
can-be-met slip zero most w = record {
  history = opened ▷ gives_nothing 0;
  row = at 1;
  alone = subst (λ (y : Outcome Stream). alone.Alone (noted opened (give take 0) y.answer) y.after) (takes_none 1) (alone.asks alone.begins (give take 0) refl);
  exactly = record { numbers = of-order slip 0; slips = λ m i. absurd i };
  ends = tt;
}
can-be-met slip (suc n) most w = heard (as-workshop (can-be-written originator chat are-names.0 are-names.1 slip (suc n) most w (omega arith)))
