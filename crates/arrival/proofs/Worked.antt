-- W14, worked by computation: the premises can be met, in two orders and on a row that is opened again; and what goes wrong where refused offers count,
-- slips differ, or the last take is left out.
use Prim.Native.Nat.{ℕ}
use native.Mathlib.Omega.{arith}
use mathlib.Core.Path.{◌≡◌, refl, sym, ap, ◌∙◌, subst}
use mathlib.Core.Bool.{Bool, true}
use mathlib.Core.List.{List, [], ◌∷◌, ◌++◌}
use mathlib.Core.Logic.{inl, inr}
use mathlib.Core.Option.{none}
use borrow.Author.Tests.{eqb-true}
use Rattle.octets.specs.Words.{every, ◌=?◌}
use Rattle.octets.proofs.Tests.{and_left, and_right}
use Rattle.utf8.specs.Utf8 as utf8
use Rattle.callsigns.specs.Runs as runs
use Rattle.callsigns.specs.Callsign.{alnum, suffix, base_length, callsign, same_call}
use Rattle.names.specs.Texts.{text_byte, ruled, id_text, stream_id}
use Rattle.keys.specs.Key.{same_key, key_of, is_no_key, keeps_key, named_of}
use Rattle.places.specs.declared.Held.{Held}
use Rattle.rows.specs.Answer.{refused}
use Rattle.rows.specs.Row.{keeps_row, is_no_row}
use Rattle.rows.specs.Stream as stream
use Rattle.streams.specs.declared.Table.{Table}
use Rattle.streams.specs.Table.{keeps_table, keeps_slot, has_key, keeps_slots}
use Rattle.streams.specs.Calls as table
use Rattle.image.specs.Image.{table_of, load_of}
use Rattle.image.proofs.Keeps as saved
use Rattle.history.specs.History.{Sent, taken_in, count, count_held, numbered, In}
use Rattle.history.specs.Chain.{small, Log, mine, Chain, begins, asks}
use Rattle.history.specs.Cards.{originator, chat}
use Rattle.history.proofs.Demand3.{rules-kept}
use Rattle.arrival.specs.Arrival.{Exactly, GaveNothing, in_order}
use Rattle.arrival.specs.Workshops.{list_of, Workshop, OnFresh, no-row-yet, on-it, on-another, load-refused, AsWritten}
use Rattle.arrival.specs.Worked.{StreamCall, Moment, ask, ask_all, before, after, key, slip, other_slip, message, timed, other_message, bring, take_at, elsewhere, messages, forward, mixed, closed, reopened, straight, late, forced, full, relabelled, unasked, mixed_messages, Computed, AllOffers, OtherSlips, NoLastTake, Differs}
use Rattle.arrival.proofs.Rising.{of-order}
use Rattle.arrival.proofs.CanBeMet.{empty-row}

-- ---- the calls of an arrival are a chain

abbrev chained : (x : Moment) (l : List StreamCall) → every (λ a. small a.call) l ≡ true → Chain x.log x.table → Chain (ask_all x l).log (ask_all x l).table
chained x [] w c = c
chained x (a ∷ l) w c = chained (ask x a) l (and_right (small a.call) _ w) (asks c originator a.id a.call (and_left (small a.call) _ w))

abbrev chain-after : (l : List StreamCall) → every (λ a. small a.call) l ≡ true → Chain (after l).log (after l).table
chain-after l w = chained before l w begins

-- ---- a list of messages by its own words: as many of each number as of 1 to n, each with its slip

by-test : (slip : ℕ → ℕ) (l : List Held) → every (λ m. m.slip =? slip m.number) l ≡ true → (m : Held) → In m l → m.slip ≡ slip m.number
by-test slip [] e m i = absurd i
by-test slip (x ∷ l) e m (inl q) = rw q (eqb-true x.slip (slip x.number) (and_left (x.slip =? slip x.number) _ e))
by-test slip (x ∷ l) e m (inr i) = by-test slip l (and_right (x.slip =? slip x.number) _ e) m i

as_many : (n : ℕ) (slip : ℕ → ℕ) (l : List Held) → ((i : ℕ) → count_held (numbered i) l ≡ count (numbered i) (in_order n slip)) → every (λ m. m.slip =? slip m.number) l ≡ true
    → Exactly n slip l
as_many n slip l e t = record { numbers = λ i. e i ∙ of-order slip n i; slips = by-test slip l t }

-- ---- a load of no image at all is refused, and leaves the table as it was

no-image : table_of [] ≡ none
unfolding table_of
no-image = refl

no-image-refused : (t : Table) → keeps_table t ≡ true → (load_of t []).answer ≡ refused 16
unfolding load_of
no-image-refused t e = rw (e, no-image)

-- log and table are as they were, so the type does not show the load: it is in the proof alone
after-refused-load : {l : Log} {t : Table} {m : List Held} → Chain l t → OnFresh key l t m → OnFresh key l t m
after-refused-load {l} {t} {m} c x =
    let e = no-image-refused t (rules-kept c) in
    subst (λ (u : Table). OnFresh key l u m) (saved.load-refused t [] 16 e) (load-refused x [] 16 e)

-- ---- by computation

abbrev Ends : List StreamCall → Type 0
Ends l = GaveNothing (mine key (after l).log)

-- what else of the arrivals holds by computation
record More : Type 0 where
  forward-fresh : OnFresh key (after forward).log (after forward).table (messages 1 4)
  mixed-fresh : OnFresh key (after mixed).log (after mixed).table mixed_messages
  reopened-fresh : OnFresh key (after reopened).log (after reopened).table (message 2 ∷ message 1 ∷ [])
  forward-ends : Ends forward
  mixed-ends : Ends mixed
  reopened-ends : Ends reopened
  straight-1-ends : Ends (straight 1 1)
  straight-2-ends : Ends (straight 1 2)
  straight-17-ends : Ends (straight 1 17)
  late-ends : Ends late
  forced-ends : Ends forced
  full-ends : Ends full
  relabelled-ends : Ends relabelled

pub computed : Computed
unfolding utf8.run runs.run runs.rest alnum suffix base_length callsign same_call text_byte ruled id_text stream_id same_key key_of is_no_key keeps_key named_of keeps_row is_no_row stream.keeps stream.offer stream.take stream.force keeps_slot has_key keeps_slots table.look_up
computed = record {
  forward-comes = record { answers-are = refl; offers-are = refl; accepts-are = refl; list-is = refl };
  mixed-comes = record { answers-are = refl; offers-are = refl; accepts-are = refl; list-is = refl };
  reopened-comes = record { answers-are = refl; offers-are = refl; accepts-are = refl; list-is = refl };
  straight-1-comes = record { answers-are = refl; offers-are = refl; accepts-are = refl; list-is = refl };
  straight-2-comes = record { answers-are = refl; offers-are = refl; accepts-are = refl; list-is = refl };
  straight-17-comes = record { answers-are = refl; offers-are = refl; accepts-are = refl; list-is = refl };
  late-comes = record { answers-are = refl; offers-are = refl; accepts-are = refl; list-is = refl };
  forced-comes = record { answers-are = refl; offers-are = refl; accepts-are = refl; list-is = refl };
  full-comes = record { answers-are = refl; offers-are = refl; accepts-are = refl; list-is = refl };
  relabelled-comes = record { answers-are = refl; offers-are = refl; accepts-are = refl; list-is = refl };
  unasked-comes = record { answers-are = refl; offers-are = refl; accepts-are = refl; list-is = refl };
}

more : More
unfolding utf8.run runs.run runs.rest alnum suffix base_length callsign same_call text_byte ruled id_text stream_id same_key key_of is_no_key keeps_key named_of keeps_row is_no_row stream.keeps stream.offer stream.take stream.force keeps_slot has_key keeps_slots table.look_up
more = record {
  forward-fresh =
      let a = no-row-yet begins (empty-row key) in
      let b = on-it a originator chat (bring 1).call refl refl (refl, refl) in
      let c = on-it b originator chat (take_at 7).call refl refl tt in
      let d = on-it c originator chat (bring 2).call refl refl (refl, refl) in
      let e = on-it d originator chat (bring 3).call refl refl (refl, refl) in
      let f = on-it e originator chat (take_at 5).call refl refl tt in
      let g = on-it f originator chat (bring 4).call refl refl (refl, refl) in
      let h = on-it g originator chat (take_at 0).call refl refl tt in
      let i = on-it h originator chat (take_at 0).call refl refl tt in
      on-it i originator chat (take_at 0).call refl refl tt;
  mixed-fresh =
      let a = no-row-yet begins (empty-row key) in
      let b = on-it a originator chat (take_at 9).call refl refl tt in
      let c = on-it b originator chat (bring 4).call refl refl (refl, refl) in
      let d = on-another c originator (elsewhere 3).id (elsewhere 3).call refl refl in
      let e = on-it d originator chat (take_at 4294967295).call refl refl tt in
      let f = on-it e originator chat (bring 2).call refl refl (refl, refl) in
      let g = on-it f originator chat (bring 1).call refl refl (refl, refl) in
      let h = on-it g originator chat (take_at 3).call refl refl tt in
      let i = on-another h originator (elsewhere 3).id (elsewhere 3).call refl refl in
      let j = on-it i originator chat (bring 3).call refl refl (refl, refl) in
      let k = on-it j originator chat (take_at 0).call refl refl tt in
      let l = on-it k originator chat (take_at 0).call refl refl tt in
      let m = on-it l originator chat (take_at 0).call refl refl tt in
      on-it m originator chat (take_at 0).call refl refl tt;
  -- after the close a load of no image at all is refused
  reopened-fresh =
      let a = after-refused-load (chain-after closed refl) (no-row-yet (chain-after closed refl) refl) in
      let b = on-it a originator chat (bring 2).call refl refl (refl, refl) in
      let c = on-it b originator chat (bring 1).call refl refl (refl, refl) in
      let d = on-it c originator chat (take_at 0).call refl refl tt in
      let e = on-it d originator chat (take_at 0).call refl refl tt in
      on-it e originator chat (take_at 0).call refl refl tt;
  forward-ends = tt;
  mixed-ends = tt;
  reopened-ends = tt;
  straight-1-ends = tt;
  straight-2-ends = tt;
  straight-17-ends = tt;
  late-ends = tt;
  forced-ends = tt;
  full-ends = tt;
  relabelled-ends = tt;
}

-- ---- THE PREMISES CAN BE MET

-- in two orders
pub forward-written : AsWritten key 4 slip
forward-written = record {
  log = (after forward).log;
  table = (after forward).table;
  offers = messages 1 4;
  on-fresh = more.forward-fresh;
  exactly = as_many 4 slip (messages 1 4) (λ i. omega arith) refl;
  ends = more.forward-ends;
}

pub mixed-written : AsWritten key 4 slip
mixed-written = record {
  log = (after mixed).log;
  table = (after mixed).table;
  offers = mixed_messages;
  on-fresh = more.mixed-fresh;
  exactly = as_many 4 slip mixed_messages (λ i. omega arith) refl;
  ends = more.mixed-ends;
}

-- on a row that is opened again
pub reopened-written : AsWritten key 2 slip
reopened-written = record {
  log = (after reopened).log;
  table = (after reopened).table;
  offers = message 2 ∷ message 1 ∷ [];
  on-fresh = more.reopened-fresh;
  exactly = as_many 2 slip (message 2 ∷ message 1 ∷ []) (λ i. omega arith) refl;
  ends = more.reopened-ends;
}

-- ---- WHAT GOES WRONG OTHERWISE

-- of the messages that pass a test there are more in one list than in the other
differ : (p : Sent → Bool) (l m : List StreamCall) (a b : List Sent) → list_of key (after l).log ≡ a → list_of key (after m).log ≡ b → (count p a ≡ count p b → ⊥)
    → list_of key (after l).log ≡ list_of key (after m).log → ⊥
differ p l m a b e f d q = d (ap (count p) (sym e ∙ q ∙ f))

-- the arrivals to compare with lack nothing
abbrev workshop : (n : ℕ) (l : List StreamCall) (m : List Held) → every (λ a. small a.call) l ≡ true → taken_in (mine key (after l).log) ≡ m → Exactly n slip m → Ends l → Workshop key n slip
workshop n l m w e x g = record { log = (after l).log; table = (after l).table; chain = chain-after l w; exactly = rw e x; ends = g }

abbrev straight-1 : Workshop key 1 slip
straight-1 = workshop 1 (straight 1 1) _ refl computed.straight-1-comes.accepts-are (as_many 1 slip (messages 1 1) (λ i. omega arith) refl) more.straight-1-ends

abbrev straight-2 : Workshop key 2 slip
straight-2 = workshop 2 (straight 1 2) _ refl computed.straight-2-comes.accepts-are (as_many 2 slip (messages 1 2) (λ i. omega arith) refl) more.straight-2-ends

abbrev straight-17 : Workshop key 17 slip
straight-17 = workshop 17 (straight 1 17) _ refl computed.straight-17-comes.accepts-are (as_many 17 slip (messages 1 17) (λ i. omega arith) refl) more.straight-17-ends

-- where refused offers count: 1 is missing where it came after 2 was given out by timeout, or forced; 17 where it came before 1
pub late-differs : AllOffers 2 late × Differs 2 late
late-differs = (
  record { chain = chain-after late refl; exactly = rw computed.late-comes.offers-are (as_many 2 slip (timed 2 600 ∷ message 1 ∷ []) (λ i. omega arith) refl); ends = more.late-ends },
  (straight-2, differ (numbered 1) late (straight 1 2) _ _ computed.late-comes.list-is computed.straight-2-comes.list-is (λ e. omega arith)),
)

pub forced-differs : AllOffers 2 forced × Differs 2 forced
forced-differs = (
  record { chain = chain-after forced refl; exactly = rw computed.forced-comes.offers-are (as_many 2 slip (message 2 ∷ message 1 ∷ []) (λ i. omega arith) refl); ends = more.forced-ends },
  (straight-2, differ (numbered 1) forced (straight 1 2) _ _ computed.forced-comes.list-is computed.straight-2-comes.list-is (λ e. omega arith)),
)

pub full-differs : AllOffers 17 full × Differs 17 full
full-differs = (
  record { chain = chain-after full refl; exactly = rw computed.full-comes.offers-are (as_many 17 slip (messages 2 16 ++ (message 1 ∷ [])) (λ i. omega arith) refl); ends = more.full-ends },
  (straight-17, differ (numbered 17) full (straight 1 17) _ _ computed.full-comes.list-is computed.straight-17-comes.list-is (λ e. omega arith)),
)

-- where slips differ
pub relabelled-differs : OtherSlips 1 relabelled × Differs 1 relabelled
relabelled-differs = (
  record { chain = chain-after relabelled refl; exactly = rw computed.relabelled-comes.accepts-are (as_many 1 other_slip (other_message 1 ∷ []) (λ i. omega arith) refl); ends = more.relabelled-ends },
  (straight-1, differ (λ x. x.slip =? 101) relabelled (straight 1 1) _ _ computed.relabelled-comes.list-is computed.straight-1-comes.list-is (λ e. omega arith)),
)

-- where the last take is left out: 2 is missing
pub unasked-differs : NoLastTake 2 unasked × Differs 2 unasked
unasked-differs = (
  record { chain = chain-after unasked refl; exactly = rw computed.unasked-comes.accepts-are (as_many 2 slip (messages 1 2) (λ i. omega arith) refl) },
  (straight-2, differ (numbered 2) unasked (straight 1 2) _ _ computed.unasked-comes.list-is computed.straight-2-comes.list-is (λ e. omega arith)),
)
