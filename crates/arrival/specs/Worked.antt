-- W14, worked: arrivals of the stream `chat` of `G0ORIG` (the cards' stream), each a list of calls on an empty table.
use Rattle.std.specs.Prelude.{ℕ, zero, suc, ◌+◌, ◌≡◌, List, [], ◌∷◌, ◌++◌}
use Rattle.keys.specs.declared.Key.{Key}
use Rattle.keys.specs.Key.{key_of}
use Rattle.places.specs.declared.Held.{Held}
use Rattle.rows.specs.Answer.{Answer, accepted, given, nothing, refused}
use Rattle.streams.specs.declared.Table.{Table}
use Rattle.streams.specs.Table.{empty}
use Rattle.history.specs.History.{take, force, Sent, taken_in}
use Rattle.history.specs.Chain.{Call, offer, give, close, asked, Log, start, answered, mine, Chain}
use Rattle.history.specs.Cards.{originator, chat}
use Rattle.arrival.specs.Arrival.{Exactly, GaveNothing, in_order}
use Rattle.arrival.specs.Workshops.{list_of, offered, Workshop}

-- ---- calls made one after the other

-- a call on one of the originator's streams
pub record StreamCall : Type 0 where
  pub id : List ℕ
  pub call : Call

-- a log, and the table that it left
pub record Moment : Type 0 where
  pub log : Log
  pub table : Table

abbrev pub ask : Moment → StreamCall → Moment
ask x a = let o = asked x.table originator a.id a.call in record { log = answered x.log originator a.id a.call o.answer; table = o.after }

abbrev pub ask_all : Moment → List StreamCall → Moment
ask_all x [] = x
ask_all x (a ∷ l) = ask_all (ask x a) l

abbrev pub answers_from : Moment → List StreamCall → List Answer
answers_from x [] = []
answers_from x (a ∷ l) = (asked x.table originator a.id a.call).answer ∷ answers_from (ask x a) l

abbrev pub before : Moment
before = record { log = start; table = empty }

abbrev pub after : List StreamCall → Moment
after l = ask_all before l

abbrev pub key : Key
key = key_of originator chat

-- ---- the words of an arrival

-- the slip of a number in both workshops, and another
abbrev pub slip : ℕ → ℕ
slip n = 100 + n

abbrev pub other_slip : ℕ → ℕ
other_slip n = 200 + n

abbrev pub timed : (n timeout : ℕ) → Held
timed n timeout = record { number = n; timeout = timeout; slip = slip n }

abbrev pub message : ℕ → Held
message n = timed n 0

abbrev pub other_message : ℕ → Held
other_message n = record { number = n; timeout = 0; slip = other_slip n }

abbrev pub offer_at : Held → (time : ℕ) → StreamCall
offer_at m time = record { id = chat; call = offer m time }

abbrev pub bring : ℕ → StreamCall
bring n = offer_at (message n) 0

abbrev pub take_at : (time : ℕ) → StreamCall
take_at time = record { id = chat; call = give take time }

abbrev pub force_at : (time : ℕ) → StreamCall
force_at time = record { id = chat; call = give force time }

-- a call on another stream, `r2`
abbrev pub elsewhere : ℕ → StreamCall
elsewhere n = record { id = 114 ∷ 50 ∷ []; call = offer (message n) 0 }

-- the numbers from n on, `count` of them
abbrev pub messages : (n count : ℕ) → List Held
messages n zero = []
messages n (suc count) = message n ∷ messages (n + 1) count

abbrev pub brings : (n count : ℕ) → List StreamCall
brings n zero = []
brings n (suc count) = bring n ∷ brings (n + 1) count

abbrev pub takes : (count : ℕ) → List StreamCall
takes zero = []
takes (suc count) = take_at 0 ∷ takes count

-- ---- arrivals that lack nothing

-- 1 to 4 in two orders, with takes strewn in, times that go back and, in the second, calls on another stream
abbrev pub forward : List StreamCall
forward = bring 1 ∷ take_at 7 ∷ bring 2 ∷ bring 3 ∷ take_at 5 ∷ bring 4 ∷ takes 3

abbrev pub mixed : List StreamCall
mixed = take_at 9 ∷ bring 4 ∷ elsewhere 3 ∷ take_at 4294967295 ∷ bring 2 ∷ bring 1 ∷ take_at 3 ∷ elsewhere 3 ∷ bring 3 ∷ takes 4

-- a first row of the stream, with a message 1 of its own, which is given out before the row is closed; after it 2 and 1 come on a new row
abbrev pub closed : List StreamCall
closed = offer_at (other_message 1) 0 ∷ take_at 0 ∷ record { id = chat; call = close } ∷ []

abbrev pub reopened : List StreamCall
reopened = closed ++ (bring 2 ∷ bring 1 ∷ takes 3)

-- the numbers from n on, `count` of them, each taken as it comes, and a last take
abbrev pub straight : (n count : ℕ) → List StreamCall
straight n zero = take_at 0 ∷ []
straight n (suc count) = bring n ∷ take_at 0 ∷ straight (n + 1) count

-- ---- arrivals that lack one thing

-- 2 is given out by timeout, so 1 comes too late: 10
abbrev pub late : List StreamCall
late = offer_at (timed 2 600) 1000 ∷ take_at 1600 ∷ bring 1 ∷ take_at 1600 ∷ []

-- 2 is forced, so 1 comes too late: 10
abbrev pub forced : List StreamCall
forced = bring 2 ∷ force_at 0 ∷ bring 1 ∷ take_at 0 ∷ []

-- 2 to 17, then 1: at 17 the row is full: 12
abbrev pub full : List StreamCall
full = brings 2 16 ++ (bring 1 ∷ takes 17)

-- 1 comes with another slip
abbrev pub relabelled : List StreamCall
relabelled = offer_at (other_message 1) 0 ∷ takes 2

-- 2 is not taken yet
abbrev pub unasked : List StreamCall
unasked = brings 1 2 ++ takes 1

-- ---- what they come to

-- the answers and the messages of all offers, from the first call on; those accepted, and the list that was given out, since the row last opened
pub record Comes (l : List StreamCall) (said : List Answer) (offers accepts : List Held) (list : List Sent) : Type 0 where
  pub answers-are : answers_from before l ≡ said
  pub offers-are : offered key (after l).log ≡ offers
  pub accepts-are : taken_in (mine key (after l).log) ≡ accepts
  pub list-is : list_of key (after l).log ≡ list

-- `count` offers accepted; the numbers from n on, `count` of them, given out; each accepted and given out, and a take that gives nothing
abbrev pub accepted_times : (count : ℕ) → List Answer → List Answer
accepted_times zero rest = rest
accepted_times (suc count) rest = accepted ∷ accepted_times count rest

abbrev pub given_from : (n count : ℕ) → List Answer → List Answer
given_from n zero rest = rest
given_from n (suc count) rest = given n (slip n) ∷ given_from (n + 1) count rest

abbrev pub in_turn : (n count : ℕ) → List Answer
in_turn n zero = nothing ∷ []
in_turn n (suc count) = accepted ∷ given n (slip n) ∷ in_turn (n + 1) count

abbrev pub mixed_messages : List Held
mixed_messages = message 4 ∷ message 2 ∷ message 1 ∷ message 3 ∷ []

abbrev pub only2 : List Sent
only2 = record { number = 2; slip = slip 2 } ∷ []

pub record Computed : Type 0 where
  pub forward-comes : Comes forward (accepted ∷ given 1 101 ∷ accepted ∷ accepted ∷ given 2 102 ∷ accepted ∷ given_from 3 2 (nothing ∷ [])) (messages 1 4) (messages 1 4) (in_order 4 slip)
  pub mixed-comes : Comes mixed (refused 14 ∷ accepted ∷ accepted ∷ nothing ∷ accepted ∷ accepted ∷ given 1 101 ∷ refused 11 ∷ accepted ∷ given_from 2 3 (nothing ∷ [])) mixed_messages mixed_messages (in_order 4 slip)
  pub reopened-comes : Comes reopened (accepted ∷ given 1 201 ∷ accepted ∷ accepted ∷ accepted ∷ given_from 1 2 (nothing ∷ [])) (other_message 1 ∷ message 2 ∷ message 1 ∷ []) (message 2 ∷ message 1 ∷ []) (in_order 2 slip)
  pub straight-1-comes : Comes (straight 1 1) (in_turn 1 1) (messages 1 1) (messages 1 1) (in_order 1 slip)
  pub straight-2-comes : Comes (straight 1 2) (in_turn 1 2) (messages 1 2) (messages 1 2) (in_order 2 slip)
  pub straight-17-comes : Comes (straight 1 17) (in_turn 1 17) (messages 1 17) (messages 1 17) (in_order 17 slip)
  pub late-comes : Comes late (accepted ∷ given 2 102 ∷ refused 10 ∷ nothing ∷ []) (timed 2 600 ∷ message 1 ∷ []) (timed 2 600 ∷ []) only2
  pub forced-comes : Comes forced (accepted ∷ given 2 102 ∷ refused 10 ∷ nothing ∷ []) (message 2 ∷ message 1 ∷ []) (message 2 ∷ []) only2
  pub full-comes : Comes full (accepted_times 15 (refused 12 ∷ accepted ∷ given_from 1 16 (nothing ∷ []))) (messages 2 16 ++ (message 1 ∷ [])) (messages 2 15 ++ (message 1 ∷ [])) (in_order 16 slip)
  pub relabelled-comes : Comes relabelled (accepted ∷ given 1 201 ∷ nothing ∷ []) (other_message 1 ∷ []) (other_message 1 ∷ []) (in_order 1 other_slip)
  pub unasked-comes : Comes unasked (accepted ∷ accepted ∷ given 1 101 ∷ []) (messages 1 2) (messages 1 2) (in_order 1 slip)

-- ---- what they show

-- as a workshop should be, but that the numbers are counted over all offers made, refused ones too
pub record AllOffers (n : ℕ) (l : List StreamCall) : Type 0 where
  pub chain : Chain (after l).log (after l).table
  pub exactly : Exactly n slip (offered key (after l).log)
  pub ends : GaveNothing (mine key (after l).log)

-- as a workshop should be, but that the slips are other ones
pub record OtherSlips (n : ℕ) (l : List StreamCall) : Type 0 where
  pub chain : Chain (after l).log (after l).table
  pub exactly : Exactly n other_slip (taken_in (mine key (after l).log))
  pub ends : GaveNothing (mine key (after l).log)

-- as a workshop should be, but for the last take
pub record NoLastTake (n : ℕ) (l : List StreamCall) : Type 0 where
  pub chain : Chain (after l).log (after l).table
  pub exactly : Exactly n slip (taken_in (mine key (after l).log))

-- a workshop that lacks nothing gave out another list
abbrev pub Differs : ℕ → List StreamCall → Type 0
Differs n l = (w : Workshop key n slip) × (list_of key (after l).log ≡ list_of key w.log → ⊥)
