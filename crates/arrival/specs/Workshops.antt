-- Document 02, W14, of two workshops that hear one stream, each a chain of calls on a table of its own; and the sentence as it is written there.
use Rattle.std.specs.Prelude.{ℕ, ◌≡◌, true, false, List, [], ◌∷◌, ◌++◌, if◌then◌else◌}
use Rattle.std.proofs.Math.Option.{none}
use Rattle.keys.specs.declared.Key.{Key}
use Rattle.keys.specs.Key.{same_key, named_of}
use Rattle.places.specs.declared.Held.{Held}
use Rattle.rows.specs.Answer.{Answer, accepted, refused}
use Rattle.streams.specs.declared.Table.{Table}
use Rattle.streams.specs.Meaning.{row_for}
use Rattle.image.specs.Image.{load_of}
use Rattle.history.specs.History.{take, force, Sent, taken_in, given_out}
use Rattle.history.specs.Chain.{Call, offer, give, close, small, asked, Log, start, loaded, answered, mine, Chain}
use Rattle.arrival.specs.Arrival.{Exactly, GaveNothing, in_order}

-- ---- what a log says of the stream k

-- what was given out since its row opened, or an image brought it, the oldest first
abbrev pub list_of : Key → Log → List Sent
list_of k l = given_out (mine k l)

-- the messages of all offers made in a log without loads, refused ones too, the oldest first: more than the statement counts
abbrev pub with_offer : List Held → Call → List Held
with_offer l (offer m time) = l ++ (m ∷ [])
with_offer l (give way time) = l
with_offer l close = l

abbrev pub offered : Key → Log → List Held
offered k start = []
offered k (loaded t) = []
offered k (answered l o s c a) = if same_key k (named_of o s).key then with_offer (offered k l) c else offered k l

-- ---- THE STATEMENT

-- a workshop that accepted exactly 1 to n of the stream k since its row opened, and asked until nothing came: any chain, with whatever calls on
-- other streams, saves and refused calls between. Where images were loaded, the log is the one that demand 3 counts
pub record Workshop (k : Key) (n : ℕ) (slip : ℕ → ℕ) : Type 0 where
  pub log : Log
  pub table : Table
  pub chain : Chain log table
  pub exactly : Exactly n slip (taken_in (mine k log))
  pub ends : GaveNothing (mine k log)

-- two of them, with the same slip for the same number
pub record Two (k : Key) (n : ℕ) (slip : ℕ → ℕ) : Type 0 where
  pub here : Workshop k n slip
  pub there : Workshop k n slip

-- both give out the same list, 1 to n in order
pub record OneList (k : Key) (n : ℕ) (slip : ℕ → ℕ) (here there : Log) : Type 0 where
  pub same : list_of k here ≡ list_of k there
  pub is : list_of k here ≡ in_order n slip

-- ---- document 02's sentence, as it is written

-- "timeout 0, .. no offer refused, no force, no close, .. takes made between offers as anyone likes"
abbrev pub Allowed : Call → Answer → Type 0
Allowed (offer m time) a = (m.timeout ≡ 0) × (a ≡ accepted)
Allowed (give take time) a = Unit {0}
Allowed (give force time) a = ⊥
Allowed close a = ⊥

-- `OnFresh k l t m`: a chain came to a moment at which the stream k had no row, so that its next offer is made on a fresh one, and went on to the log l
-- and the table t with allowed calls on k, any calls on other streams, and no load (one that is refused changes nothing); m are the messages of all
-- offers made on k since that moment, the oldest first
pub data OnFresh (k : Key) : Log → Table → List Held → Type 0 where
  no-row-yet : {l : Log} {t : Table} → Chain l t → row_for k t ≡ none → OnFresh k l t []
  on-it : {l : Log} {t : Table} {m : List Held} → OnFresh k l t m → (o s : List ℕ) (c : Call) → small c ≡ true → same_key k (named_of o s).key ≡ true
      → Allowed c (asked t o s c).answer → OnFresh k (answered l o s c (asked t o s c).answer) (asked t o s c).after (with_offer m c)
  on-another : {l : Log} {t : Table} {m : List Held} → OnFresh k l t m → (o s : List ℕ) (c : Call) → small c ≡ true → same_key k (named_of o s).key ≡ false
      → OnFresh k (answered l o s c (asked t o s c).answer) (asked t o s c).after m
  load-refused : {l : Log} {t : Table} {m : List Held} → OnFresh k l t m → (image : List ℕ) (n : ℕ) → (load_of t image).answer ≡ refused n → OnFresh k l (load_of t image).after m

-- a workshop as the sentence has it
pub record AsWritten (k : Key) (n : ℕ) (slip : ℕ → ℕ) : Type 0 where
  pub log : Log
  pub table : Table
  pub offers : List Held
  pub on-fresh : OnFresh k log table offers
  pub exactly : Exactly n slip offers
  pub ends : GaveNothing (mine k log)
