-- Demand 3: the history of a stream, and what a history says by itself. Nothing here looks into a row, but for the row with which a
-- history begins where an image brought it.
use Rattle.std.specs.Prelude.{ℕ, ◌+◌, ◌<◌, ◌≤◌, max, ◌≡◌, Bool, true, List, [], ◌∷◌, ◌++◌, ◌⊎◌, if◌then◌else◌}
use Rattle.octets.specs.Words.{◌=?◌}
use Rattle.places.specs.declared.Held.{Held}
use Rattle.rows.specs.Stream.{Stream, ascending}

-- a take gives what is due; a force is an operator's order
pub data Way : Type 0 where
  take : Way
  force : Way

-- what a call that was not refused did to its stream, and the time that it told
pub data Event : Type 0 where
  accepts : (m : Held) (time : ℕ) → Event
  gives : (way : Way) (number slip time : ℕ) → Event
  gives_nothing : (time : ℕ) → Event

-- a history begins where a row is opened, or where an image that no save of ours wrote brings a row; the oldest event stands first
infixl 20 ◌▷◌
pub data History : Type 0 where
  opened : History
  restored : Stream → History
  ◌▷◌ : History → Event → History

-- ---- what a history says

-- a message as it is given out: its number and its slip
pub record Sent : Type 0 where
  pub number : ℕ
  pub slip : ℕ

abbrev pub sent : Held → Sent
sent m = record { number = m.number; slip = m.slip }

-- the messages taken in, which are those accepted, and those given out, the oldest first
abbrev pub taken_in : History → List Held
taken_in opened = []
taken_in (restored r) = r.held
taken_in (h ▷ accepts m time) = taken_in h ++ (m ∷ [])
taken_in (h ▷ gives way n slip time) = taken_in h
taken_in (h ▷ gives_nothing time) = taken_in h

abbrev pub given_out : History → List Sent
given_out opened = []
given_out (restored r) = []
given_out (h ▷ accepts m time) = given_out h
given_out (h ▷ gives way n slip time) = given_out h ++ (record { number = n; slip = slip } ∷ [])
given_out (h ▷ gives_nothing time) = given_out h

-- the number after the latest given out
abbrev pub next : History → ℕ
next opened = 1
next (restored r) = r.expected
next (h ▷ accepts m time) = next h
next (h ▷ gives way n slip time) = n + 1
next (h ▷ gives_nothing time) = next h

-- the largest time told
abbrev pub time_of : Event → ℕ
time_of (accepts m time) = time
time_of (gives way n slip time) = time
time_of (gives_nothing time) = time

abbrev pub told : History → ℕ
told opened = 0
told (restored r) = r.clock
told (h ▷ e) = max (told h) (time_of e)

-- ---- counting

abbrev pub bit : Bool → ℕ
bit b = if b then 1 else 0

-- how many pass the test
abbrev pub count : (Sent → Bool) → List Sent → ℕ
count p [] = 0
count p (x ∷ l) = bit (p x) + count p l

abbrev pub count_held : (Sent → Bool) → List Held → ℕ
count_held p [] = 0
count_held p (m ∷ l) = bit (p (sent m)) + count_held p l

abbrev pub numbered : ℕ → Sent → Bool
numbered n x = x.number =? n

abbrev pub In : Held → List Held → Type 0
In m [] = ⊥
In m (x ∷ l) = (m ≡ x) ⊎ In m l

-- the numbers strictly rise, from `low` on
abbrev pub Rises : ℕ → List Sent → Type 0
Rises low [] = Unit {0}
Rises low (x ∷ l) = (low ≤ x.number) × Rises (x.number + 1) l

-- ---- the gap

-- the gap is open: some number was accepted and not given out, and the next was not accepted
abbrev pub Gap : History → Type 0
Gap h = ((n : ℕ) × (count (numbered n) (given_out h) < count_held (numbered n) (taken_in h))) × (count_held (numbered (next h)) (taken_in h) ≡ 0)

abbrev pub GivesNone : Event → Type 0
GivesNone (accepts m time) = Unit {0}
GivesNone (gives way n slip time) = ⊥
GivesNone (gives_nothing time) = Unit {0}

-- the gap is open, and has stood open ever since a moment at which the largest time told was `since`, nothing being given out meanwhile;
-- where an image brought the row with its gap open, since that row's gap start
abbrev pub OpenSince : ℕ → History → Type 0
OpenSince since opened = ⊥
OpenSince since (restored r) = Gap (restored r) × (r.gap_start ≡ since)
OpenSince since (h ▷ e) = Gap (h ▷ e) × ((told (h ▷ e) ≡ since) ⊎ (GivesNone e × OpenSince since h))

-- ---- THE STATEMENT

-- after h, missing numbers before number n may be passed over: on an operator's order; or by a take, once the gap has stood open for the
-- timeout of n's message, and that timeout is not nought
abbrev pub MayPass : History → Way → ℕ → ℕ → Type 0
MayPass h force n time = Unit {0}
MayPass h take n time =
    (m : Held) × In m (taken_in h) × (m.number ≡ n) × (0 < m.timeout) × ((since : ℕ) × OpenSince since h × (since + m.timeout ≤ max (told h) time))

-- after h, number n is given out rightly: no accepted number is passed over, and a missing one only where it may be
pub record Rightly (h : History) (way : Way) (n time : ℕ) : Type 0 where
  pub in-turn : next h ≤ n
  pub missing : (i : ℕ) → next h ≤ i → i < n → count_held (numbered i) (taken_in h) ≡ 0
  pub passes : next h < n → MayPass h way n time

abbrev pub Fair : History → Type 0
Fair opened = Unit {0}
Fair (restored r) = Unit {0}
Fair (h ▷ accepts m time) = Fair h
Fair (h ▷ gives way n slip time) = Fair h × Rightly h way n time
Fair (h ▷ gives_nothing time) = Fair h

-- what holds of a stream's history and of what is held after it
pub record Ordered (h : History) (held : List Held) : Type 0 where
  -- whatever the test, as many messages that pass it were accepted as were given out and are still held
  pub kept : (p : Sent → Bool) → count_held p (taken_in h) ≡ count p (given_out h) + count_held p held
  -- and no number was accepted twice
  pub once : (n : ℕ) → count_held (numbered n) (taken_in h) ≤ 1
  -- the numbers given out strictly rise, and what is held comes after them
  pub rises : Rises 0 (given_out h)
  pub waits : ascending (next h) held ≡ true
  -- numbers are passed over only as they may be
  pub fair : Fair h
