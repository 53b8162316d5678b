-- Document 01, "Fragments", over many calls: the history of a house store, and what it says by itself of the fragments that were added under a key.
use Rattle.std.specs.Prelude.{◌≡◌, ℕ, zero, suc, ◌-◌, ◌≤◌, Bool, true, false, List, [], ◌∷◌, ◌++◌, length, Option, Result, if◌then◌else◌}
use Rattle.octets.specs.Words.{◌and◌, no, every, some, between, ◌≤?◌, ◌=?◌}
use Rattle.octets.specs.Bytes.{front}
use Rattle.refusals.specs.declared.Refusal.{Refusal}
use Rattle.groupkeys.specs.declared.Key.{Key}
use Rattle.groupkeys.specs.Key.{same_key, key_in, named_of}
use Rattle.groups.specs.declared.Groups.{Groups}
use Rattle.groups.specs.Groups.{empty}
use Rattle.groupcalls.specs.declared.Fragment.{Fragment}
use Rattle.groupcalls.specs.Answer.{Said, added, collected, swept, refused, Outcome}
use Rattle.groupcalls.specs.Calls.{add, collect, sweep}
use Rattle.fragments.specs.Store.{store_after, out_after}

-- ---- the calls

-- the names that a call is given: the originator, where there is one, and the master id
pub record Names : Type 0 where
  pub originator : Option (List ℕ)
  pub master : ℕ

abbrev pub named : Names → Result Key Refusal
named a = named_of a.originator a.master

abbrev pub key_for : Names → Key
key_for a = key_in (named a)

-- fragment N of M, its bytes, and when it came
pub record Arrival : Type 0 where
  pub number : ℕ
  pub total : ℕ
  pub bytes : List ℕ
  pub time : ℕ

abbrev pub fragment : Arrival → Fragment
fragment f = record { number = f.number; total = f.total; len = length f.bytes; time = f.time }

pub data Call : Type 0 where
  adding : Names → Arrival → Call
  collecting : Names → (out : List ℕ) → Call
  sweeping : (time : ℕ) → Call

-- the groups, and the bytes that the host lends with them: the same bytes each time, unaltered
pub record House : Type 0 where
  pub groups : Groups
  pub store : List ℕ

-- what a call comes to, by the promises of add_fragment, collect_group and sweep_groups
abbrev pub outcome : House → Call → Outcome
outcome w (adding a f) = add w.groups (length w.store) (named a) (fragment f)
outcome w (collecting a out) = collect w.groups (length w.store) (named a) (length out)
outcome w (sweeping time) = sweep w.groups time

abbrev pub bytes_after : House → Call → List ℕ
bytes_after w (adding a f) = store_after (outcome w (adding a f)).answer f.number f.bytes w.store
bytes_after w (collecting a out) = w.store
bytes_after w (sweeping time) = w.store

abbrev pub after : House → Call → House
after w c = record { groups = (outcome w c).after; store = bytes_after w c }

-- ---- histories: calls and the answers that they got, the latest last

infixl 20 ◌▷◌⇒◌
pub data History : Type 0 where
  start : History
  ◌▷◌⇒◌ : History → Call → Said → History

-- `Reached h w`: from free groups and any bytes, the calls of h got just the answers that stand in h, and left the house w
pub data Reached : History → House → Type 0 where
  fresh : (bytes : List ℕ) → Reached start (record { groups = empty; store = bytes })
  next : {h : History} {w : House} → Reached h w → (c : Call) → Reached (h ▷ c ⇒ (outcome w c).answer) (after w c)

-- ---- what a history says by itself: no group and no store stands in any of these

abbrev pub is_number : ℕ → Arrival → Bool
is_number n f = f.number =? n

-- the numbers from n on, so many
abbrev pub numbers : ℕ → ℕ → List ℕ
numbers n zero = []
numbers n (suc count) = n ∷ numbers (suc n) count

-- M, as the fragments tell it, the latest first
abbrev pub total_of : List Arrival → ℕ
total_of [] = 0
total_of (f ∷ rest) = f.total

-- when the first of them came
abbrev pub first_time : List Arrival → ℕ
first_time [] = 0
first_time (f ∷ []) = f.time
first_time (f ∷ g ∷ rest) = first_time (g ∷ rest)

-- each of the fragments 1 to M is there
abbrev pub whole : List Arrival → Bool
whole l = every (λ n. some (is_number n) l) (numbers 1 (total_of l))

-- a sweep ends the group that these fragments made: some are there, some are missing, and the first came 604,800 s ago or more
abbrev pub stale : ℕ → List Arrival → Bool
stale time [] = false
stale time (f ∷ rest) = no (whole (f ∷ rest)) and 604800 ≤? time - first_time (f ∷ rest)

-- the bytes of fragment n
abbrev pub bytes_of : ℕ → List Arrival → List ℕ
bytes_of n [] = []
bytes_of n (f ∷ rest) = if is_number n f then f.bytes else bytes_of n rest

-- the bytes of fragments, joined in the order of these numbers
abbrev pub joined_by : List ℕ → List Arrival → List ℕ
joined_by [] l = []
joined_by (n ∷ rest) l = bytes_of n l ++ joined_by rest l

-- the bytes of fragments 1 to M, joined in the order of their numbers
abbrev pub in_order : List Arrival → List ℕ
in_order l = joined_by (numbers 1 (total_of l)) l

-- no number is there twice
abbrev pub once : List Arrival → Bool
once [] = true
once (f ∷ rest) = no (some (is_number f.number) rest) and once rest

-- all tell the same M, and have a number from 1 to M
abbrev pub agreed : List Arrival → Bool
agreed l = every (λ f. f.total =? total_of l and between 1 f.total f.number) l

abbrev pub accepted : Said → Bool
accepted (refused n) = false
accepted (added g) = true
accepted (collected g n) = true
accepted swept = true

-- what an accepted call makes of the fragments under the key
abbrev pub with_call : Key → Call → List Arrival → List Arrival
with_call k (adding a f) l = if same_key (key_for a) k then f ∷ l else l
with_call k (collecting a out) l = if same_key (key_for a) k then [] else l
with_call k (sweeping time) l = if stale time l then [] else l

-- the fragments added under the key since its group opened, the latest first
abbrev pub since : Key → History → List Arrival
since k start = []
since k (h ▷ c ⇒ a) = if accepted a then with_call k c (since k h) else since k h

-- ---- what the theorem says of a collect

-- the buffer that is lent for a collect, after it
abbrev pub buffer_after : House → Names → List ℕ → List ℕ
buffer_after w a out = out_after (outcome w (collecting a out)).answer w.groups w.store out

-- `Delivered l out buffer`: a buffer that held `out` holds, at its front, the bytes of the fragments l, joined in the order of their numbers
pub record Delivered (l : List Arrival) (out buffer : List ℕ) : Type 0 where
  -- each of the fragments 1 to M is among them, none twice, and no other; all tell the same M
  pub all : whole l ≡ true
  pub single : once l ≡ true
  pub agree : agreed l ≡ true
  pub least : 2 ≤ total_of l
  pub bytes : buffer ≡ front (in_order l) out
