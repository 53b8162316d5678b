-- What the calls answer, in document 01's words: the paper's number and values for each case of an answer.
use Rattle.std.specs.Prelude.{ℕ, Result, Ok, Err}
use Rattle.refusals.specs.declared.Refusal.{Refusal}
use Rattle.refusals.specs.Refusals.{number_of}
use Rattle.groups.specs.declared.Groups.{Groups}
use Rattle.groupcalls.specs.declared.Collected.{Collected}
use Rattle.groupcalls.specs.declared.Served.{Served}
use Rattle.groupcalls.specs.declared.Standing.{Standing}

-- a fragment added to a group, by its number 0 to 3; a group collected, with the length of what it holds; swept; refused, with the number of
-- document 01's table
pub data Said : Type 0 where
  added : (group : ℕ) → Said
  collected : (group bytes : ℕ) → Said
  swept : Said
  refused : (number : ℕ) → Said

-- what a call leaves: its answer, and the groups after it
pub record Outcome : Type 0 where
  pub answer : Said
  pub after : Groups

-- a group that was collected; a sweep that was made
abbrev pub gathered : Collected → Said
gathered c = collected c.group c.len

abbrev pub done : Unit {0} → Said
done x = swept

-- `f` says what an accepted call answers
abbrev pub saying : {A : Type 0} → (A → Said) → Result A Refusal → Said
saying f (Ok x) = f x
saying f (Err r) = refused (number_of r)

abbrev pub says : {A : Type 0} → (A → Said) → Served A → Outcome
says f r = record { answer = saying f r.answer; after = r.groups }

-- a refusal: its number, and the groups as they came
abbrev pub refuse : ℕ → Groups → Outcome
refuse n t = record { answer = refused n; after = t }

-- what a call's steps answer, with the groups that they leave
abbrev pub told : {A : Type 0} → (A → Said) → Result A Refusal → Groups → Outcome
told f r t = says f (record { answer = r; groups = t })

-- whether a group is complete, or the number of a refusal
pub data Stand : Type 0 where
  is_complete : Stand
  is_incomplete : Stand
  unseen : (number : ℕ) → Stand

abbrev pub standing_says : Result Standing Refusal → Stand
standing_says (Ok Standing.Complete) = is_complete
standing_says (Ok Standing.Incomplete) = is_incomplete
standing_says (Err r) = unseen (number_of r)
