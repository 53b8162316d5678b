-- Demand 3's chain: calls on the table and loads, each handed the table as the one before left it, the first an empty one; and the images
-- that saves of such tables wrote.
use Rattle.std.specs.Prelude.{ℕ, max, ◌≡◌, Bool, true, List, [], ◌∷◌, if◌then◌else◌}
use Rattle.std.proofs.Math.Option.{Option, none, some}
use Rattle.std.proofs.Math.ListN as list
use Rattle.octets.specs.Words.{◌and◌}
use Rattle.keys.specs.declared.Key.{Key}
use Rattle.keys.specs.Key.{same_key, named_of}
use Rattle.places.specs.declared.Held.{Held}
use Rattle.rows.specs.declared.Row.{Row}
use Rattle.refusals.specs.Numbers.{still_holding}
use Rattle.rows.specs.Answer.{Answer, accepted, given, nothing, refused, Outcome, refuse}
use Rattle.rows.specs.Stream.{Stream, fresh, word, words}
use Rattle.rows.specs.Stream as row
use Rattle.rows.specs.Row.{stream_of}
use Rattle.streams.specs.declared.Table.{Table}
use Rattle.streams.specs.Table.{empty}
use Rattle.streams.specs.Calls as table
use Rattle.streams.specs.Meaning.{row_for}
use Rattle.image.specs.Answer.{written}
use Rattle.image.specs.Image.{save_of, load_of}
use Rattle.history.specs.History.{Way, take, force, accepts, gives, gives_nothing, History, opened, restored, ◌▷◌}

-- ---- a call on a stream

pub data Call : Type 0 where
  offer : (m : Held) (time : ℕ) → Call
  give : (way : Way) (time : ℕ) → Call
  close : Call

-- its numbers are of 32 bits
abbrev pub small : Call → Bool
small (offer m time) = words m and word time
small (give way time) = word time
small close = true

-- made on the table, by originator and stream id
abbrev pub asked : Table → List ℕ → List ℕ → Call → Outcome Table
asked t o s (offer m time) = table.offer t o s m time
asked t o s (give take time) = table.take t o s time
asked t o s (give force time) = table.force t o s time
asked t o s close = table.close t o s

-- ---- what was asked and answered, and one stream's part of it

-- a log begins with the empty table, or with a table that a load brought
pub data Log : Type 0 where
  start : Log
  loaded : Table → Log
  answered : Log → (originator id : List ℕ) → Call → Answer → Log

-- what an answer says of the stream that was asked: a close that was not refused ends its history
abbrev pub on_accepted : History → Call → History
on_accepted h (offer m time) = h ▷ accepts m time
on_accepted h (give way time) = h
on_accepted h close = opened

abbrev pub on_given : History → Call → ℕ → ℕ → History
on_given h (offer m time) n slip = h
on_given h (give way time) n slip = h ▷ gives way n slip time
on_given h close n slip = h

abbrev pub on_nothing : History → Call → History
on_nothing h (offer m time) = h
on_nothing h (give way time) = h ▷ gives_nothing time
on_nothing h close = h

abbrev pub noted : History → Call → Answer → History
noted h c accepted = on_accepted h c
noted h c (given n slip) = on_given h c n slip
noted h c nothing = on_nothing h c
noted h c (refused n) = h

abbrev pub restored_from : Option Row → History
restored_from none = opened
restored_from (some r) = restored (stream_of r)

-- the history of the stream of a key, since its row opened
abbrev pub mine : Key → Log → History
mine k start = opened
mine k (loaded t) = restored_from (row_for k t)
mine k (answered l o s c a) = if same_key k (named_of o s).key then noted (mine k l) c a else mine k l

-- ---- the chain

-- the image that a save of the table wrote: the save was not refused, and left the image at its buffer's front
pub record Saved (t : Table) (image : List ℕ) : Type 0 where
  pub buffer : List ℕ
  pub size : ℕ
  pub written_as : (save_of t buffer).answer ≡ written size
  pub is : image ≡ list.take size (save_of t buffer).buffer

-- `Chain l t`: a chain that left the table t; l is the log that counts. A save leaves the table as it was
pub data Chain : Log → Table → Type 0 where
  begins : Chain start empty
  asks : {l : Log} {t : Table} → Chain l t → (o s : List ℕ) (c : Call) → small c ≡ true
      → Chain (answered l o s c (asked t o s c).answer) (asked t o s c).after
  -- after a load of an image that a save of ours wrote, in this chain or in another, the log that counts is that of the chain at the save;
  -- so a restart is: `begins`, then a load of the image saved before
  loads-own : {l k : Log} {t u : Table} → Chain l t → Chain k u → (image : List ℕ) → Saved u image → Chain k (load_of t image).after
  -- after a load of any image, read as not ours, it begins there; a load that is refused changes nothing
  loads-other : {l : Log} {t : Table} → Chain l t → (image : List ℕ) → (load_of t image).answer ≡ accepted → Chain (loaded (load_of t image).after) (load_of t image).after
  loads-none : {l : Log} {t : Table} → Chain l t → (image : List ℕ) (n : ℕ) → (load_of t image).answer ≡ refused n → Chain l (load_of t image).after

-- ---- a row by itself, led by its own history

-- a close ends the row with nothing held, and is refused otherwise
abbrev pub closing : Stream → List Held → Outcome Stream
closing s [] = record { answer = accepted; after = fresh }
closing s (lowest ∷ rest) = refuse still_holding s

abbrev pub row_call : Stream → Call → Outcome Stream
row_call s (offer m time) = row.offer s m time
row_call s (give take time) = row.take s time
row_call s (give force time) = row.force s time
row_call s close = closing s s.held

abbrev pub replay : History → Stream
replay opened = fresh
replay (restored s) = s
replay (h ▷ accepts m time) = (row.offer (replay h) m time).after
replay (h ▷ gives take n slip time) = (row.take (replay h) time).after
replay (h ▷ gives force n slip time) = (row.force (replay h) time).after
replay (h ▷ gives_nothing time) = (row.stay (replay h) (max (replay h).clock time)).after
