-- THEOREMS: whatever calls a host makes, refused ones and empty pieces among them, whatever buffers it lends, the replies, the happenings other
-- than "nothing" and the session are those of the bytes used. So, however the peer's bytes are cut, a host that offers unused bytes again
-- until an end sees the same; and for every stream there is such a host.
use mathlib.Core.Path.{◌≡◌, refl, sym, ap, ◌∙◌}
use Prim.Native.Nat.{ℕ, ◌≤◌}
use native.Mathlib.Omega.{arith}
use mathlib.Core.Bool.{true, false}
use mathlib.Core.Logic.{◌⊎◌, inl, inr}
use mathlib.Core.List.{List, [], ◌∷◌}
use lib.ListN.{length}
use borrow.Author.Tests.{eqb-true, eqb-false, le-ltb}
use Rattle.octets.specs.Words.{◌=?◌}
use Rattle.octets.proofs.Tests.{or-next}
use Rattle.machine.specs.Machine.{quiet, Out, run, seen}
use Rattle.machine.proofs.Cuts.{used-some, calls-bytes, stream-seen, goes_through}
use Rattle.talk.specs.declared.Session.{Session}
use Rattle.talk.specs.Answer.{Happening}
use Rattle.talk.specs.Talk.{nothing}
use Rattle.session.specs.Feed.{feed}
use Rattle.session_rules.specs.Rules.{keeps_session, step_refusal}
use Rattle.session.specs.Calls.{Outcome, step_of}
use Rattle.session.proofs.Tests.{step-goes}
use Rattle.exchange.specs.Host.{Lent, reports, is_closed, step_on, piece_of, used_bytes, sees, Goes}
use Rattle.exchange.proofs.Keeps.{on, step_keeps}

abbrev Ok : Session → Type 0
Ok s = keeps_session s ≡ true

rests : (s : Session) (b : ℕ) → is_closed s ≡ true → feed s b ≡ quiet s
unfolding feed
rests s b h = rw (eqb-true s.mode 3 h)

keeps : (s : Session) (c : Lent) → Ok s → Ok (step_on s c).state
keeps s c o = step_keeps s c.piece c.payload c.room o

goes : (s : Session) (c : Lent) → Ok s → is_closed s ≡ false → 4096 ≤ length c.payload → 24 ≤ c.room → step_on s c ≡ run feed nothing 0 s c.piece
goes s c o d p r = rw (step-goes s c.piece c.payload c.room o (eqb-false _ _ d) (or-next _ _ (le-ltb _ _ p) ∙ le-ltb _ _ r))

-- a call feeds its piece, or is refused and leaves everything as it was
module _ (s : Session) (c : Lent) where
  abbrev Served : Outcome → Type 0
  Served x =
      (◌≡◌ {A = Out Session Happening} (record { used = x.step_record.used; state = x.step_record.next; reply = x.reply; happened = x.step_record.happening }) (run feed nothing 0 s c.piece))
      ⊎ (◌≡◌ {A = Out Session Happening} (record { used = x.step_record.used; state = x.step_record.next; reply = x.reply; happened = x.step_record.happening }) (record { used = 0; state = s; reply = []; happened = nothing }))

  pub serves : Served (step_of s c.piece c.payload c.room)
  unfolding step_of
  serves = on Served (step_refusal s (length c.payload) c.room =? 0) _ _ (λ a. inl refl) (λ a. inr refl)

-- THE THEOREM over any list of calls, from any session
pub calls-are-bytes : (s : Session) (cs : List Lent) → sees s cs ≡ seen feed reports s (used_bytes s cs)
calls-are-bytes s cs = calls-bytes feed nothing reports refl step_on piece_of (λ x. Unit {0}) (λ x c o. tt) (λ x c o. serves x c) s cs tt

-- two lists of calls that used the same bytes
pub same_bytes : (s : Session) (cs ds : List Lent) → used_bytes s cs ≡ used_bytes s ds → sees s cs ≡ sees s ds
same_bytes s cs ds e = calls-are-bytes s cs ∙ ap (seen feed reports s) e ∙ sym (calls-are-bytes s ds)

-- a stream
pub through-a-stream : (s : Session) (stream : List ℕ) (cs : List Lent) → Goes s stream cs → sees s cs ≡ seen feed reports s stream
through-a-stream s stream cs t = stream-seen feed nothing reports refl step_on piece_of (λ x. Unit {0}) (λ x c o. tt) (λ x c o. serves x c) is_closed rests s stream cs tt t

pub cut-independent : (s : Session) (stream : List ℕ) (cs ds : List Lent) → Goes s stream cs → Goes s stream ds → sees s cs ≡ sees s ds
cut-independent s stream cs ds p q = through-a-stream s stream cs p ∙ sym (through-a-stream s stream ds q)

-- there is such a host, whatever it lends at each call, as long as its buffers are not refused
pub a-host : (payload : ℕ → List ℕ) (room : ℕ → ℕ) → ((n : ℕ) → 4096 ≤ length (payload n)) → ((n : ℕ) → 24 ≤ room n)
    → (s : Session) (stream : List ℕ) → keeps_session s ≡ true → (cs : List Lent) × Goes s stream cs
a-host payload room p r s stream o =
    goes_through feed nothing reports refl step_on piece_of Ok keeps (λ s c o. serves s c) is_closed rests
    (λ n l. record { piece = l; payload = payload n; room = room n }) (λ n l. refl)
    (λ n s l o d. goes s (record { piece = l; payload = payload n; room = room n }) o d (p n) (r n)) (length stream) s stream o (omega arith)

-- and its loop ends: a call that is not refused uses a byte of a piece that has one
pub uses-a-byte : (s : Session) (b : ℕ) (bs payload : List ℕ) (room : ℕ) → keeps_session s ≡ true → is_closed s ≡ false → 4096 ≤ length payload → 24 ≤ room
    → 1 ≤ (step_on s (record { piece = b ∷ bs; payload = payload; room = room })).used
uses-a-byte s b bs payload room o d p r = rw (goes s (record { piece = b ∷ bs; payload = payload; room = room }) o d p r) (used-some feed nothing 0 s b bs)
