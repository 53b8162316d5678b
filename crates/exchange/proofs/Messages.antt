-- THEOREMS over any list of calls, from the opening on: a message comes only with the right id over exactly the bytes announced, which are the
-- bytes received since the data line, whatever was done to the buffer, `len=0` too; and a place of the buffer holds the payload's byte if every
-- buffer lent since it came had there what the call before left.
use Rattle.std.specs.Prelude.{if◌then◌else◌}
use mathlib.Core.Path.{◌≡◌, refl, sym, ap, ◌∙◌, subst}
use Prim.Native.Nat.{ℕ, ◌+◌, ◌-◌, ◌≤◌, ◌<◌}
use native.Mathlib.Omega.{arith}
use native.Mathlib.Decide.{dec_le}
use mathlib.Core.Bool.{Bool, true, false}
use mathlib.Core.List.{List, [], ◌∷◌, ◌++◌, append-nil}
use lib.ListN.{length, take, drop, get_or, length-append, take-append-drop, get_or-append}
use lib.Seq.{get_or-append-add, get_or-take, length-take-le, take_all, ext_get_or}
use borrow.Author.Tests.{eqb-true, eqb-false, ltb-false, lt-ltb, eq-eqb, ne_eqb}
use Rattle.octets.specs.Words.{◌and◌, ◌<?◌, ◌=?◌}
use Rattle.octets.specs.Bytes.{placed}
use Rattle.octets.proofs.Tests.{if_yes, if_no, and_left, and_right}
use Rattle.octets.proofs.Lists.{placed-in, length-placed}
use Rattle.refusals.specs.Numbers.{payload_too_long, longest_payload}
use Rattle.std.specs.Prelude.{Option, ℤ}
use Rattle.sha1_digest.specs.declared.Sha1.{Sha1}
use Rattle.sha1_digest.specs.Sha1.{sha1}
use Rattle.sha1_digest.specs.Machine.{fed_all, finished}
use Rattle.sha1_digest.specs.Id.{salt_bytes, id_number, message_id, is}
use Rattle.sha1_digest.specs.Id as ids
use Rattle.sha1_digest.proofs.Feed.{parts}
use Rattle.sha1_digest.proofs.Ids.{id-of-pieces}
use Rattle.line.specs.declared.Line.{Line}
use Rattle.line.specs.Reading.{Reading}
use Rattle.line.specs.Reading.{read_of}
use Rattle.phrases.specs.declared.Kind.{Kind}
use Rattle.phrases.specs.Lines.{kind_of, is_data}
use Rattle.machine.specs.Machine.{Fed, Out, run}
use Rattle.machine.proofs.Cuts.{on_fed, run-leaves}
use Rattle.talk.specs.declared.Terms.{Terms}
use Rattle.talk.specs.declared.Session.{Session}
use Rattle.talk.specs.Answer.{Happening}
use Rattle.talk.specs.Answer as what
use Rattle.talk.specs.Sessions.{keeps_terms, salted, line_so_far, listening}
use Rattle.talk.specs.Talk.{Turn, nothing, offered, completed, heard_as, heard, data_heard}
use Rattle.session.specs.Feed.{obeyed, feed}
use Rattle.session_rules.specs.Rules.{keeps_session, step_refusal}
use Rattle.session.specs.Answer as answer
use Rattle.session.specs.Calls.{Outcome, refused, stored, went, step_of}
use Rattle.session.proofs.Runs.{run-payload, run-whole}
use Rattle.session_rules.proofs.Tests.{Kept, kept, terms-bound, payload-bound, mode-low, long-enough, Passed, passed}
use Rattle.exchange.specs.Host.{Lent, call, Between, at_first, after_as, after, after_all}
use Rattle.exchange.proofs.Keeps.{on, listening-keeps, step_keeps}

-- ---- what a line leads to: a payload begins with nothing but its salt in the digest, and a message at a line has no bytes

pub record Begun (t : Session) (h : Happening) : Type 0 where
  pub payload : t.mode ≡ 2 → (t.got ≡ 0) × (t.hash ≡ salted t.terms)
  pub message : (x : Terms) → h.what ≡ what.message x → (x.len ≡ 0) × (id_number (finished (salted x)) ≡ x.id)

abbrev BegunBy : Turn → Type 0
BegunBy t = Begun t.next t.happening

-- a turn that leaves no payload coming, and is no message
quiet-turn : (t : Session) (h : Happening) → (t.mode ≡ 2 → ⊥) → ((x : Terms) → h.what ≡ what.message x → ⊥) → Begun t h
quiet-turn t h m n = record { payload = λ e. absurd (m e); message = λ x e. absurd (n x e) }

not-nothing : (x : Terms) → what.nothing ≡ what.message x → ⊥
not-nothing x e = let z : ◌≡◌ {A = ℕ} 0 1 = cc in omega arith

not-offer : (t x : Terms) → what.offer t ≡ what.message x → ⊥
not-offer t x e = let z : ◌≡◌ {A = ℕ} 0 1 = cc in omega arith

not-ended : (n : ℕ) (x : Terms) → what.ended n ≡ what.message x → ⊥
not-ended n x e = let z : ◌≡◌ {A = ℕ} 0 1 = cc in omega arith

offered-begun : (s : List ℕ) (r : Reading) (m : Line) → BegunBy (offered s r m)
offered-begun s Reading.Read m = quiet-turn _ _ (λ e. omega arith) (λ x e. not-offer _ x e)
offered-begun s (Reading.Refused n) m = quiet-turn _ _ (λ e. omega arith) (λ x e. not-ended n x e)

heard-begun : (k : Kind) (s : List ℕ) → BegunBy (heard_as k s)
heard-begun Kind.Ihave s = offered-begun s (read_of s).reading (read_of s).line
heard-begun Kind.Data s = quiet-turn _ _ (λ e. omega arith) (λ x e. not-ended 1 x e)
heard-begun Kind.Leave s = quiet-turn _ _ (λ e. omega arith) (λ x e. not-ended 0 x e)
heard-begun Kind.Ask s = quiet-turn _ _ (λ e. omega arith) (λ x e. not-nothing x e)
heard-begun Kind.Other s = quiet-turn _ _ (λ e. omega arith) (λ x e. not-nothing x e)

-- a whole payload: the next line is waited for; a message is the terms', and its id is that of the digest
completed-next : (t : Terms) (h : Sha1) → (completed t h).next ≡ listening
unfolding completed
completed-next t h = on (λ (u : Turn). u.next ≡ listening) (id_number (finished h) =? t.id) _ _ (λ e. refl) (λ e. refl)

completed-message : (t : Terms) (h : Sha1) (x : Terms) → (completed t h).happening.what ≡ what.message x → (x ≡ t) × (id_number (finished h) ≡ t.id)
unfolding completed
completed-message t h x =
    on (λ (u : Turn). u.happening.what ≡ what.message x → (x ≡ t) × (id_number (finished h) ≡ t.id)) (id_number (finished h) =? t.id) _ _
    (λ e q. (same x q, eqb-true _ _ e)) (λ e q. absurd (not-nothing x q))
  where
    same : (x : Terms) → what.message t ≡ what.message x → x ≡ t
    same x q = cc

not-two : (t : Terms) (h : Sha1) → (completed t h).next.mode ≡ 2 → ⊥
not-two t h e = let z = ap (λ (s : Session). s.mode) (completed-next t h) in omega arith

data-begun : (t : Terms) (s : List ℕ) → BegunBy (data_heard t s)
unfolding data_heard
data-begun t s =
    on BegunBy (keeps_terms t and is_data t.id s) _ _
    (λ a. on BegunBy (t.len =? 0) _ _ (λ z. record { payload = λ e. absurd (not-two t (salted t) e); message = λ x e. empty x z (completed-message t (salted t) x e) })
    (λ z. record { payload = λ e. (refl, refl); message = λ x e. absurd (not-nothing x e) }))
    (λ a. quiet-turn _ _ (λ e. omega arith) (λ x e. not-ended 1 x e))
  where
    empty : (x : Terms) → (t.len =? 0) ≡ true → (x ≡ t) × (id_number (finished (salted t)) ≡ t.id) → (x.len ≡ 0) × (id_number (finished (salted x)) ≡ x.id)
    empty x z q = subst (λ (y : Terms). (y.len ≡ 0) × (id_number (finished (salted y)) ≡ y.id)) (sym q.0) (eqb-true _ _ z, q.1)

obeyed-begun : (s : Session) → BegunBy (obeyed s)
unfolding heard
obeyed-begun s = on BegunBy (s.mode =? 0) _ _ (λ e. heard-begun (kind_of (line_so_far s)) (line_so_far s)) (λ e. data-begun s.terms (line_so_far s))

abbrev Low : Session → Type 0
Low s = s.mode ≤ 1

still : (s : Session) → Low s → Begun s nothing
still s m = quiet-turn s nothing (λ e. omega arith) (λ x e. not-nothing x e)

feed-begun : (s : Session) (b : ℕ) → Low s → on_fed feed nothing Low Begun still (feed s b)
unfolding feed
feed-begun s b m =
    on P (s.mode =? 2) _ _ (λ e. absurd (omega (arith, eqb-true s.mode 2 e)))
    (λ e. on P (s.mode =? 3) _ _ (λ f. absurd (omega (arith, eqb-true s.mode 3 f)))
    (λ f. on P (b =? 10) _ _ (λ g. obeyed-begun s) (λ g. on P (s.line_len <? 512) _ _ (λ l. m) (λ l. quiet-turn _ _ (λ e. omega arith) (λ x e. not-ended 1 x e)))))
  where
    P : Fed Session Happening → Type 0
    P = on_fed feed nothing Low Begun still

run-begun : (s : Session) (piece : List ℕ) → Low s → Begun (run feed nothing 0 s piece).state (run feed nothing 0 s piece).happened
run-begun s piece m = run-leaves feed nothing Low Begun still feed-begun 0 s piece m

-- ---- places of the buffer

place : (pl r bs : List ℕ) (n i : ℕ) → n ≡ length r → n + length bs ≤ length pl → i < length (r ++ bs) → (i < length r → get_or pl i 0 ≡ get_or r i 0)
    → get_or (placed bs n pl) i 0 ≡ get_or (r ++ bs) i 0
place pl r bs n i e h l f = ap (λ (w : List ℕ). get_or w i 0) (placed-in bs n pl h) ∙ go (dec_le (length r) i)
  where
    front : length (take n pl) ≡ n
    front = length-take-le n pl (omega arith)

    go : Dec (length r ≤ i) → get_or (take n pl ++ (bs ++ drop (n + length bs) pl)) i 0 ≡ get_or (r ++ bs) i 0
    go (no d) =
        get_or-append (take n pl) _ 0 i (omega (arith, front)) ∙ get_or-take n pl i 0 (omega arith) ∙ f (omega arith) ∙ sym (get_or-append r bs 0 i (omega arith))
    go (yes d) =
        let j = i - length r in
        let p : length (take n pl) + j ≡ i = omega (arith, front) in
        let q : length r + j ≡ i = omega arith in
        let b : j < length bs = omega (arith, length-append r bs) in
        ap (λ (k : ℕ). get_or (take n pl ++ (bs ++ drop (n + length bs) pl)) k 0) (sym p) ∙ get_or-append-add (take n pl) _ j 0
        ∙ get_or-append bs _ 0 j b ∙ sym (get_or-append-add r bs j 0) ∙ ap (λ (k : ℕ). get_or (r ++ bs) k 0) q

-- ---- what holds between two calls

pub record Sound (h : Between) : Type 0 where
  pub keeps : keeps_session h.session ≡ true
  -- while a payload comes, the bytes received are counted and in the digest, after the salt
  pub digest : h.session.mode ≡ 2 → (length h.received ≡ h.session.got) × (h.session.hash ≡ fed_all (salted h.session.terms) h.received)
  pub places : (i : ℕ) → i < length h.received → h.alone i ≡ true → get_or h.buffer i 0 ≡ get_or h.received i 0

-- the id of bytes that come after a salt
id-after : (t : Terms) (r : List ℕ) → length r ≤ longest_payload → id_number (finished (fed_all (salted t) r)) ≡ t.id → message_id t.salt r ≡ is t.id
id-after t r l e =
    let z : r ++ [] ≡ r = append-nil r in
    ap (message_id t.salt) (sym z) ∙ sym (id-of-pieces t.salt (r ∷ []) (omega (arith, ap length z))) ∙ ap is e

-- bytes that have an id are not too many
id-few : (salt : Option ℤ) (r : List ℕ) (n len : ℕ) → length r ≡ len → message_id salt r ≡ is n → len ≤ longest_payload
id-few salt r n len e q = go (longest_payload <? length r) refl q
  where
    go : (b : Bool) → (longest_payload <? length r) ≡ b → (if b then ids.refused payload_too_long else is (id_number (sha1 (salt_bytes salt ++ r)))) ≡ is n → len ≤ longest_payload
    go true f z = let y : ◌≡◌ {A = ℕ} 0 1 = cc in absurd (omega arith)
    go false f z = omega (arith, ltb-false longest_payload (length r) f)

module _ (h : Between) (c : Lent) (k : Sound h) where
  abbrev s : Session
  s = h.session

  abbrev had : ℕ → Bool
  had i = if i <? length h.received then h.alone i and get_or c.payload i 0 =? get_or h.buffer i 0 else true

  -- what is asked of a call's outcome, where r are the bytes received after it
  record Right (r : List ℕ) (o : Outcome) : Type 0 where
    digest : o.step_record.next.mode ≡ 2 → (length r ≡ o.step_record.next.got) × (o.step_record.next.hash ≡ fed_all (salted o.step_record.next.terms) r)
    places : (i : ℕ) → i < length r → had i ≡ true → get_or o.payload i 0 ≡ get_or r i 0
    message : (x : Terms) → o.step_record.happening.what ≡ what.message x → (length r ≡ x.len) × (message_id x.salt r ≡ is x.id) × (longest_payload ≤ length o.payload)

  -- a place whose byte came before is in the lent buffer as it was left
  as-left : (i : ℕ) → i < length h.received → had i ≡ true → get_or c.payload i 0 ≡ get_or h.received i 0
  as-left i l a =
      let b = sym (if_yes _ _ _ (lt-ltb i (length h.received) l)) ∙ a in
      eqb-true _ _ (and_right (h.alone i) _ b) ∙ k.places i l (and_left (h.alone i) _ b)

  -- no payload comes
  none_right : (o : Outcome) → (o.step_record.next.mode ≡ 2 → (o.step_record.next.got ≡ 0) × (o.step_record.next.hash ≡ salted o.step_record.next.terms))
      → ((x : Terms) → o.step_record.happening.what ≡ what.message x → (x.len ≡ 0) × (id_number (finished (salted x)) ≡ x.id)) → longest_payload ≤ length o.payload → Right [] o
  none_right o d m l = record {
    digest = λ e. (sym (d e).0, (d e).1);
    places = λ i p a. absurd (omega arith);
    message = λ x e. (sym (m x e).0, id-after x [] (omega arith) (m x e).1, l);
  }

  -- ---- a call that was made

  abbrev O : Out Session Happening
  O = run feed nothing 0 s c.piece

  abbrev Went : Out Session Happening → Type 0
  Went o = Right (if s.mode =? 2 then h.received ++ take o.used c.piece else []) (went s c.piece c.payload o)

  module _ (room : longest_payload ≤ length c.payload) where
    -- a line's bytes
    line-right : s.mode ≤ 1 → Went O
    line-right m =
        let b = run-begun s c.piece m in
        let e : (s.mode =? 2) ≡ false = ne_eqb s.mode 2 (λ q. omega arith) in
        let p : stored s (take O.used c.piece) c.payload ≡ c.payload = if_no _ _ _ e in
        subst (λ (r : List ℕ). Right r (went s c.piece c.payload O)) (sym (if_no _ _ _ e))
        (none_right (went s c.piece c.payload O) b.payload b.message (rw p room))

    -- a payload's bytes
    module _ (m : s.mode ≡ 2) where
      abbrev K : Kept s
      K = kept s k.keeps

      -- bytes that go to their places
      kept-places : (bs : List ℕ) → s.got + length bs ≤ s.terms.len → (i : ℕ) → i < length (h.received ++ bs) → had i ≡ true
          → get_or (placed bs s.got c.payload) i 0 ≡ get_or (h.received ++ bs) i 0
      kept-places bs l i j a = place c.payload h.received bs s.got i (sym (k.digest m).0) (omega (arith, terms-bound s K)) j (λ p. as-left i p a)

      -- the three facts, where the bytes used are bs
      right_by : (bs : List ℕ) (o : Out Session Happening) → take o.used c.piece ≡ bs → s.got + length bs ≤ s.terms.len
          → (o.state.mode ≡ 2 → (length (h.received ++ bs) ≡ o.state.got) × (o.state.hash ≡ fed_all (salted o.state.terms) (h.received ++ bs)))
          → ((x : Terms) → o.happened.what ≡ what.message x → (length (h.received ++ bs) ≡ x.len) × (message_id x.salt (h.received ++ bs) ≡ is x.id)) → Went o
      right_by bs o u l d g =
          let e : (s.mode =? 2) ≡ true = eq-eqb _ _ m in
          let p : stored s (take o.used c.piece) c.payload ≡ placed bs s.got c.payload = if_yes _ _ _ e ∙ ap (λ (w : List ℕ). placed w s.got c.payload) u in
          let q : (if s.mode =? 2 then h.received ++ take o.used c.piece else []) ≡ h.received ++ bs = if_yes _ _ _ e ∙ ap (λ (w : List ℕ). h.received ++ w) u in
          subst (λ (r : List ℕ). Right r (went s c.piece c.payload o)) (sym q)
          (record {
            digest = d;
            places = λ i j a. ap (λ (w : List ℕ). get_or w i 0) p ∙ kept-places bs l i j a;
            message = λ x f. ((g x f).0, (g x f).1, rw (p, length-placed bs s.got c.payload) room);
          })

      part_right : s.got + length c.piece < s.terms.len → Went O
      part_right l =
          let o = run-payload c.piece 0 s m l in
          let z : 0 + length c.piece ≡ length c.piece = omega arith in
          let n = k.digest m in
          subst Went (sym o)
          (right_by c.piece _ (ap (λ (i : ℕ). take i c.piece) z ∙ take_all (length c.piece) c.piece (omega arith)) (omega arith)
          (λ e. (length-append h.received c.piece ∙ omega arith, ap (λ (x : Sha1). fed_all x c.piece) n.1 ∙ sym (parts (salted s.terms) h.received c.piece)))
          (λ x e. absurd (not-nothing x e)))

      whole-right : s.terms.len ≤ s.got + length c.piece → Went O
      whole-right l =
          let i = s.terms.len - s.got in
          let g = payload-bound s K m in
          let bs = take i c.piece in
          let b : length bs ≡ i = length-take-le i c.piece (omega arith) in
          let n = k.digest m in
          let t = completed s.terms (fed_all s.hash bs) in
          let o : O ≡ record { used = 0 + length bs; state = t.next; reply = t.reply; happened = t.happening } =
          ap (run feed nothing 0 s) (sym (take-append-drop i c.piece)) ∙ run-whole bs (drop i c.piece) 0 s (fed_all s.hash bs) m g (omega arith) refl in
          let z : 0 + length bs ≡ i = omega arith in
          let f : fed_all s.hash bs ≡ fed_all (salted s.terms) (h.received ++ bs) = ap (λ (x : Sha1). fed_all x bs) n.1 ∙ sym (parts (salted s.terms) h.received bs) in
          let w : length (h.received ++ bs) ≡ s.terms.len = length-append h.received bs ∙ omega arith in
          let v : id_number (finished (fed_all s.hash bs)) ≡ s.terms.id → message_id s.terms.salt (h.received ++ bs) ≡ is s.terms.id =
          λ e. id-after s.terms (h.received ++ bs) (omega (arith, terms-bound s K)) (ap (λ (x : Sha1). id_number (finished x)) (sym f) ∙ e) in
          subst Went (sym o)
          (right_by bs _ (ap (λ (j : ℕ). take j c.piece) z) (omega arith) (λ e. absurd (not-two s.terms (fed_all s.hash bs) e))
          (λ x e. of-terms x (completed-message s.terms (fed_all s.hash bs) x e) (h.received ++ bs) w v))
        where
          of-terms : (x : Terms) {p : Type 0} → (x ≡ s.terms) × p → (r : List ℕ) → length r ≡ s.terms.len → (p → message_id s.terms.salt r ≡ is s.terms.id)
              → (length r ≡ x.len) × (message_id x.salt r ≡ is x.id)
          of-terms x q r w v = subst (λ (y : Terms). (length r ≡ y.len) × (message_id y.salt r ≡ is y.id)) (sym q.0) (w, v q.1)

      payload-right : Went O
      payload-right = go (dec_le s.terms.len (s.got + length c.piece))
        where
          go : Dec (s.terms.len ≤ s.got + length c.piece) → Went O
          go (yes e) = whole-right e
          go (no e) = part_right (omega arith)

  -- ---- every call

  -- what is asked of the call, where g is what the host then has
  record Fair (g : Between) (o : Outcome) : Type 0 where
    digest : g.session.mode ≡ 2 → (length g.received ≡ g.session.got) × (g.session.hash ≡ fed_all (salted g.session.terms) g.received)
    places : (i : ℕ) → i < length g.received → g.alone i ≡ true → get_or g.buffer i 0 ≡ get_or g.received i 0
    message : (x : Terms) → o.step_record.happening.what ≡ what.message x → (length g.received ≡ x.len) × (message_id x.salt g.received ≡ is x.id) × (longest_payload ≤ length g.buffer)

  abbrev Asked : Outcome → Type 0
  Asked o = Fair (after_as o.step_record.answer h c o) o

  refused-fair : (n : ℕ) → Asked (refused s c.payload n)
  refused-fair n = record { digest = k.digest; places = k.places; message = λ x e. absurd (not-nothing x e) }

  went-fair : Went O → Asked (went s c.piece c.payload O)
  went-fair r = record { digest = r.digest; places = r.places; message = r.message }

  abbrev number : ℕ
  number = step_refusal s (length c.payload) c.room

  right : Asked (call s c)
  unfolding step_of
  right =
      on Asked (number =? 0) _ _
      (λ a. went-fair (goes (passed s (length c.payload) c.room number refl (omega (arith, eqb-true number 0 a)))))
      (λ a. refused-fair number)
    where
      goes : Passed s (length c.payload) c.room → Went O
      goes g = by (s.mode =? 2) refl
        where
          room : longest_payload ≤ length c.payload
          room = (long-enough (length c.payload) c.room g.long).0

          by : (t : Bool) → (s.mode =? 2) ≡ t → Went O
          by true e = payload-right room (eqb-true _ _ e)
          by false e = line-right room (mode-low s (kept s k.keeps) g.going (eqb-false _ _ e))

  kept-after : (a : answer.Answer) (o : Outcome) → keeps_session o.step_record.next ≡ true → keeps_session (after_as a h c o).session ≡ true
  kept-after (answer.refused n) o e = k.keeps
  kept-after answer.made o e = e

  after-sound : Sound (after h c)
  after-sound = record {
    keeps = kept-after (call s c).step_record.answer (call s c) (step_keeps s c.piece c.payload c.room k.keeps);
    digest = right.digest;
    places = right.places;
  }

-- ---- THE THEOREMS

first-sound : Sound at_first
first-sound = record { keeps = listening-keeps; digest = λ e. absurd (omega arith); places = λ i p a. absurd (omega arith) }

from-sound : (h : Between) (cs : List Lent) → Sound h → Sound (after_all h cs)
from-sound h [] k = k
from-sound h (c ∷ cs) k = from-sound (after h c) cs (after-sound h c k)

pub all_sound : (cs : List Lent) → Sound (after_all at_first cs)
all_sound cs = from-sound at_first cs first-sound

pub place-holds : (cs : List Lent) (i : ℕ) → let h = after_all at_first cs in i < length h.received → h.alone i ≡ true → get_or h.buffer i 0 ≡ get_or h.received i 0
place-holds cs = (all_sound cs).places

module _ (cs : List Lent) (c : Lent) (t : Terms) (m : (call (after_all at_first cs).session c).step_record.happening.what ≡ what.message t) where
  abbrev H : Between
  H = after (after_all at_first cs) c

  pub message-right : (length H.received ≡ t.len) × (message_id t.salt H.received ≡ is t.id)
  message-right = let r = (right (after_all at_first cs) c (all_sound cs)).message t m in (r.0, r.1)

  -- they stand at the buffer's front if it was left alone
  pub message-stands : ((i : ℕ) → i < t.len → H.alone i ≡ true) → take t.len H.buffer ≡ H.received
  message-stands a =
      let r = (right (after_all at_first cs) c (all_sound cs)).message t m in
      let b = terms-few in
      let l : length (take t.len H.buffer) ≡ t.len = length-take-le t.len H.buffer (omega (arith, r.2)) in
      ext_get_or 0 (take t.len H.buffer) H.received (l ∙ sym r.0)
      (λ i h. get_or-take t.len H.buffer i 0 (omega arith) ∙ (after-sound (after_all at_first cs) c (all_sound cs)).places i (omega arith) (a i (omega arith)))
    where
      terms-few : t.len ≤ longest_payload
      terms-few = few ((right (after_all at_first cs) c (all_sound cs)).message t m)
        where
          few : (length H.received ≡ t.len) × (message_id t.salt H.received ≡ is t.id) × (longest_payload ≤ length H.buffer) → t.len ≤ longest_payload
          few r = id-few t.salt H.received t.id t.len r.0 r.1
