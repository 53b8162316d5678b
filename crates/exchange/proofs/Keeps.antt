-- THEOREM: an opening's session keeps the rules, and a call keeps them, if it is handed a session that keeps them.
use Rattle.std.specs.Prelude.{if◌then◌else◌}
use mathlib.Core.Path.{◌≡◌, refl, sym, ap, ◌∙◌}
use Prim.Native.Nat.{ℕ, zero, suc, ◌+◌, ◌≤◌, ◌<◌}
use native.Mathlib.Omega.{arith}
use mathlib.Core.Bool.{Bool, true, false}
use mathlib.Core.List.{List, []}
use lib.ListN.{length, drop, get_or, set, length-set}
use lib.Seq.{drop-set-lt}
use borrow.Author.Tests.{lt-ltb, le-leb, eqb-true, eqb-false, ltb-true, ltb-false}
use Rattle.octets.specs.Words.{◌and◌, no, every, ◌<?◌, ◌≤?◌, ◌=?◌}
use Rattle.octets.proofs.Tests.{and_left, and_right, and_both, if_yes}
use Rattle.octets.proofs.Lists.{drop-next}
use Rattle.refusals.specs.Numbers.{line_malformed, chk_differs, format_d, payload_too_long, longest_payload, buffer_too_short}
use Rattle.field_rules.specs.Rules.{id_in}
use Rattle.envelope.specs.Rules.{envelope}
use Rattle.envelope.specs.declared.Envelope.{Envelope}
use Rattle.sha1_digest.specs.declared.Sha1.{Sha1}
use Rattle.sha1_digest.specs.Machine.{fed, finished}
use Rattle.sha1_digest.specs.Id.{id_number}
use Rattle.line.specs.Reading.{Reading, rest_of, is_text, framed, values_good, well_formed, chk_right, line_of, refusal_of, read_as, read_of}
use Rattle.line_groups.specs.Rules.{deflated}
use Rattle.line_groups.specs.Answers.{len_of}
use Rattle.tokens.specs.Tokens.{tokens}
use Rattle.phrases.specs.declared.Kind.{Kind}
use Rattle.phrases.specs.Lines.{kind_of, is_data}
use Rattle.replies.specs.Replies.{prompt}
use Rattle.machine.specs.Machine.{Fed}
use Rattle.machine.proofs.Cuts.{ok_fed, run-keeps}
use Rattle.talk.specs.declared.Terms.{Terms}
use Rattle.talk.specs.declared.Session.{Session}
use Rattle.talk.specs.Answer.{Happening}
use Rattle.talk.specs.Sessions.{terms_of, keeps_terms, salted, listening, promised, receiving, closed, line_so_far}
use Rattle.talk.specs.Talk.{Turn, nothing, offered, completed, heard_as, heard, data_heard}
use Rattle.session.specs.Feed.{pushed, taken, obeyed, feed_line, feed_payload, feed}
use Rattle.session_rules.specs.Rules.{keeps_line, keeps_payload, keeps_session, longest_reply, step_refusal}
use Rattle.session.specs.Calls.{Outcome, open_of, step_of}
use Rattle.session.specs.Answer as answer
use Rattle.session_rules.proofs.Tests.{longest, Kept, kept, keep, line-rest, payload-comes, payload-none, mode-low}

-- ---- the modes as they are entered

pub listening-keeps : keeps_session listening ≡ true
unfolding keeps_session keeps_line keeps_terms keeps_payload id_in
listening-keeps = refl

closed-keeps : keeps_session closed ≡ true
unfolding keeps_session keeps_line keeps_terms keeps_payload id_in
closed-keeps = refl

-- the session of an opening keeps the rules, whatever was lent
pub open-keeps : (room : ℕ) → keeps_session (open_of room).next ≡ true
unfolding open_of
open-keeps room = go (room <? longest_reply)
  where
    go : (b : Bool) → keeps_session (if◌then◌else◌ {A = answer.Opening} b (record { answer = answer.refused buffer_too_short; written = 0; next = closed }) (record { answer = answer.made; written = length prompt; next = listening })).next ≡ true
    go true = closed-keeps
    go false = listening-keeps

entered-line : (mode : ℕ) (t : Terms) (h : Sha1) → mode ≤ 2 → keeps_line (record { mode = mode; line_len = 0; line = listening.line; terms = t; got = 0; hash = h }) ≡ true
unfolding keeps_line
entered-line mode t h m = go (mode <? 2)
  where
    go : (b : Bool) → 0 ≤? (if b then 512 else 0) and every (λ x. x =? 0) listening.line ≡ true
    go true = refl
    go false = refl

promised-keeps : (t : Terms) → keeps_terms t ≡ true → keeps_session (promised t) ≡ true
unfolding keeps_payload
promised-keeps t k = keep (promised t) (record { mode = omega arith; long = refl; line = entered-line 1 t _ (omega arith); terms = k; payload = refl })

receiving-keeps : (t : Terms) → keeps_terms t ≡ true → (t.len ≡ 0 → ⊥) → keeps_session (receiving t) ≡ true
receiving-keeps t k n =
    keep (receiving t)
    (record { mode = omega arith; long = refl; line = entered-line 2 t _ (omega arith); terms = k; payload = payload-comes (receiving t) refl ∙ lt-ltb 0 t.len (positive t.len n) })
  where
    positive : (m : ℕ) → (m ≡ 0 → ⊥) → 0 < m
    positive zero d = absurd (d refl)
    positive (suc m) d = omega arith

-- ---- what a line that was read says keeps the rules of an offer

envelope-id : (e : Envelope) → envelope e ≡ true → id_in e.id ≡ true
unfolding envelope
envelope-id e k = and_left (id_in e.id) _ k

both-good : (s : List ℕ) → well_formed s ≡ true → (longest_payload <? len_of (tokens (rest_of s))) ≡ false → id_in (line_of s).fields.id and (line_of s).len ≤? longest_payload ≡ true
unfolding well_formed line_of
both-good s a b =
    and_both _ _ (envelope-id (line_of s).fields (and_right (values_good (tokens (rest_of s))) _ (and_right (framed s) _ (and_right (is_text s) _ a)))) (le-leb (len_of (tokens (rest_of s))) longest_payload (ltb-false longest_payload (len_of (tokens (rest_of s))) b))

read-terms : (s : List ℕ) → (r : ℕ) → refusal_of s ≡ r → (read_as r (line_of s)).reading ≡ Reading.Read → keeps_terms (terms_of (read_as r (line_of s)).line) ≡ true
unfolding keeps_terms refusal_of
read-terms s (suc n) e q = let z : ◌≡◌ {A = ℕ} 0 1 = cc in absurd (omega arith)
read-terms s zero e q =
    go (well_formed s) refl (chk_right s (tokens (rest_of s))) (deflated (tokens (rest_of s))) (longest_payload <? len_of (tokens (rest_of s))) refl e
  where
    go : (w : Bool) → well_formed s ≡ w → (c d p : Bool) → (longest_payload <? len_of (tokens (rest_of s))) ≡ p
        → ◌≡◌ {A = ℕ} (if no w then line_malformed else if no c then chk_differs else if d then format_d else if p then payload_too_long else 0) 0
        → id_in (line_of s).fields.id and (line_of s).len ≤? longest_payload ≡ true
    go true a true false false b f = both-good s a b
    go true a true false true b f = absurd (omega arith)
    go true a true true p b f = absurd (omega arith)
    go true a false d p b f = absurd (omega arith)
    go false a c d p b f = absurd (omega arith)

read_keeps : (s : List ℕ) → (read_of s).reading ≡ Reading.Read → keeps_terms (terms_of (read_of s).line) ≡ true
unfolding read_of
read_keeps s q = read-terms s (refusal_of s) refl q

-- ---- what a line and a payload lead to

offered-keeps : (s : List ℕ) (r : Reading) → (read_of s).reading ≡ r → keeps_session (offered s r (read_of s).line).next ≡ true
offered-keeps s Reading.Read q = promised-keeps (terms_of (read_of s).line) (read_keeps s q)
offered-keeps s (Reading.Refused n) q = closed-keeps

heard-keeps : (k : Kind) (s : List ℕ) → keeps_session (heard_as k s).next ≡ true
heard-keeps Kind.Ihave s = offered-keeps s (read_of s).reading refl
heard-keeps Kind.Data s = closed-keeps
heard-keeps Kind.Leave s = closed-keeps
heard-keeps Kind.Ask s = listening-keeps
heard-keeps Kind.Other s = listening-keeps

by-test : (b : Bool) (x y : Turn) → keeps_session x.next ≡ true → keeps_session y.next ≡ true → keeps_session (if b then x else y).next ≡ true
by-test true x y p q = p
by-test false x y p q = q

completed-keeps : (t : Terms) (h : Sha1) → keeps_session (completed t h).next ≡ true
unfolding completed
completed-keeps t h = by-test (id_number (finished h) =? t.id) _ _ listening-keeps listening-keeps

data-keeps : (t : Terms) (s : List ℕ) → keeps_terms t ≡ true → keeps_session (data_heard t s).next ≡ true
unfolding data_heard
data-keeps t s k = by-test (keeps_terms t and is_data t.id s) _ _ (go (t.len =? 0) refl) closed-keeps
  where
    go : (b : Bool) → (t.len =? 0) ≡ b → keeps_session (if b then completed t (salted t) else record { reply = []; happening = nothing; next = receiving t }).next ≡ true
    go true e = completed-keeps t (salted t)
    go false e = receiving-keeps t k (eqb-false t.len 0 e)

obeyed-keeps : (s : Session) → Kept s → keeps_session (obeyed s).next ≡ true
unfolding heard
obeyed-keeps s k = by-test (s.mode =? 0) _ _ (heard-keeps (kind_of (line_so_far s)) (line_so_far s)) (data-keeps s.terms (line_so_far s) k.terms)

-- ---- a byte

zeros-next : (l : List ℕ) (n b : ℕ) → n < length l → every (λ x. x =? 0) (drop n l) ≡ true → every (λ x. x =? 0) (drop (n + 1) (set l n b)) ≡ true
zeros-next l n b h z =
    ap (every (λ x. x =? 0)) (drop-set-lt (n + 1) l n b (omega arith)) ∙ and_right (get_or l n 0 =? 0) _ (sym (ap (every (λ x. x =? 0)) (drop-next l n 0 h)) ∙ z)

pushed-keeps : (s : Session) (b : ℕ) → Kept s → s.mode ≤ 1 → s.line_len < 512 → keeps_session (pushed s b) ≡ true
pushed-keeps s b k m h =
    keep (pushed s b)
    (record {
      mode = k.mode;
      long = length-set s.line s.line_len b ∙ k.long;
      line =
          line-rest (pushed s b) (omega (arith, roomy))
          ∙ zeros-next s.line s.line_len b (omega (arith, k.long)) (sym (line-rest s (omega (arith, roomy))) ∙ k.line);
      terms = k.terms;
      payload = payload-none (pushed s b) (λ e. omega arith) ∙ sym (payload-none s (λ e. omega arith)) ∙ k.payload;
    })
  where
    roomy : longest s.mode ≡ 512
    roomy = if_yes _ _ _ (lt-ltb s.mode 2 (omega arith))

taken-keeps : (s : Session) (b : ℕ) → Kept s → s.mode ≡ 2 → s.got + 1 < s.terms.len → keeps_session (taken s b) ≡ true
unfolding keeps_line
taken-keeps s b k m h =
    keep (taken s b) (record { mode = k.mode; long = k.long; line = k.line; terms = k.terms; payload = payload-comes (taken s b) m ∙ lt-ltb (s.got + 1) s.terms.len h })

-- what holds of both arms, each under its test, holds of the choice
pub on : {A : Type 0} (P : A → Type 0) (t : Bool) (a b : A) → (t ≡ true → P a) → (t ≡ false → P b) → P (if t then a else b)
on P true a b f g = f refl
on P false a b f g = g refl

abbrev Keeps : Session → Type 0
Keeps s = keeps_session s ≡ true

abbrev Okay : Fed Session Happening → Type 0
Okay = ok_fed feed nothing Keeps

line_ok : (s : Session) (b : ℕ) → Kept s → s.mode ≤ 1 → Okay (feed_line s b)
line_ok s b k m = on Okay (b =? 10) _ _ (λ e. obeyed-keeps s k) (λ e. on Okay (s.line_len <? 512) _ _ (λ h. pushed-keeps s b k m (ltb-true _ _ h)) (λ h. closed-keeps))

payload-ok : (s : Session) (b : ℕ) → Kept s → s.mode ≡ 2 → Okay (feed_payload s b)
payload-ok s b k m = on Okay (s.got + 1 <? s.terms.len) _ _ (λ h. taken-keeps s b k m (ltb-true _ _ h)) (λ h. completed-keeps s.terms (fed s.hash b))

feed-ok : (s : Session) (b : ℕ) → Keeps s → Okay (feed s b)
unfolding feed
feed-ok s b o =
    let k = kept s o in
    on Okay (s.mode =? 2) _ _ (λ m. payload-ok s b k (eqb-true _ _ m))
    (λ n. on Okay (s.mode =? 3) _ _ (λ c. o) (λ c. line_ok s b k (mode-low s k (eqb-false _ _ c) (eqb-false _ _ n))))

-- ---- THE THEOREM

abbrev Keeping : Outcome → Type 0
Keeping o = keeps_session o.step_record.next ≡ true

pub step_keeps : (s : Session) (piece pl : List ℕ) (room : ℕ) → keeps_session s ≡ true → keeps_session (step_of s piece pl room).step_record.next ≡ true
unfolding step_of
step_keeps s piece pl room e =
    on Keeping (step_refusal s (length pl) room =? 0) _ _ (λ a. run-keeps feed nothing Keeps feed-ok 0 s piece e) (λ a. e)
