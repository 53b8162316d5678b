-- The refusals of the two calls, and the calls that are made.
use mathlib.Core.Path.{◌≡◌, refl, sym, ap, ◌∙◌}
use Prim.Native.Nat.{ℕ, ◌≤◌, ◌<◌}
use native.Mathlib.Omega.{arith}
use mathlib.Core.Bool.{true, false}
use mathlib.Core.List.{List, []}
use lib.ListN.{length, take}
use borrow.Author.Tests.{eq-eqb, ne_eqb, lt-ltb, le-ltb}
use Rattle.octets.specs.Words.{◌or◌, ◌<?◌}
use Rattle.octets.specs.Bytes.{front, placed}
use Rattle.octets.proofs.Tests.{if_yes, if_no}
use Rattle.refusals.specs.Numbers.{buffer_too_short, longest_payload}
use Rattle.replies.specs.Replies.{prompt, wrote}
use Rattle.machine.specs.Machine.{run}
use Rattle.talk.specs.declared.Session.{Session}
use Rattle.talk.specs.Sessions.{listening, closed}
use Rattle.talk.specs.Talk.{nothing}
use Rattle.session.specs.Answer as answer
use Rattle.session.specs.Feed.{feed}
use Rattle.session_rules.specs.Rules.{keeps_session, longest_reply, step_refusal}
use Rattle.session_rules.proofs.Tests.{long-enough, number-none, Passed}
use Rattle.session.specs.Calls.{Outcome, refused, stored, went, step_of, open_of, open_reply}
use Rattle.session.specs.Runs.{Spoken}
use Rattle.session.proofs.Replies.{at_front, run_short}

-- ---- the call's refusals

module _ (s : Session) (piece pl : List ℕ) (room : ℕ) where
  module _ (e : keeps_session s ≡ true) where
    module _ (m : s.mode ≡ 3 → ⊥) where
      pub step-goes : (length pl <? longest_payload or room <? longest_reply) ≡ false → step_of s piece pl room ≡ went s piece pl (run feed nothing 0 s piece)
      unfolding step_of
      step-goes h = if_yes _ _ _ (eq-eqb _ _ (number-none s (length pl) room e m h))

-- the three equations of a call's contract, from what it came to
abbrev Comes : Outcome → answer.Record → List ℕ → List ℕ → List ℕ → Type 0
Comes o r payload reply replyAfter = (r ≡ o.step_record) × (payload ≡ o.payload) × (replyAfter ≡ front o.reply reply)

comes-as : (o x : Outcome) (r : answer.Record) (payload reply replyAfter : List ℕ) → x ≡ o → Comes o r payload reply replyAfter → Comes x r payload reply replyAfter
comes-as o x r payload reply replyAfter e k = (k.0 ∙ ap (λ (y : Outcome). y.step_record) (sym e), k.1 ∙ ap (λ (y : Outcome). y.payload) (sym e), k.2 ∙ ap (λ (y : Outcome). front y.reply reply) (sym e))

-- a refusal, by its number
pub refusal : (s : Session) (piece pl reply after : List ℕ) (r : answer.Record) (n : ℕ) → n ≡ step_refusal s (length pl) (length reply) → 0 < n
    → (r ≡ (refused s [] n).step_record) × (after ≡ reply) → Comes (step_of s piece pl (length reply)) r pl reply after
unfolding step_of
refusal s piece pl reply after r n e h k =
    comes-as (refused s pl n) (step_of s piece pl (length reply)) r pl reply after
    (if_no _ _ _ (ne_eqb (step_refusal s (length pl) (length reply)) 0 (λ (z : step_refusal s (length pl) (length reply) ≡ 0). omega (arith, z, e, h))) ∙ ap (refused s pl) (sym e)) (k.0, refl, k.1)

-- what feeding the piece comes to was said
pub goes : (s : Session) (piece pl pl₁ reply after : List ℕ) (r : answer.Record) → Passed s (length pl) (length reply) → pl₁ ≡ stored s (take (run feed nothing 0 s piece).used piece) pl
    → Spoken (run feed nothing 0 s piece) r reply after → Comes (step_of s piece pl (length reply)) r pl₁ reply after
goes s piece pl pl₁ reply after r g p k =
    let o = run feed nothing 0 s piece in
    let room = long-enough (length pl) (length reply) g.long in
    let w = at_front o.reply reply (omega (arith, room.1, run_short piece 0 s)) in
    comes-as (went s piece pl o) (step_of s piece pl (length reply)) r pl₁ reply after
    (step-goes s piece pl (length reply) g.kept g.going g.long)
    (k.0 ∙ (λ i. record { answer = answer.made; used = o.used; happening = o.happened; written = w.0 i; next = o.state }), p, k.1 ∙ w.1)

-- while a payload comes the bytes used are stored, else none is
pub stores : (s : Session) (bytes pl pl₁ : List ℕ) → s.mode ≡ 2 → pl₁ ≡ placed bytes s.got pl → pl₁ ≡ stored s bytes pl
stores s bytes pl pl₁ m e = e ∙ sym (if_yes _ _ _ (eq-eqb s.mode 2 m))

pub stays : (s : Session) (bytes pl : List ℕ) → (s.mode ≡ 2 → ⊥) → pl ≡ stored s bytes pl
stays s bytes pl m = sym (if_no _ _ _ (ne_eqb s.mode 2 m))

-- ---- opening

pub open-short : (l : List ℕ) (x : Session) → length l < 24 → x ≡ closed
    → (◌≡◌ {A = answer.Opening} (record { answer = answer.refused buffer_too_short; written = 0; next = x }) (open_of (length l))) × (l ≡ front (open_reply (length l)) l)
unfolding open_of open_reply
open-short l x h e = (
  ap {B = answer.Opening} (λ (y : Session). record { answer = answer.refused buffer_too_short; written = 0; next = y }) e ∙ sym (if_yes _ _ _ (lt-ltb (length l) 24 h)),
  ap (λ (w : List ℕ). front w l) (sym (if_yes {A = List ℕ} _ [] prompt (lt-ltb (length l) 24 h))),
)

pub open-long : (l l₁ : List ℕ) (n : ℕ) (x : Session) → 24 ≤ length l → x ≡ listening → (n ≡ wrote prompt l) × (l₁ ≡ placed prompt 0 l)
    → (◌≡◌ {A = answer.Opening} (record { answer = answer.made; written = n; next = x }) (open_of (length l))) × (l₁ ≡ front (open_reply (length l)) l)
unfolding open_of open_reply
open-long l l₁ n x h e k =
    let w = at_front prompt l (omega arith) in
    let p = k.0 ∙ w.0 in (
      (λ i. record { answer = answer.made; written = p i; next = e i }) ∙ sym (if_no _ _ _ (le-ltb (length l) 24 h)),
      k.1 ∙ w.1 ∙ ap (λ (z : List ℕ). front z l) (sym (if_no {A = List ℕ} _ [] prompt (le-ltb (length l) 24 h))),
    )
