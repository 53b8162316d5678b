-- The rules of a session, test by test; the number of a refusal.
use Rattle.std.specs.Prelude.{if◌then◌else◌}
use mathlib.Core.Path.{◌≡◌, refl, sym, ap, ◌∙◌}
use Prim.Native.Nat.{ℕ, ◌≤◌, ◌<◌}
use native.Mathlib.Omega.{arith}
use native.Mathlib.Decide.{ℕ_discrete, dec_le}
use mathlib.Core.Bool.{Bool, true, false}
use mathlib.Core.List.{List, [], ◌∷◌}
use lib.ListN.{length, drop, replicate}
use borrow.Author.Tests.{eq-eqb, ne_eqb, lt-ltb, le-ltb, le-leb, eqb-true, eqb-false, ltb-true, ltb-false, leb-true}
use Rattle.octets.specs.Words.{◌and◌, ◌or◌, ◌<?◌, ◌≤?◌, ◌=?◌}
use Rattle.octets.specs.Words as words
use Rattle.octets.specs.Bytes.{all_zero}
use Rattle.octets.proofs.Tests.{if_yes, if_no, and_left, and_right, and_both, and-next, or_no, no_true, no_false}
use Rattle.refusals.specs.Numbers.{buffer_too_short, session_closed, state_broken, longest_payload}
use Rattle.field_rules.specs.Rules.{id_in}
use Rattle.talk.specs.declared.Session.{Session}
use Rattle.talk.specs.Sessions.{keeps_terms}
use Rattle.session_rules.specs.Rules.{session_by, keeps_line, keeps_payload, keeps_session, longest_reply, step_refusal}

-- the longest line that a mode may have
abbrev pub longest : ℕ → ℕ
longest mode = if mode <? 2 then 512 else 0

module _ (s : Session) where
  pub line-rest : s.line_len ≤ longest s.mode → keeps_line s ≡ all_zero (drop s.line_len s.line)
  unfolding keeps_line
  line-rest h = and-next _ _ (le-leb s.line_len (longest s.mode) h)

  pub payload-comes : s.mode ≡ 2 → keeps_payload s ≡ (s.got <? s.terms.len)
  unfolding keeps_payload
  payload-comes m = if_yes _ _ _ (eq-eqb s.mode 2 m)

  pub payload-none : (s.mode ≡ 2 → ⊥) → keeps_payload s ≡ (s.got =? 0)
  unfolding keeps_payload
  payload-none m = if_no _ _ _ (ne_eqb s.mode 2 m)

-- ---- all of them

-- what the rules say of a session that keeps them
pub record Kept (s : Session) : Type 0 where
  pub mode : s.mode ≤ 3
  pub long : length s.line ≡ 512
  pub line : keeps_line s ≡ true
  pub terms : keeps_terms s.terms ≡ true
  pub payload : keeps_payload s ≡ true

pub kept : (s : Session) → keeps_session s ≡ true → Kept s
unfolding keeps_session
kept s e =
    let f = and_right (s.mode ≤? 3) _ e in
    let g = and_right (length s.line =? 512) _ f in
    let h = and_right (keeps_line s) _ g in
    record {
      mode = leb-true _ _ (and_left (s.mode ≤? 3) _ e);
      long = eqb-true _ _ (and_left (length s.line =? 512) _ f);
      line = and_left (keeps_line s) _ g;
      terms = and_left (keeps_terms s.terms) _ h;
      payload = and_right (keeps_terms s.terms) _ h;
    }

pub keep : (s : Session) → Kept s → keeps_session s ≡ true
unfolding keeps_session
keep s k = and_both _ _ (le-leb _ _ k.mode) (and_both _ _ (eq-eqb _ _ k.long) (and_both _ _ k.line (and_both _ _ k.terms k.payload)))

-- bytes that are all zero
zeros : (l : List ℕ) → all_zero l ≡ true → l ≡ replicate (length l) 0
zeros [] e = refl
zeros (b ∷ l) e =
    let h = eqb-true b 0 (and_left (b =? 0) (all_zero l) e) in
    let r = zeros l (and_right (b =? 0) (all_zero l) e) in
    λ i. h i ∷ r i

-- the bounds that the calls use
pub line-bound : (s : Session) → Kept s → s.mode < 2 → s.line_len ≤ 512
unfolding keeps_line
line-bound s k m =
    let b : s.line_len ≤ longest s.mode = leb-true s.line_len (longest s.mode) (and_left (s.line_len ≤? longest s.mode) _ k.line) in
    let e : longest s.mode ≡ 512 = if_yes _ _ _ (lt-ltb s.mode 2 m) in
    omega arith

pub no_line : (s : Session) → Kept s → s.mode ≡ 2 → (s.line_len ≡ 0) × (s.line ≡ replicate 512 0)
unfolding keeps_line
no_line s k m =
    let b : s.line_len ≤ longest s.mode = leb-true s.line_len (longest s.mode) (and_left (s.line_len ≤? longest s.mode) _ k.line) in
    let e : longest s.mode ≡ 0 = if_no _ _ _ (le-ltb s.mode 2 (omega arith)) in
    let z : s.line_len ≡ 0 = omega arith in
    let a : all_zero s.line ≡ true = ap (λ (n : ℕ). all_zero (drop n s.line)) (sym z) ∙ and_right (s.line_len ≤? longest s.mode) _ k.line in
    (z, zeros s.line a ∙ ap (λ (n : ℕ). replicate n 0) k.long)

pub terms-bound : (s : Session) → Kept s → s.terms.len ≤ 4096
unfolding keeps_terms
terms-bound s k = leb-true _ _ (and_right (id_in s.terms.id) _ k.terms)

pub payload-bound : (s : Session) → Kept s → s.mode ≡ 2 → s.got < s.terms.len
payload-bound s k m = ltb-true _ _ (sym (payload-comes s m) ∙ k.payload)

pub mode-low : (s : Session) → Kept s → (s.mode ≡ 3 → ⊥) → (s.mode ≡ 2 → ⊥) → s.mode ≤ 1
mode-low s k c p = go (dec_le s.mode 1)
  where
    go : Dec (s.mode ≤ 1) → s.mode ≤ 1
    go (yes e) = e
    go (no e) = by (ℕ_discrete s.mode 2)
      where
        by : Dec (s.mode ≡ 2) → s.mode ≤ 1
        by (yes f) = absurd (p f)
        by (no f) = absurd (c (omega (arith, k.mode)))

-- both buffers are long enough where neither is too short
pub long-enough : (n m : ℕ) → (n <? longest_payload or m <? longest_reply) ≡ false → (longest_payload ≤ n) × (longest_reply ≤ m)
long-enough n m e = let k = or_no (n <? longest_payload) (m <? longest_reply) e in (ltb-false _ _ k.0, ltb-false _ _ k.1)

-- the running digest has no rule
pub digest-free : (s : Session) (payload room n : ℕ) → n ≡ step_refusal (session_by s.mode s.line_len s.line s.terms s.got) payload room → n ≡ step_refusal s payload room
unfolding step_refusal keeps_session keeps_line keeps_payload
digest-free s payload room n e = e

-- the number of a refusal, test by test
module _ (s : Session) (payload room : ℕ) where
  pub number-broken : keeps_session s ≡ false → step_refusal s payload room ≡ state_broken
  unfolding step_refusal
  number-broken e = if_yes _ _ _ (no_false _ e)

  module _ (e : keeps_session s ≡ true) where
    pub number-closed : s.mode ≡ 3 → step_refusal s payload room ≡ session_closed
    unfolding step_refusal
    number-closed m = if_no _ _ _ (no_true _ e) ∙ if_yes _ _ _ (eq-eqb _ _ m)

    module _ (m : s.mode ≡ 3 → ⊥) where
      pub number_short : (payload <? longest_payload or room <? longest_reply) ≡ true → step_refusal s payload room ≡ buffer_too_short
      unfolding step_refusal
      number_short h = if_no _ _ _ (no_true _ e) ∙ if_no _ _ _ (ne_eqb _ _ m) ∙ if_yes _ _ _ h

      pub number-none : (payload <? longest_payload or room <? longest_reply) ≡ false → step_refusal s payload room ≡ 0
      unfolding step_refusal
      number-none h = if_no _ _ _ (no_true _ e) ∙ if_no _ _ _ (ne_eqb _ _ m) ∙ if_no _ _ _ h

-- none: the rules are kept, the session is not closed, and both buffers are long enough
pub record Passed (s : Session) (payload room : ℕ) : Type 0 where
  pub kept : keeps_session s ≡ true
  pub going : s.mode ≡ 3 → ⊥
  pub long : (payload <? longest_payload or room <? longest_reply) ≡ false

pub passed : (s : Session) (payload room n : ℕ) → n ≡ step_refusal s payload room → n ≤ 0 → Passed s payload room
unfolding step_refusal
passed s payload room n e h = go (keeps_session s) (s.mode =? 3) (payload <? longest_payload or room <? longest_reply) refl refl refl e
  where
    go : (a b c : Bool) → keeps_session s ≡ a → (s.mode =? 3) ≡ b → (payload <? longest_payload or room <? longest_reply) ≡ c
        → n ≡ (if words.no a then state_broken else if b then session_closed else if c then buffer_too_short else 0) → Passed s payload room
    go true false false p q r f = record { kept = p; going = eqb-false _ _ q; long = r }
    go true false true p q r f = absurd (omega (arith, f, h))
    go true true c p q r f = absurd (omega (arith, f, h))
    go false b c p q r f = absurd (omega (arith, f, h))
