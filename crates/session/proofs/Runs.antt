-- What one byte does, and a run of a line's or a payload's bytes taken at once.
use Rattle.std.specs.Prelude.{cond, not, if◌then◌else◌}
use Rattle.std.specs.List.{prefix_len}
use mathlib.Core.Path.{◌≡◌, refl, sym, ap, ◌∙◌}
use Prim.Native.Nat.{ℕ, suc, ◌+◌, ◌-◌, ◌≤◌, ◌<◌}
use native.Mathlib.Omega.{arith}
use native.Mathlib.Decide.{ℕ_discrete}
use mathlib.Core.Bool.{Bool, true, false}
use mathlib.Core.List.{List, [], ◌∷◌, ◌++◌}
use lib.ListN.{length, take, drop, get_or, length-set, drop_of_length-le}
use borrow.Author.Tests.{eq-eqb, ne_eqb, lt-ltb, le-ltb, eqb-true, eqb-false}
use Rattle.octets.specs.Words.{◌=?◌}
use Rattle.octets.specs.Bytes.{placed}
use Rattle.octets.proofs.Lists.{drop-next, placed-none, placed-next}
use Rattle.tokens.specs.Cuts.{before}
use Rattle.sha1_digest.specs.declared.Sha1.{Sha1}
use Rattle.sha1_digest.specs.Machine.{fed, fed_all}
use Rattle.machine.specs.Machine.{Fed, quiet, after, run}
use Rattle.talk.specs.declared.Session.{Session}
use Rattle.talk.specs.Answer.{Happening}
use Rattle.talk.specs.Talk.{Turn, nothing, closing, completed}
use Rattle.session.specs.Feed.{turns, pushed, obeyed, taken, feed}
use Rattle.session.specs.Runs.{out_of}

-- ---- a byte of a line, by what it is

line-push : (s : Session) (b : ℕ) → s.mode ≤ 1 → (b ≡ 10 → ⊥) → s.line_len < 512 → feed s b ≡ quiet (pushed s b)
unfolding feed
line-push s b m n h = rw (ne_eqb s.mode 2 (λ e. omega arith), ne_eqb s.mode 3 (λ e. omega arith), ne_eqb b 10 n, lt-ltb s.line_len 512 h)

line-ends : (s : Session) (b : ℕ) → s.mode ≤ 1 → b ≡ 10 → feed s b ≡ turns (obeyed s)
unfolding feed
line-ends s b m n = rw (ne_eqb s.mode 2 (λ e. omega arith), ne_eqb s.mode 3 (λ e. omega arith), eq-eqb b 10 n)

line-over : (s : Session) (b : ℕ) → s.mode ≤ 1 → (b ≡ 10 → ⊥) → 512 ≤ s.line_len → feed s b ≡ turns (closing [] 1)
unfolding feed
line-over s b m n h = rw (ne_eqb s.mode 2 (λ e. omega arith), ne_eqb s.mode 3 (λ e. omega arith), ne_eqb b 10 n, le-ltb s.line_len 512 h)

-- at the byte i of a piece
module _ (piece : List ℕ) (i : ℕ) (s : Session) where
  next-byte : i < length piece → run feed nothing i s (drop i piece) ≡ after (feed s (get_or piece i 0)) i (λ t. run feed nothing (i + 1) t (drop (i + 1) piece))
  next-byte h = ap (run feed nothing i s) (drop-next piece i 0 h)

  by_byte : (f : Fed Session Happening) → i < length piece → feed s (get_or piece i 0) ≡ f → run feed nothing i s (drop i piece) ≡ after f i (λ t. run feed nothing (i + 1) t (drop (i + 1) piece))
  by_byte f h e = next-byte h ∙ ap (λ (x : Fed Session Happening). after x i (λ t. run feed nothing (i + 1) t (drop (i + 1) piece))) e

  -- it ends the line
  pub run-obey : i < length piece → s.mode ≤ 1 → get_or piece i 0 ≡ 10
      → run feed nothing i s (drop i piece) ≡ record { used = i + 1; state = (obeyed s).next; reply = (obeyed s).reply; happened = (obeyed s).happening }
  run-obey h m n = by_byte (turns (obeyed s)) h (line-ends s (get_or piece i 0) m n)

  -- no byte is left
  pub run_end : length piece ≤ i → run feed nothing i s (drop i piece) ≡ record { used = i; state = s; reply = []; happened = nothing }
  run_end h = ap (run feed nothing i s) (drop_of_length-le piece {i = i} h)

-- ---- bytes of a line, up to its LF

-- the line so far, with bytes behind it
abbrev pub grown : Session → List ℕ → Session
grown s w = record { mode = s.mode; line_len = s.line_len + length w; line = placed w s.line_len s.line; terms = s.terms; got = s.got; hash = s.hash }

grown-none : (s : Session) → s.line_len ≤ length s.line → grown s [] ≡ s
grown-none s h =
    let n : s.line_len + 0 ≡ s.line_len = omega arith in
    let l = placed-none s.line_len s.line h in
    λ i. record { mode = s.mode; line_len = n i; line = l i; terms = s.terms; got = s.got; hash = s.hash }

grown-more : (s : Session) (b : ℕ) (w : List ℕ) → s.line_len + suc (length w) ≤ length s.line → grown (pushed s b) w ≡ grown s (b ∷ w)
grown-more s b w h =
    let n : s.line_len + 1 + length w ≡ s.line_len + suc (length w) = omega arith in
    let l = placed-next b w s.line_len s.line h in
    λ i. record { mode = s.mode; line_len = n i; line = sym l i; terms = s.terms; got = s.got; hash = s.hash }

-- what stands before the first LF, byte by byte
abbrev upto : List ℕ → List ℕ
upto [] = []
upto (b ∷ bs) = if b =? 10 then [] else b ∷ upto bs

upto-is : (s : List ℕ) → before 10 s ≡ upto s
unfolding before
upto-is [] = refl
upto-is (b ∷ bs) = go (b =? 10) (upto-is bs)
  where
    go : (t : Bool) → before 10 bs ≡ upto bs → take (cond (not t) (1 + prefix_len (λ x. not (x =? 10)) bs) 0) (b ∷ bs) ≡ (if t then [] else (b ∷ upto bs))
    go true e = refl
    go false e =
        let z : 1 + prefix_len (λ x. not (x =? 10)) bs ≡ suc (prefix_len (λ x. not (x =? 10)) bs) = omega arith in
        rw z (ap (λ (l : List ℕ). b ∷ l) e)

-- quiet bytes are pushed behind the line so far
pushed-upto : (piece : List ℕ) (k : ℕ) (s : Session) → s.mode ≤ 1 → length s.line ≡ 512 → s.line_len + length (upto piece) ≤ 512
    → run feed nothing k s piece ≡ run feed nothing (k + length (upto piece)) (grown s (upto piece)) (drop (length (upto piece)) piece)
pushed-upto [] k s m l h =
    let z : k ≡ k + 0 = omega arith in
    λ i. run feed nothing (z i) (sym (grown-none s (omega arith)) i) []
pushed-upto (b ∷ bs) k s m l h = go (b =? 10) refl h (λ x. pushed-upto bs (k + 1) (pushed s b) m (length-set s.line s.line_len b ∙ l) x)
  where
    go : (t : Bool) → (b =? 10) ≡ t → s.line_len + length (if t then [] else (b ∷ upto bs)) ≤ 512
        → (s.line_len + 1 + length (upto bs) ≤ 512 → run feed nothing (k + 1) (pushed s b) bs ≡ run feed nothing (k + 1 + length (upto bs)) (grown (pushed s b) (upto bs)) (drop (length (upto bs)) bs))
        → run feed nothing k s (b ∷ bs) ≡ run feed nothing (k + length (if t then [] else (b ∷ upto bs))) (grown s (if t then [] else (b ∷ upto bs))) (drop (length (if t then [] else (b ∷ upto bs))) (b ∷ bs))
    go true e g r =
        let z : k ≡ k + 0 = omega arith in
        λ i. run feed nothing (z i) (sym (grown-none s (omega arith)) i) (b ∷ bs)
    go false e g r =
        let w = upto bs in
        let z : k + 1 + length w ≡ k + suc (length w) = omega arith in
        ap (λ (x : Fed Session Happening). after x k (λ y. run feed nothing (k + 1) y bs)) (line-push s b m (eqb-false _ _ e) (omega arith))
        ∙ r (omega arith)
        ∙ (λ i. run feed nothing (z i) (grown-more s b w (omega arith) i) (drop (length w) bs))

-- a 513th byte is used, where n bytes of the line were there before
abbrev Closes : ℕ → ℕ → Session → List ℕ → Type 0
Closes n i t w = run feed nothing i t w ≡ record { used = i + (512 - n + 1); state = (closing [] 1).next; reply = []; happened = (closing [] 1).happening }

closed-upto : (piece : List ℕ) (k : ℕ) (s : Session) → s.mode ≤ 1 → s.line_len ≤ 512 → 512 - s.line_len < length (upto piece)
    → run feed nothing k s piece ≡ record { used = k + (512 - s.line_len + 1); state = (closing [] 1).next; reply = []; happened = (closing [] 1).happening }
closed-upto [] k s m l h = absurd (omega arith)
closed-upto (b ∷ bs) k s m l h = go (b =? 10) refl h (λ x y. closed-upto bs (k + 1) (pushed s b) m x y) (ℕ_discrete s.line_len 512)
  where
    go : (t : Bool) → (b =? 10) ≡ t → 512 - s.line_len < length (if t then [] else (b ∷ upto bs))
        → (s.line_len + 1 ≤ 512 → 512 - (s.line_len + 1) < length (upto bs) → Closes (s.line_len + 1) (k + 1) (pushed s b) bs)
        → Dec (s.line_len ≡ 512) → Closes s.line_len k s (b ∷ bs)
    go true e g r d = absurd (omega arith)
    go false e g r (yes f) =
        let z : k + 1 ≡ k + (512 - s.line_len + 1) = omega arith in
        ap (λ (x : Fed Session Happening). after x k (λ y. run feed nothing (k + 1) y bs)) (line-over s b m (eqb-false _ _ e) (omega arith))
        ∙ (λ i. record { used = z i; state = (closing [] 1).next; reply = []; happened = (closing [] 1).happening })
    go false e g r (no f) =
        let z : k + 1 + (512 - (s.line_len + 1) + 1) ≡ k + (512 - s.line_len + 1) = omega arith in
        ap (λ (x : Fed Session Happening). after x k (λ y. run feed nothing (k + 1) y bs)) (line-push s b m (eqb-false _ _ e) (omega arith))
        ∙ r (omega arith) (omega arith)
        ∙ (λ i. record { used = z i; state = (closing [] 1).next; reply = []; happened = (closing [] 1).happening })

-- the byte behind what stands before the LF is the LF
upto-within : (piece : List ℕ) → length (upto piece) ≤ length piece
upto-within [] = omega arith
upto-within (b ∷ bs) = go (b =? 10) (upto-within bs)
  where
    go : (t : Bool) → length (upto bs) ≤ length bs → length (if t then [] else (b ∷ upto bs)) ≤ suc (length bs)
    go true r = omega arith
    go false r = omega arith

upto-stops : (piece : List ℕ) → length (upto piece) < length piece → get_or piece (length (upto piece)) 0 ≡ 10
upto-stops [] h = absurd (omega arith)
upto-stops (b ∷ bs) h = go (b =? 10) refl h (λ x. upto-stops bs x)
  where
    go : (t : Bool) → (b =? 10) ≡ t → length (if t then [] else (b ∷ upto bs)) < suc (length bs) → (length (upto bs) < length bs → get_or bs (length (upto bs)) 0 ≡ 10) → get_or (b ∷ bs) (length (if t then [] else (b ∷ upto bs))) 0 ≡ 10
    go true e g r = eqb-true _ _ e
    go false e g r = r (omega arith)

-- the same of what the code takes
pub run-line : (piece : List ℕ) (k : ℕ) (s : Session) → s.mode ≤ 1 → length s.line ≡ 512 → s.line_len + length (before 10 piece) ≤ 512
    → run feed nothing k s piece ≡ run feed nothing (k + length (before 10 piece)) (grown s (before 10 piece)) (drop (length (before 10 piece)) piece)
run-line piece k s m l h = rw (upto-is piece) (pushed-upto piece k s m l (omega (arith, ap length (upto-is piece))))

pub run_long : (piece : List ℕ) (k : ℕ) (s : Session) → s.mode ≤ 1 → s.line_len ≤ 512 → 512 - s.line_len < length (before 10 piece)
    → run feed nothing k s piece ≡ record { used = k + (512 - s.line_len + 1); state = (closing [] 1).next; reply = []; happened = (closing [] 1).happening }
run_long piece k s m l h = closed-upto piece k s m l (omega (arith, ap length (upto-is piece)))

pub before-within : (piece : List ℕ) → length (before 10 piece) ≤ length piece
before-within piece = omega (arith, ap length (upto-is piece), upto-within piece)

pub before-stops : (piece : List ℕ) → length (before 10 piece) < length piece → get_or piece (length (before 10 piece)) 0 ≡ 10
before-stops piece h = rw (upto-is piece) (upto-stops piece (omega (arith, ap length (upto-is piece))))

-- ---- bytes of a payload

abbrev pub received : Session → List ℕ → Session
received s bs = record { mode = s.mode; line_len = s.line_len; line = s.line; terms = s.terms; got = s.got + length bs; hash = fed_all s.hash bs }

received_none : (s : Session) → received s [] ≡ s
received_none s = let n : s.got + 0 ≡ s.got = omega arith in λ i. record { mode = s.mode; line_len = s.line_len; line = s.line; terms = s.terms; got = n i; hash = s.hash }

received_more : (s : Session) (b : ℕ) (bs : List ℕ) → received (taken s b) bs ≡ received s (b ∷ bs)
received_more s b bs =
    let n : s.got + 1 + length bs ≡ s.got + suc (length bs) = omega arith in
    λ i. record { mode = s.mode; line_len = s.line_len; line = s.line; terms = s.terms; got = n i; hash = fed_all (fed s.hash b) bs }

-- a byte of a payload that is not the last, and one that is
pay-more : (s : Session) (b : ℕ) → s.mode ≡ 2 → s.got + 1 < s.terms.len → feed s b ≡ quiet (taken s b)
unfolding feed
pay-more s b m h = rw (eq-eqb s.mode 2 m, lt-ltb (s.got + 1) s.terms.len h)

pay-last : (s : Session) (b : ℕ) → s.mode ≡ 2 → s.terms.len ≤ s.got + 1 → feed s b ≡ turns (completed s.terms (fed s.hash b))
unfolding feed
pay-last s b m h = rw (eq-eqb s.mode 2 m, le-ltb (s.got + 1) s.terms.len h)

-- bytes that do not complete the payload
pub run-payload : (bs : List ℕ) (k : ℕ) (s : Session) → s.mode ≡ 2 → s.got + length bs < s.terms.len
    → run feed nothing k s bs ≡ record { used = k + length bs; state = received s bs; reply = []; happened = nothing }
run-payload [] k s m h = let z : k ≡ k + 0 = omega arith in λ i. record { used = z i; state = sym (received_none s) i; reply = []; happened = nothing }
run-payload (b ∷ bs) k s m h =
    let z : k + 1 + length bs ≡ k + suc (length bs) = omega arith in
    ap (λ (x : Fed Session Happening). after x k (λ y. run feed nothing (k + 1) y bs)) (pay-more s b m (omega arith))
    ∙ run-payload bs (k + 1) (taken s b) m (omega arith)
    ∙ (λ i. record { used = z i; state = received_more s b bs i; reply = []; happened = nothing })

-- bytes that complete it, whatever follows them: the last one, and one that others follow. Each has its own law, so that a run of them is checked in
-- no time.
module _ (k : ℕ) (s : Session) (b : ℕ) (rest : List ℕ) (m : s.mode ≡ 2) where
  whole-last : (h : Sha1) → s.got + 1 ≡ s.terms.len → h ≡ fed s.hash b → run feed nothing k s (b ∷ rest) ≡ out_of (k + 1) (completed s.terms h)
  whole-last h e d = ap (λ (x : Fed Session Happening). after x k (λ y. run feed nothing (k + 1) y rest)) (pay-last s b m (omega arith)) ∙ (λ i. out_of (k + 1) (completed s.terms (sym d i)))

  whole-more : (n : ℕ) (t : Turn) → s.got + 1 < s.terms.len → run feed nothing (k + 1) (taken s b) rest ≡ out_of (k + 1 + n) t → run feed nothing k s (b ∷ rest) ≡ out_of (k + suc n) t
  whole-more n t g r =
      let z : k + 1 + n ≡ k + suc n = omega arith in
      ap (λ (x : Fed Session Happening). after x k (λ y. run feed nothing (k + 1) y rest)) (pay-more s b m g) ∙ r ∙ (λ i. out_of (z i) t)

pub run-whole : (bs rest : List ℕ) (k : ℕ) (s : Session) (h : Sha1) → s.mode ≡ 2 → s.got < s.terms.len → s.got + length bs ≡ s.terms.len → h ≡ fed_all s.hash bs
    → run feed nothing k s (bs ++ rest) ≡ out_of (k + length bs) (completed s.terms h)
run-whole [] rest k s h m g e d = absurd (omega arith)
run-whole (b ∷ []) rest k s h m g e d = whole-last k s b rest m h e d
run-whole (b ∷ c ∷ bs) rest k s h m g e d =
    whole-more k s b ((c ∷ bs) ++ rest) m (length (c ∷ bs)) (completed s.terms h) (omega arith) (run-whole (c ∷ bs) rest (k + 1) (taken s b) h m (omega arith) (omega arith) d)
