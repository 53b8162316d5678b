-- What the code takes in and says is what feeding the piece comes to.
use mathlib.Core.Path.{◌≡◌, sym, ap, ◌∙◌}
use Prim.Native.Nat.{ℕ, ◌+◌, ◌-◌, ◌≤◌, ◌<◌}
use native.Mathlib.Omega.{arith}
use native.Mathlib.Decide.{dec_le}
use mathlib.Core.List.{List, [], ◌++◌}
use lib.ListN.{length, take, drop, get_or, replicate, take-append-drop}
use lib.Seq.{length-take-le, take_all}
use borrow.Author.Tests.{eq-eqb, ne_eqb}
use Rattle.octets.specs.Bytes.{placed}
use Rattle.octets.proofs.Tests.{if_yes, if_no}
use Rattle.sha1_digest.specs.declared.Sha1.{Sha1}
use Rattle.sha1_digest.specs.Machine.{fed_all}
use Rattle.tokens.specs.Cuts.{before}
use Rattle.line.specs.Reading.{blank_line}
use Rattle.replies.specs.Replies.{wrote}
use Rattle.replies.proofs.Joins.{silent}
use Rattle.machine.specs.Machine.{Out, run}
use Rattle.talk.specs.declared.Event.{Event}
use Rattle.talk.specs.declared.Terms.{Terms}
use Rattle.talk.specs.declared.Session.{Session}
use Rattle.talk.specs.Answer.{Happening, Telling, happened}
use Rattle.talk.specs.Sessions.{line_so_far}
use Rattle.talk.specs.Talk.{Turn, nothing, closing, completed, heard, data_heard, told_in}
use Rattle.session.specs.Answer as answer
use Rattle.session.specs.Feed.{feed}
use Rattle.session.specs.Runs.{silence, telling_of, still, out_of, line_turn, Spoken}
use Rattle.session.proofs.Runs.{run-line, run_long, run-obey, run_end, before-within, before-stops, grown, received, run-payload, run-whole}

-- ---- the records

spoken-by : (o q : Out Session Happening) (r : answer.Record) (reply after : List ℕ) → o ≡ q → Spoken q r reply after → Spoken o r reply after
spoken-by o q r reply after e k = (
  k.0 ∙ ap {B = answer.Record} (λ (y : Out Session Happening). record { answer = answer.made; used = y.used; happening = y.happened; written = wrote y.reply reply; next = y.state }) (sym e),
  k.1 ∙ ap (λ (y : Out Session Happening). placed y.reply 0 reply) (sym e),
)

-- nothing is said
pub silent-as : (o : Out Session Happening) (n : ℕ) (e : Event) (x y : Session) (r : answer.Record) (reply : List ℕ) → o ≡ record { used = n; state = y; reply = []; happened = record { what = happened e; line = blank_line } } → x ≡ y → r ≡ silence answer.made n e x → Spoken o r reply reply
silent-as o n e x y r reply p q k =
    let w = silent reply in
    spoken-by o _ r reply reply p
    (k ∙ (λ i. record { answer = answer.made; used = n; happening = record { what = happened e; line = blank_line }; written = w.0 i; next = q i }), w.1)

-- a turn is told
pub told-as : (o : Out Session Happening) (n : ℕ) (t : Turn) (x : Telling) (r : answer.Record) (reply after : List ℕ) → o ≡ out_of n t → (x ≡ told_in t reply) × (after ≡ placed t.reply 0 reply) → r ≡ telling_of n x → Spoken o r reply after
told-as o n t x r reply after p k e = spoken-by o (out_of n t) r reply after p (e ∙ ap (telling_of n) k.0, k.1)

-- ---- a line

module _ (s : Session) (piece part line : List ℕ) (m : s.mode ≤ 1) (long : length s.line ≡ 512) (p : part ≡ before 10 piece) (q : line ≡ placed part s.line_len s.line) where
  -- the session with the line that the code has
  abbrev held : Session
  held = record { mode = s.mode; line_len = s.line_len + length part; line = line; terms = s.terms; got = s.got; hash = s.hash }

  held-is : held ≡ grown s part
  held-is = λ i. record { mode = s.mode; line_len = s.line_len + length part; line = q i; terms = s.terms; got = s.got; hash = s.hash }

  gathered : s.line_len + length part ≤ 512 → run feed nothing 0 s piece ≡ run feed nothing (length part) held (drop (length part) piece)
  gathered h =
      let z : 0 + length part ≡ length part = omega arith in
      let g : s.line_len + length (before 10 piece) ≤ 512 = omega (arith, ap length p) in
      run-line piece 0 s m long g
      ∙ ap (λ (w : List ℕ). run feed nothing (0 + length w) (grown s w) (drop (length w) piece)) (sym p)
      ∙ (λ i. run feed nothing (z i) (sym held-is i) (drop (length part) piece))

  within : length part ≤ length piece
  within = omega (arith, before-within piece, ap length p)

  -- all of the piece was quiet
  pub line_quiet : s.line_len + length part ≤ 512 → length part ≡ length piece → run feed nothing 0 s piece ≡ out_of (length part) (still held)
  line_quiet h e = gathered h ∙ run_end piece (length part) held (omega arith)

  -- an LF: the line is whole, between messages or after `send`
  module _ (h : s.line_len + length part ≤ 512) (e : length part ≡ length piece → ⊥) (text : List ℕ) (t : text ≡ line_so_far held) where
    pub line-whole : run feed nothing 0 s piece ≡ out_of (length part + 1) (line_turn s.mode s.terms text)
    unfolding line_turn
    line-whole =
        let d : length part < length piece = omega (arith, within) in
        gathered h
        ∙ run-obey piece (length part) held d m (ap (λ (w : List ℕ). get_or piece (length w) 0) p ∙ before-stops piece (omega (arith, ap length p)))
        ∙ ap (λ (w : List ℕ). out_of (length part + 1) (line_turn s.mode s.terms w)) (sym t)

-- a line that is whole leads to what the mode says
pub first_turn : (mode : ℕ) (t : Terms) (text : List ℕ) → mode ≡ 0 → line_turn mode t text ≡ heard text
unfolding line_turn
first_turn mode t text z = if_yes _ _ _ (eq-eqb mode 0 z)

pub data_turn : (mode : ℕ) (t : Terms) (text : List ℕ) → (mode ≡ 0 → ⊥) → line_turn mode t text ≡ data_heard t text
unfolding line_turn
data_turn mode t text z = if_no _ _ _ (ne_eqb mode 0 z)

-- a 513th byte
pub line-long : (s : Session) (piece part : List ℕ) → s.mode ≤ 1 → s.line_len ≤ 512 → part ≡ before 10 piece → 512 - s.line_len < length part
    → run feed nothing 0 s piece ≡ out_of (512 - s.line_len + 1) (closing [] 1)
line-long s piece part m l p h =
    let z : 0 + (512 - s.line_len + 1) ≡ 512 - s.line_len + 1 = omega arith in
    run_long piece 0 s m l (omega (arith, ap length p)) ∙ (λ i. out_of (z i) (closing [] 1))

-- ---- a payload

-- what is taken of a piece, where n bytes are left: all of it, or n bytes
taken-all : (n : ℕ) (piece : List ℕ) → length (take n piece) < n → take n piece ≡ piece
taken-all n piece h = go (dec_le n (length piece))
  where
    go : Dec (n ≤ length piece) → take n piece ≡ piece
    go (yes e) = absurd (omega (arith, length-take-le n piece e))
    go (no e) = take_all n piece (omega arith)

taken-some : (n : ℕ) (piece : List ℕ) → n ≤ length (take n piece) → length (take n piece) ≡ n
taken-some n piece h = go (dec_le n (length piece))
  where
    go : Dec (n ≤ length piece) → length (take n piece) ≡ n
    go (yes e) = length-take-le n piece e
    go (no e) = absurd (omega (arith, ap length (take_all n piece (omega arith))))

module _ (s : Session) (piece part pl pl₁ : List ℕ) (h : Sha1) (left : ℕ) (m : s.mode ≡ 2) (none : s.line_len ≡ 0) (zeros : s.line ≡ replicate 512 0) (g : s.got < s.terms.len) (l : left ≡ s.terms.len - s.got)
    (p : part ≡ take left piece) (q : pl₁ ≡ placed part s.got pl) (d : h ≡ fed_all s.hash part) where
  -- the session that the code has
  abbrev pub next : Session
  next = record { mode = 2; line_len = 0; line = replicate 512 0; terms = s.terms; got = s.got + length part; hash = h }

  next-is : next ≡ received s part
  next-is = λ i. record { mode = sym m i; line_len = sym none i; line = sym zeros i; terms = s.terms; got = s.got + length part; hash = d i }

  stored-as : (o : Out Session Happening) (t : Turn) → o ≡ out_of (length part) t → part ≡ take (length part) piece → pl₁ ≡ placed (take o.used piece) s.got pl
  stored-as o t k e = q ∙ ap (λ (w : List ℕ). placed w s.got pl) e ∙ ap (λ (y : Out Session Happening). placed (take y.used piece) s.got pl) (sym k)

  -- more is still to come
  module _ (k : length part < left) where
    all : part ≡ piece
    all = p ∙ taken-all left piece (omega (arith, ap length p))

    pub payload-part : run feed nothing 0 s piece ≡ out_of (length part) (still next)
    payload-part =
        let z : 0 + length part ≡ length part = omega arith in
        ap (run feed nothing 0 s) (sym all) ∙ run-payload part 0 s m (omega arith) ∙ (λ i. record { used = z i; state = sym next-is i; reply = []; happened = nothing })

    pub part-stored : pl₁ ≡ placed (take (run feed nothing 0 s piece).used piece) s.got pl
    part-stored = stored-as _ (still next) payload-part (all ∙ sym (take_all (length part) piece (omega (arith, ap length all))))

  -- the payload is whole
  module _ (k : left ≤ length part) where
    count : length part ≡ left
    count = ap length p ∙ taken-some left piece (omega (arith, ap length p))

    pub payload-whole : run feed nothing 0 s piece ≡ out_of (length part) (completed s.terms h)
    payload-whole =
        let z : 0 + length part ≡ length part = omega arith in
        ap (run feed nothing 0 s) (sym (take-append-drop left piece) ∙ ap (λ (w : List ℕ). w ++ drop left piece) (sym p))
        ∙ run-whole part (drop left piece) 0 s h m g (omega (arith, count)) d
        ∙ (λ i. out_of (z i) (completed s.terms h))

    pub whole-stored : pl₁ ≡ placed (take (run feed nothing 0 s piece).used piece) s.got pl
    whole-stored = stored-as _ (completed s.terms h) payload-whole (p ∙ ap (λ (j : ℕ). take j piece) (sym count))
