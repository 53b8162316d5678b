-- The line as the code puts it together is the message written, and the number is the one that refuses it.
use Prim.Native.Nat.{ℕ, zero, suc, ◌+◌, ◌≤◌, ◌<◌}
use mathlib.Core.Path.{◌≡◌, refl, sym, ap, ◌∙◌}
use mathlib.Core.Bool.{Bool, true, false}
use mathlib.Core.List.{List, [], ◌∷◌, ◌++◌, append_assoc, append-nil}
use native.Mathlib.Omega.{arith}
use lib.ListN.{length, get_or, set, take, drop, replicate, length-append, length-replicate}
use lib.Seq.{set_at, take_at}
use borrow.Author.Tests.{lt-leb, leb-true, leb-false}
use Rattle.octets.specs.Words.{◌≤?◌}
use Rattle.octets.specs.Bytes.{fits, placed}
use Rattle.octets.proofs.Tests.{and-not-right}
use Rattle.octets.proofs.Lists.{placed-in, drop-next}
use Rattle.text.specs.Hex.{hex_digits}
use Rattle.crc16.specs.Crc.{crc16}
use Rattle.envelope.specs.Rules.{envelope}
use Rattle.tokens.specs.Tokens.{word_of, spaced}
use Rattle.line_refusals.specs.Order.{refuses_writing, line_good}
use Rattle.line_refusals.proofs.Clear.{cleared}
use Rattle.line.specs.Writing.{body_of, chk_token, print_of, line_written, message_good, write_refusal}
use Rattle.line.specs.declared.Line.{Line}
use Rattle.line_draft.specs.Drafts.{no_draft, full_draft, draft, added, Adds}
use Rattle.line_draft.specs.declared.Draft.{Draft}
use Rattle.line_draft.proofs.Drafts.{added-fits, added_full, add-append, stays-full, in_place, past_end}
use Rattle.line_body.specs.Held.{body_held}
use Rattle.line_body.specs.Steps.{key_part}
use Rattle.line_body.proofs.Whole.{held}
use Rattle.line_writer.specs.Answer.{Writing, Written, Refused, answer_by, left_by, write_answer, write_left}
use Rattle.line_writer.specs.Steps.{chk_text, chk_behind}

-- ---- `chk` behind the body

chk-is : (b : List ℕ) → spaced (word_of (chk_token b) ∷ []) ≡ chk_text b
chk-is b = ap (λ (l : List ℕ). key_part (chk_token b).key ++ l) (append-nil (hex_digits 4 (crc16 b)))

-- a line that was put into an empty draft: its bytes, or too long
pub record Holds (w : List ℕ) (d : Draft) : Type 0 where
  pub len_is : d.len ≡ length w
  pub text-is : take d.len d.bytes ≡ w

module _ (w : List ℕ) (d : Draft) (e : d ≡ added w no_draft) where
  abbrev blank : List ℕ
  blank = replicate 512 0

  long_is : length blank ≡ 512
  long_is = length-replicate {A = ℕ} 512 0

  holds-long : 512 < d.len → 512 < length w
  holds-long h = go (fits w 0 blank) refl
    where
      go : (t : Bool) → fits w 0 blank ≡ t → 512 < length w
      go true f =
          let k = leb-true (0 + length w) (length blank) f in
          let n : d.len ≡ 0 + length w = ap (λ (x : Draft). x.len) (e ∙ added-fits w no_draft f) in
          absurd (omega (arith, long_is))
      go false f = let k = leb-false (0 + length w) (length blank) f in omega (arith, long_is)

  holds-short : d.len ≤ 512 → Holds w d
  holds-short h = go (fits w 0 blank) refl
    where
      go : (t : Bool) → fits w 0 blank ≡ t → Holds w d
      go false f = let n : d.len ≡ 513 = ap (λ (x : Draft). x.len) (e ∙ added_full w no_draft f) in absurd (omega arith)
      go true f =
          let k = leb-true (0 + length w) (length blank) f in
          let g = e ∙ added-fits w no_draft f in
          let n : d.len ≡ length w = ap (λ (x : Draft). x.len) g ∙ omega arith in
          let z : 0 + length w ≡ length w = omega arith in
          let b : d.bytes ≡ w ++ drop (length w) blank = ap (λ (x : Draft). x.bytes) g ∙ placed-in w 0 blank k ∙ ap (λ (i : ℕ). w ++ drop i blank) z in
          record { len_is = n; text-is = ap (λ (i : ℕ). take i d.bytes) n ∙ ap (take (length w)) b ∙ take_at w (drop (length w) blank) (length w) refl }

module _ (m : Line) (b : Draft) (is_b : b ≡ body_held m) (long-b : length b.bytes ≡ 512) (d : Draft) (is-d : Adds (added (chk_behind b)) b.bytes b.len d.len d.bytes) where
  body-put : b ≡ added (body_of m) no_draft
  body-put = is_b ∙ sym (held m)

  abbrev behind : List ℕ
  behind = spaced (word_of (chk_token (body_of m)) ∷ [])

  -- a body that is too long stays too long
  pub printed : draft d.bytes d.len ≡ added (print_of m) no_draft
  unfolding print_of
  printed = is-d.draft-is long-b ∙ go (b.len ≤? 512) refl
    where
      go : (t : Bool) → (b.len ≤? 512) ≡ t → added (chk_behind b) (draft b.bytes b.len) ≡ added (body_of m ++ behind) no_draft
      go true f =
          let k = leb-true b.len 512 f in
          ap (added (chk_behind b)) (in_place b.bytes b.len k ∙ body-put)
          ∙ ap (λ (t : List ℕ). added (chk_text t) (added (body_of m) no_draft)) (holds-short (body_of m) b body-put k).text-is
          ∙ add-append (body_of m) (chk_text (body_of m)) no_draft
          ∙ ap (λ (s : List ℕ). added (body_of m ++ s) no_draft) (sym (chk-is (body_of m)))
      go false f =
          let k = leb-false b.len 512 f in
          let h = holds-long (body_of m) b body-put k in
          ap (added (chk_behind b)) (past_end b.bytes b.len k)
          ∙ stays-full (chk_behind b)
          ∙ sym (added_full (body_of m ++ behind) no_draft (lt-leb (0 + length (body_of m ++ behind)) (length {A = ℕ} (replicate 512 0)) (omega (arith, length-append (body_of m) behind, length-replicate {A = ℕ} 512 0))))

  line-short : d.len ≤ 512 → Holds (print_of m) d
  line-short h = holds-short (print_of m) d (sym (in_place d.bytes d.len h) ∙ printed) h

  line_long : 512 < d.len → 512 < length (print_of m)
  line_long h = holds-long (print_of m) full_draft (sym (past_end d.bytes d.len h) ∙ printed) (omega arith)

-- ---- the answer

module _ (m : Line) (l : List ℕ) (v : Bool) (is-v : v ≡ envelope m.fields) (b : Draft) (is_b : b ≡ body_held m) (long-b : length b.bytes ≡ 512) (d : Draft) (is-d : Adds (added (chk_behind b)) b.bytes b.len d.len d.bytes)
    (k : ℕ) (is-k : k ≡ refuses_writing (line_good v m.len d.len) m.len (d.len + 1) (length l)) where
  abbrev n : ℕ
  n = d.len

  abbrev Left : Writing → List ℕ → Type 0
  Left r out = (r ≡ write_answer m l) × (out ≡ write_left m l)

  holds : n ≤ 512 → Holds (print_of m) d
  holds = line-short m b is_b long-b d is-d

  too_long : 512 < n → 512 < length (print_of m)
  too_long = line_long m b is_b long-b d is-d

  abbrev valid : Bool
  valid = envelope m.fields

  number_is : write_refusal m (length l) ≡ k
  unfolding write_refusal message_good
  number_is = sym (is-k ∙ ap (λ (t : Bool). refuses_writing (line_good t m.len n) m.len (n + 1) (length l)) is-v ∙ go (n ≤? 512) refl)
    where
      go : (t : Bool) → (n ≤? 512) ≡ t
          → refuses_writing (line_good valid m.len n) m.len (n + 1) (length l) ≡ refuses_writing (line_good valid m.len (length (print_of m))) m.len (length (line_written m)) (length l)
      go true e =
          let h = holds (leb-true n 512 e) in
          let i = h.len_is in
          let j : n + 1 ≡ length (line_written m) = omega (arith, length-append (print_of m) (0x0A ∷ [])) in
          ap (λ (s : ℕ). refuses_writing (line_good valid m.len n) m.len s (length l)) j
          ∙ ap (λ (s : ℕ). refuses_writing (line_good valid m.len s) m.len (length (line_written m)) (length l)) i
      go false e =
          let p = and-not-right valid _ (and-not-right (m.len ≤? 2147483647) _ e) in
          let q = and-not-right valid _ (and-not-right (m.len ≤? 2147483647) _ (lt-leb (length (print_of m)) 512 (too_long (leb-false n 512 e)))) in
          ap (λ (t : Bool). refuses_writing t m.len (n + 1) (length l)) p
          ∙ sym (ap (λ (t : Bool). refuses_writing t m.len (length (line_written m)) (length l)) q)

  pub refused : (k ≡ 0 → ⊥) → Left (Refused k) l
  unfolding write_answer write_left
  refused d = go k refl
    where
      go : (i : ℕ) → k ≡ i → Left (Refused k) l
      go zero e = absurd (d e)
      go (suc i) e =
          let f = number_is ∙ e in
          (ap Refused e ∙ sym (ap (λ (j : ℕ). answer_by j (length (line_written m))) f), sym (ap (λ (j : ℕ). left_by j (line_written m) l) f))

  module _ (z : k ≡ 0) where
    clear : (n ≤ 512) × (n < length l)
    clear = cleared v m.len n (length l) (sym is-k ∙ z)

    pub short : n ≤ 512
    short = clear.0

    pub room : n < length l
    room = clear.1

    pub all-written : (w out : List ℕ) → w ≡ take n d.bytes → out ≡ placed w 0 l → Left (Written (n + 1)) (set out n 0x0A)
    unfolding write_answer write_left
    all-written w out ew eo =
        let t = print_of m in
        let h = holds clear.0 in
        let ek = h.len_is in
        let r = clear.1 in
        let none = number_is ∙ z in
        let a = length-append t (0x0A ∷ []) in
        let s : n + 1 ≡ length (line_written m) = omega arith in
        let y : length t + 1 ≡ length (line_written m) = omega arith in
        let u : 0 + length t ≡ length t = omega arith in
        let q : length t < length l = omega arith in
        let e : out ≡ t ++ drop (length t) l = eo ∙ ap (λ (f : List ℕ). placed f 0 l) (ew ∙ h.text-is) ∙ placed-in t 0 l (omega arith) ∙ ap (λ (i : ℕ). t ++ drop i l) u in (
          ap Written s ∙ sym (ap (λ (i : ℕ). answer_by i (length (line_written m))) none),
          ap (λ (f : List ℕ). set f n 0x0A) (e ∙ ap (λ (f : List ℕ). t ++ f) (drop-next l (length t) 0 q))
              ∙ set_at t (get_or l (length t) 0) (drop (length t + 1) l) 0x0A n (sym ek)
              ∙ sym (append_assoc t (0x0A ∷ []) (drop (length t + 1) l))
              ∙ ap (λ (i : ℕ). (t ++ (0x0A ∷ [])) ++ drop i l) y
              ∙ sym (ap (λ (i : ℕ). left_by i (line_written m) l) none),
        )
