-- Parts that are placed one behind the other in a buffer.
use Rattle.std.specs.Prelude.{if◌then◌else◌}
use mathlib.Core.Path.{◌≡◌, refl, sym, ap, ◌∙◌, subst}
use Prim.Native.Nat.{ℕ, ◌+◌, ◌-◌, ◌≤◌, ◌<◌}
use native.Mathlib.Omega.{arith}
use mathlib.Core.Bool.{Bool, true, false}
use mathlib.Core.List.{List, [], ◌∷◌, ◌++◌, append_assoc}
use lib.ListN.{length, drop, length-append, length-drop}
use lib.Seq.{length-take-le}
use borrow.Author.Tests.{le-leb, lt-leb}
use Rattle.octets.specs.Bytes.{fits, placed}
use Rattle.octets.proofs.Tests.{if_yes, if_no}
use Rattle.octets.proofs.Lists.{placed-none, placed-append, placed-out}
use Rattle.text.specs.Hex.{hex_digits}
use Rattle.text.proofs.Numerals.{length_digits}
use Rattle.replies.specs.declared.Reply.{Reply}
use Rattle.replies.specs.Replies.{LF, 'error', error_token, token_good, errs, reply_text, wrote}
use Rattle.replies.specs.Texts.{texts, part}

-- three parts, all of which fit
pub three : (a b c : List ℕ) (l l₁ l₂ l₃ : List ℕ) → length a + length b + length c ≤ length l
    → l₁ ≡ placed a 0 l → l₂ ≡ placed b (length a) l₁ → l₃ ≡ placed c (length a + length b) l₂ → l₃ ≡ placed (a ++ (b ++ c)) 0 l
three a b c l l₁ l₂ l₃ h p q r =
    let za : 0 + length a ≡ length a = omega arith in
    let zb : 0 + length (a ++ b) ≡ length a + length b = rw length-append (omega arith) in
    let two : l₂ ≡ placed (a ++ b) 0 l = q ∙ ap (placed b (length a)) p ∙ ap (λ (n : ℕ). placed b n (placed a 0 l)) (sym za) ∙ placed-append a b 0 l (omega arith) in
    r ∙ ap (placed c (length a + length b)) two ∙ ap (λ (n : ℕ). placed c n (placed (a ++ b) 0 l)) (sym zb) ∙ placed-append (a ++ b) c 0 l (rw length-append (omega arith))
    ∙ ap (λ (w : List ℕ). placed w 0 l) (append_assoc a b c)

-- a text that does not fit, and one that does
pub wrote_none : (w l : List ℕ) → length l < length w → (0 ≡ wrote w l) × (l ≡ placed w 0 l)
wrote_none w l h = (sym (if_no _ _ _ (lt-leb (0 + length w) (length l) (omega arith))), sym (placed-out w 0 l (omega arith)))

pub wrote-all : (w l : List ℕ) (n : ℕ) → n ≡ length w → length w ≤ length l → n ≡ wrote w l
wrote-all w l n e h = e ∙ sym (if_yes _ _ _ (le-leb (0 + length w) (length l) (omega arith)))

pub put-none : (w l : List ℕ) → fits w 0 l ≡ false → 0 ≡ wrote w l
put-none w l e = sym (if_no _ _ _ e)

-- a part of the texts
part_length : (from to : ℕ) → from ≤ to → to ≤ 66 → length (part from to) ≡ to - from
part_length from to h k = length-take-le (to - from) (drop from texts) (omega (arith, length-drop from texts))

pub part-put : (from to : ℕ) (l : List ℕ) → from ≤ to → to ≤ 66 → fits (part from to) 0 l ≡ true → to - from ≡ wrote (part from to) l
part-put from to l h k e = sym (part_length from to h k) ∙ sym (if_yes _ _ _ e)

-- a part, an id and a part
module _ (from to id tail end : ℕ) (b : (from ≤ to) × (to ≤ 66) × (tail ≤ end) × (end ≤ 66)) where
  abbrev said : List ℕ
  said = part from to ++ (hex_digits 7 id ++ part tail end)

  said-length : length said ≡ to - from + 7 + (end - tail)
  said-length =
      let x = length-append (part from to) (hex_digits 7 id ++ part tail end) in
      let y = length-append (hex_digits 7 id) (part tail end) in
      let h = part_length from to b.0 b.1 in
      let t = part_length tail end b.2 b.3 in
      let z = length_digits 16 7 id in
      omega (arith, x, y, h, t, z)

  pub id-none : (l : List ℕ) → length l < to - from + 7 + (end - tail) → (0 ≡ wrote said l) × (l ≡ placed said 0 l)
  id-none l k = wrote_none said l (omega (arith, said-length))

  pub id-all : (l l₁ l₂ l₃ : List ℕ) → to - from + 7 + (end - tail) ≤ length l
      → l₁ ≡ placed (part from to) 0 l → l₂ ≡ placed (hex_digits 7 id) (to - from) l₁ → l₃ ≡ placed (part tail end) (to - from + 7) l₂
      → (to - from + 7 + (end - tail) ≡ wrote said l) × (l₃ ≡ placed said 0 l)
  id-all l l₁ l₂ l₃ k p q r =
      let h = part_length from to b.0 b.1 in
      let t = part_length tail end b.2 b.3 in
      let z : to - from + 7 ≡ length (part from to) + length (hex_digits 7 id) = omega (arith, h, length_digits 16 7 id) in
      (wrote-all said l (to - from + 7 + (end - tail)) (sym said-length) (omega (arith, said-length)), three (part from to) (hex_digits 7 id) (part tail end) l l₁ l₂ l₃ (omega (arith, z, t, k)) p (q ∙ ap (λ (i : ℕ). placed (hex_digits 7 id) i l₁) (sym h)) (r ∙ ap (λ (i : ℕ). placed (part tail end) i l₂) z))

-- `error ` and a token
pub error-none : (t l : List ℕ) → token_good t ≡ true → length l < length t + 7 → (0 ≡ wrote (errs t) l) × (l ≡ placed (errs t) 0 l)
error-none t l g k = rw (if_yes {A = List ℕ} (token_good t) ('error' ++ (0x20 ∷ (t ++ LF))) ('error' ++ LF) g) (wrote_none ('error' ++ (0x20 ∷ (t ++ LF))) l (let z = length-append t LF in omega arith))

pub error-all : (t : List ℕ) (n : ℕ) (l l₁ l₂ l₃ : List ℕ) → token_good t ≡ true → n ≡ length t + 7 → length t + 7 ≤ length l
    → l₁ ≡ placed ('error' ++ (0x20 ∷ [])) 0 l → l₂ ≡ placed t 6 l₁ → l₃ ≡ placed LF (length t + 6) l₂ → (n ≡ wrote (errs t) l) × (l₃ ≡ placed (errs t) 0 l)
error-all t n l l₁ l₂ l₃ g e k p q r =
    let z = length-append t LF in
    let m : length t + 6 ≡ 6 + length t = omega arith in
    rw (if_yes {A = List ℕ} (token_good t) ('error' ++ (0x20 ∷ (t ++ LF))) ('error' ++ LF) g)
    (wrote-all ('error' ++ (0x20 ∷ (t ++ LF))) l n (omega arith) (omega arith), three ('error' ++ (0x20 ∷ [])) t LF l l₁ l₂ l₃ (omega arith) p q (r ∙ ap (λ (i : ℕ). placed LF i l₂) m))

pub error-plain : (t : List ℕ) (n : ℕ) (l l₁ : List ℕ) → token_good t ≡ false → (n ≡ wrote ('error' ++ LF) l) × (l₁ ≡ placed ('error' ++ LF) 0 l) → (n ≡ wrote (errs t) l) × (l₁ ≡ placed (errs t) 0 l)
error-plain t n l l₁ g k = rw (if_no {A = List ℕ} (token_good t) ('error' ++ (0x20 ∷ (t ++ LF))) ('error' ++ LF) g) k

-- a reply, where it is known which
pub says : (r x : Reply) (s : List ℕ) (n : ℕ) (l l' : List ℕ) → r ≡ x → (n ≡ wrote (reply_text x s) l) × (l' ≡ placed (reply_text x s) 0 l)
    → (n ≡ wrote (reply_text r s) l) × (l' ≡ placed (reply_text r s) 0 l)
says r x s n l l' e k = subst (λ (y : Reply). (n ≡ wrote (reply_text y s) l) × (l' ≡ placed (reply_text y s) 0 l)) (sym e) k

pub silent : (l : List ℕ) → (0 ≡ wrote [] l) × (l ≡ placed [] 0 l)
silent l = (go (fits {A = ℕ} [] 0 l), sym (placed-none 0 l (omega arith)))
  where
    go : (b : Bool) → ◌≡◌ {A = ℕ} 0 (if b then 0 else 0)
    go true = refl
    go false = refl

pub token-said : (s t : List ℕ) (n : ℕ) (l l' : List ℕ) → t ≡ error_token s → (n ≡ wrote (errs t) l) × (l' ≡ placed (errs t) 0 l)
    → (n ≡ wrote (errs (error_token s)) l) × (l' ≡ placed (errs (error_token s)) 0 l)
token-said s t n l l' e k = subst (λ (x : List ℕ). (n ≡ wrote (errs x) l) × (l' ≡ placed (errs x) 0 l)) e k
