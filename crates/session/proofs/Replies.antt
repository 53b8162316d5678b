-- No reply is longer than 24 bytes; a reply that fits stands at the front of its buffer.
use Rattle.std.specs.Prelude.{if◌then◌else◌}
use mathlib.Core.Path.{◌≡◌, refl, ap, ◌∙◌}
use Prim.Native.Nat.{ℕ, ◌+◌, ◌≤◌}
use native.Mathlib.Omega.{arith}
use mathlib.Core.Bool.{Bool, true, false}
use mathlib.Core.List.{List, [], ◌∷◌, ◌++◌}
use lib.ListN.{length, drop, length-append}
use borrow.Author.Tests.{le-leb}
use Rattle.octets.specs.Words.{◌and◌, ◌<?◌, ◌=?◌}
use Rattle.octets.specs.Bytes.{front, placed}
use Rattle.octets.proofs.Tests.{if_yes, and_left, inside-high}
use Rattle.octets.proofs.Lists.{placed-in}
use Rattle.text.specs.Hex.{hex_digits}
use Rattle.text.proofs.Numerals.{length_digits}
use Rattle.sha1_digest.specs.declared.Sha1.{Sha1}
use Rattle.sha1_digest.specs.Machine.{fed, finished}
use Rattle.sha1_digest.specs.Id.{id_number}
use Rattle.line.specs.declared.Line.{Line}
use Rattle.line.specs.Reading.{Reading, read_of}
use Rattle.phrases.specs.declared.Kind.{Kind}
use Rattle.phrases.specs.Lines.{kind_of, is_data}
use Rattle.replies.specs.Replies.{LF, prompt, 'error', error_token, token_good, sends, errs, acks, bads, wrote}
use Rattle.machine.specs.Machine.{Fed, quiet, stop, after, run}
use Rattle.talk.specs.declared.Terms.{Terms}
use Rattle.talk.specs.declared.Session.{Session}
use Rattle.talk.specs.Answer.{Happening}
use Rattle.talk.specs.Sessions.{keeps_terms, salted, line_so_far}
use Rattle.talk.specs.Talk.{Turn, nothing, offered, completed, heard_as, heard, data_heard}
use Rattle.session.specs.Feed.{feed}

-- a reply that fits
pub at_front : (w l : List ℕ) → length w ≤ length l → (wrote w l ≡ length w) × (placed w 0 l ≡ front w l)
at_front w l h =
    let z : 0 + length w ≡ length w = omega arith in
    (if_yes _ _ _ (le-leb (0 + length w) (length l) (omega arith)), placed-in w 0 l (omega arith) ∙ ap (λ (n : ℕ). w ++ drop n l) z)

-- ---- the lengths

sends-short : (id : ℕ) → length (sends id) ≤ 24
sends-short id = omega (arith, length-append (hex_digits 7 id) LF, length_digits 16 7 id)

acks-short : (id : ℕ) → length (acks id) ≤ 24
acks-short id = omega (arith, length-append (hex_digits 7 id) (LF ++ prompt), length_digits 16 7 id)

bads-short : (id : ℕ) → length (bads id) ≤ 24
bads-short id = omega (arith, length-append (hex_digits 7 id) (LF ++ prompt), length_digits 16 7 id)

token-few : (t : List ℕ) → token_good t ≡ true → length t ≤ 7
unfolding token_good
token-few t e = inside-high 1 7 (length t) (and_left _ _ e)

errs-short : (t : List ℕ) → length (errs t) ≤ 24
errs-short t = go (token_good t) refl
  where
    go : (b : Bool) → token_good t ≡ b → length (if b then 'error' ++ (0x20 ∷ (t ++ LF)) else ('error' ++ LF)) ≤ 24
    go true e = omega (arith, length-append t LF, token-few t e)
    go false e = omega arith

-- a turn whose reply is short, by the test that decides
abbrev Short : Turn → Type 0
Short t = length t.reply ≤ 24

by-test : (b : Bool) (x y : Turn) → Short x → Short y → Short (if b then x else y)
by-test true x y p q = p
by-test false x y p q = q

completed-short : (t : Terms) (h : Sha1) → length (completed t h).reply ≤ 24
unfolding completed
completed-short t h = by-test (id_number (finished h) =? t.id) _ _ (acks-short t.id) (bads-short t.id)

data-short : (t : Terms) (s : List ℕ) → length (data_heard t s).reply ≤ 24
unfolding data_heard
data-short t s = by-test (keeps_terms t and is_data t.id s) _ _ (by-test (t.len =? 0) _ _ (completed-short t (salted t)) (omega arith)) (omega arith)

offered-short : (s : List ℕ) (r : Reading) (m : Line) → length (offered s r m).reply ≤ 24
offered-short s Reading.Read m = sends-short m.fields.id
offered-short s (Reading.Refused n) m = errs-short (error_token s)

heard-short : (k : Kind) (s : List ℕ) → length (heard_as k s).reply ≤ 24
heard-short Kind.Ihave s = offered-short s (read_of s).reading (read_of s).line
heard-short Kind.Data s = omega arith
heard-short Kind.Leave s = omega arith
heard-short Kind.Ask s = omega arith
heard-short Kind.Other s = omega arith

-- a byte's reply, and a call's

abbrev FedShort : Fed Session Happening → Type 0
FedShort (quiet s) = Unit {0}
FedShort (stop s w e) = length w ≤ 24

by-fed : (b : Bool) (x y : Fed Session Happening) → FedShort x → FedShort y → FedShort (if b then x else y)
by-fed true x y p q = p
by-fed false x y p q = q

fed-short : (s : Session) (b : ℕ) → FedShort (feed s b)
unfolding feed heard
fed-short s b =
    by-fed (s.mode =? 2) _ _
    (by-fed (s.got + 1 <? s.terms.len) _ _ tt (completed-short s.terms (fed s.hash b)))
    (by-fed (s.mode =? 3) _ _ tt
    (by-fed (b =? 10) _ _ (by-test (s.mode =? 0) _ _ (heard-short (kind_of (line_so_far s)) (line_so_far s)) (data-short s.terms (line_so_far s)))
    (by-fed (s.line_len <? 512) _ _ tt (omega arith))))

pub run_short : (bs : List ℕ) (k : ℕ) (s : Session) → length (run feed nothing k s bs).reply ≤ 24
run_short [] k s = omega arith
run_short (b ∷ bs) k s = go (feed s b) (fed-short s b) (λ t. run_short bs (k + 1) t)
  where
    go : (f : Fed Session Happening) → FedShort f → ((t : Session) → length (run feed nothing (k + 1) t bs).reply ≤ 24) → length (after f k (λ t. run feed nothing (k + 1) t bs)).reply ≤ 24
    go (quiet t) p ih = ih t
    go (stop t w e) p ih = p
