-- Parts that are written one behind the other stand together as one.
use Prim.Native.Nat.{ℕ, ◌+◌, ◌*◌, ◌<◌, ◌≤◌}
use native.Mathlib.Omega.{arith}
use mathlib.Core.Path.{◌≡◌, sym, ap, ◌∙◌}
use mathlib.Core.List.{List, ◌++◌, append_assoc}
use lib.ListN.{length, take, drop, get_or, length-append, length-drop, drop_of_length-le}
use lib.Seq.{length-take-le, take_at, drop-append-add, drop-drop}
use Rattle.octets.specs.Bytes.{placed}
use Rattle.octets.specs.Numbers.{little_bytes}
use Rattle.octets.specs.Field.{many_print}
use Rattle.octets.proofs.Lists.{drop-next, length-placed, placed-in, placed-none}
use Rattle.octets.proofs.NumberLaws.{length-bytes}
use Rattle.places.specs.declared.Held.{Held}
use Rattle.rows.specs.declared.Row.{Row}
use Rattle.rows.specs.Row.{blank, held_in}
use Rattle.keys.specs.declared.Key.{Key}
use Rattle.keys.specs.Key.{originator_of, stream_id_of}
use Rattle.records.specs.Record.{text, key, message, messages, row, body}
use Rattle.records.proofs.Laws.{text-size, message-size, many-size, key-size, row-size}

-- v behind w
pub placed-then : {A : Type 0} (w v : List A) (at : ℕ) (l : List A) → at + (length w + length v) ≤ length l → placed v (at + length w) (placed w at l) ≡ placed (w ++ v) at l
placed-then {A} w v at l h =
    let a : List A = take at l ++ w in
    let b : List A = drop (at + length w) l in
    let n : length a ≡ at + length w = length-append (take at l) w ∙ ap (λ (k : ℕ). k + length w) (length-take-le at l (omega arith)) in
    let p : placed w at l ≡ a ++ b = placed-in w at l (omega arith) ∙ sym (append_assoc (take at l) w b) in
    let m : length (a ++ b) ≡ length l = sym (ap length p) ∙ length-placed w at l in
    let t : take (at + length w) (a ++ b) ≡ a = take_at a b (at + length w) n in
    let d : drop (at + length w + length v) (a ++ b) ≡ drop (at + length w + length v) l =
    ap (λ (k : ℕ). drop (k + length v) (a ++ b)) (sym n) ∙ drop-append-add a b (length v) ∙ drop-drop (length v) (at + length w) l in
    let s : at + length w + length v ≡ at + length (w ++ v) = rw (length-append w v) (omega arith) in
    let j : at + length (w ++ v) ≤ length l = rw (length-append w v) h in
    ap (placed v (at + length w)) p
    ∙ placed-in v (at + length w) (a ++ b) (omega arith)
    ∙ ap (λ (r : List A). r ++ (v ++ drop (at + length w + length v) (a ++ b))) t
    ∙ ap (λ (r : List A). a ++ (v ++ r)) (d ∙ ap (λ (k : ℕ). drop k l) s)
    ∙ append_assoc (take at l) w (v ++ drop (at + length (w ++ v)) l)
    ∙ ap (λ (r : List A). take at l ++ r) (sym (append_assoc w v (drop (at + length (w ++ v)) l)))
    ∙ sym (placed-in (w ++ v) at l j)

-- the same as the code has it: w at its place, then v at the place behind it
pub behind : (w v : List ℕ) (at next : ℕ) (l x y : List ℕ) → x ≡ placed w at l → y ≡ placed v next x → next ≡ at + length w → at + (length w + length v) ≤ length l → y ≡ placed (w ++ v) at l
behind w v at next l x y p q e h = rw (q, p, e) (placed-then w v at l h)

pub as_long : (w : List ℕ) (at : ℕ) (l x : List ℕ) → x ≡ placed w at l → length x ≡ length l
as_long w at l x e = ap length e ∙ length-placed w at l

-- ---- a text, and the key

pub text-placed : (s : List ℕ) (v at : ℕ) (l x y : List ℕ) → v ≡ length s → x ≡ placed (little_bytes 1 v) at l → y ≡ placed s (at + 1) x → at + (1 + length s) ≤ length l → y ≡ placed (text.print s) at l
unfolding text
text-placed s v at l x y e p q h =
    let n = length-bytes 1 (length s) in
    behind (little_bytes 1 (length s)) s at (at + 1) l x y (p ∙ ap (λ (k : ℕ). placed (little_bytes 1 k) at l) e) q (omega arith) (omega arith)

pub key-placed : (k : Key) (a b : List ℕ) (n at : ℕ) (l x y : List ℕ) → a ≡ originator_of k → b ≡ stream_id_of k → n ≡ length a → x ≡ placed (text.print a) at l
    → y ≡ placed (text.print b) (at + 1 + n) x → at + length (key.print k) ≤ length l → y ≡ placed (key.print k) at l
unfolding key
key-placed k a b n at l x y ea eb en p q h =
    let o = originator_of k in
    let i = stream_id_of k in
    let z : n ≡ length o = en ∙ ap length ea in
    let s = text-size o in
    let t = length-append (text.print o) (text.print i) in
    behind (text.print o) (text.print i) at (at + 1 + n) l x y (p ∙ ap (λ (r : List ℕ). placed (text.print r) at l) ea) (q ∙ ap (λ (r : List ℕ). placed (text.print r) (at + 1 + n) x) eb)
    (omega arith) (omega arith)

-- the room that the two names want
pub key_fits : (k : Key) (a b : List ℕ) (at : ℕ) (l x : List ℕ) → a ≡ originator_of k → b ≡ stream_id_of k → at + length (key.print k) ≤ length l → length x ≡ length l
    → (at + (1 + length a) ≤ length l) × (at + 1 + length a + (1 + length b) ≤ length x)
key_fits k a b at l x ea eb h n =
    let s : length (key.print k) ≡ 2 + length a + length b = key-size k ∙ rw (ea, eb) in
    (omega arith, omega arith)

-- ---- numbers and messages

pub message-placed : (m : Held) (a b c at : ℕ) (l x y z : List ℕ) → a ≡ m.number → b ≡ m.timeout → c ≡ m.slip → x ≡ placed (little_bytes 4 a) at l → y ≡ placed (little_bytes 4 b) (at + 4) x
    → z ≡ placed (little_bytes 4 c) (at + 8) y → at + 12 ≤ length l → z ≡ placed (message.print m) at l
unfolding message
message-placed m a b c at l x y z ea eb ec p q r h =
    let n1 = length-bytes 4 m.number in
    let n2 = length-bytes 4 m.timeout in
    let n3 = length-bytes 4 m.slip in
    let n4 = length-append (little_bytes 4 m.timeout) (little_bytes 4 m.slip) in
    let lx = as_long (little_bytes 4 a) at l x p in
    let r2 =
    behind (little_bytes 4 m.timeout) (little_bytes 4 m.slip) (at + 4) (at + 8) x y z
    (q ∙ ap (λ (k : ℕ). placed (little_bytes 4 k) (at + 4) x) eb) (r ∙ ap (λ (k : ℕ). placed (little_bytes 4 k) (at + 8) y) ec) (omega arith) (omega arith) in
    behind (little_bytes 4 m.number) (little_bytes 4 m.timeout ++ little_bytes 4 m.slip) at (at + 4) l x z (p ∙ ap (λ (k : ℕ). placed (little_bytes 4 k) at l) ea) r2 (omega arith) (omega arith)

-- a loop that writes messages: those that are left stand behind those that were written
module _ (held : List Held) (at : ℕ) where
  pub left-room : (l : List ℕ) → at + length (many_print message held) ≤ length l → at + 12 * length held ≤ length l
  left-room l h = omega (arith, many-size held)

  pub left-turn : (i : ℕ) (m : Held) (out x l : List ℕ) → i < length held → m ≡ get_or held i blank → at + 12 * length held ≤ length out → x ≡ placed (message.print m) (at + 12 * i) out
      → placed (many_print message (drop i held)) (at + 12 * i) out ≡ l → placed (many_print message (drop (i + 1) held)) (at + 12 * (i + 1)) x ≡ l
  left-turn i m out x l h em room p g =
      let w = message.print m in
      let v = many_print message (drop (i + 1) held) in
      let s = message-size m in
      let t = many-size (drop (i + 1) held) in
      let u = length-drop (i + 1) held in
      let z : at + 12 * (i + 1) ≡ at + 12 * i + length w = omega arith in
      let e : many_print message (drop i held) ≡ w ++ v = ap (many_print message) (drop-next held i blank h) ∙ ap (λ (n : Held). message.print n ++ v) (sym em) in
      ap (λ (j : ℕ). placed v j x) z
      ∙ ap (placed v (at + 12 * i + length w)) p
      ∙ placed-then w v (at + 12 * i) out (omega arith)
      ∙ ap (λ (r : List ℕ). placed r (at + 12 * i) out) (sym e)
      ∙ g

  pub left_end : (i : ℕ) (out l : List ℕ) → length held ≤ i → at + 12 * i ≤ length out → placed (many_print message (drop i held)) (at + 12 * i) out ≡ l → out ≡ l
  left_end i out l h room g =
      sym (placed-none (at + 12 * i) out room) ∙ ap (λ (r : List Held). placed (many_print message r) (at + 12 * i) out) (sym (drop_of_length-le held {i = i} h)) ∙ g

-- ---- the row

pub row-placed : (r : Row) (c g n at : ℕ) (h : List Held) (l v w x y z : List ℕ) → c ≡ r.clock → g ≡ r.gap_start → n ≡ length (held_in r) → h ≡ held_in r → v ≡ placed (little_bytes 8 r.expected) at l
    → w ≡ placed (little_bytes 4 c) (at + 8) v → x ≡ placed (little_bytes 4 g) (at + 12) w → y ≡ placed (little_bytes 1 n) (at + 16) x → z ≡ placed (many_print message h) (at + 17) y
    → at + length (row.print r) ≤ length l → z ≡ placed (row.print r) at l
unfolding row messages
row-placed r c g n at h l v w x y z ec eg en eh p1 p2 p3 p4 p5 room =
    let b1 = little_bytes 8 r.expected in
    let b2 = little_bytes 4 r.clock in
    let b3 = little_bytes 4 r.gap_start in
    let b4 = little_bytes 1 (length (held_in r)) in
    let b5 = many_print message (held_in r) in
    let n1 = length-bytes 8 r.expected in
    let n2 = length-bytes 4 r.clock in
    let n3 = length-bytes 4 r.gap_start in
    let n4 = length-bytes 1 (length (held_in r)) in
    let a1 = length-append b1 (b2 ++ (b3 ++ (b4 ++ b5))) in
    let a2 = length-append b2 (b3 ++ (b4 ++ b5)) in
    let a3 = length-append b3 (b4 ++ b5) in
    let a4 = length-append b4 b5 in
    let lv = as_long b1 at l v p1 in
    let lw = as_long (little_bytes 4 c) (at + 8) v w p2 in
    let lx = as_long (little_bytes 4 g) (at + 12) w x p3 in
    let q4 = behind b4 b5 (at + 16) (at + 17) x y z (p4 ∙ ap (λ (k : ℕ). placed (little_bytes 1 k) (at + 16) x) en) (p5 ∙ ap (λ (s : List Held). placed (many_print message s) (at + 17) y) eh) (omega arith) (omega arith) in
    let q3 = behind b3 (b4 ++ b5) (at + 12) (at + 16) w x z (p3 ∙ ap (λ (k : ℕ). placed (little_bytes 4 k) (at + 12) w) eg) q4 (omega arith) (omega arith) in
    let q2 = behind b2 (b3 ++ (b4 ++ b5)) (at + 8) (at + 12) v w z (p2 ∙ ap (λ (k : ℕ). placed (little_bytes 4 k) (at + 8) v) ec) q3 (omega arith) (omega arith) in
    behind b1 (b2 ++ (b3 ++ (b4 ++ b5))) at (at + 8) l v z p1 q2 (omega arith) (omega arith)

-- the room that the messages want behind the numbers
pub row_fits : (r : Row) (h : List Held) (at : ℕ) (l : List ℕ) → h ≡ held_in r → at + length (row.print r) ≤ length l → at + 17 + length (many_print message h) ≤ length l
row_fits r h at l e k = omega (arith, row-size r, many-size h, ap length e)

-- ---- the record

pub body-parts : (k : Key) (r : Row) → length (body.print (k, r)) ≡ length (key.print k) + length (row.print r)
unfolding body
body-parts k r = length-append (key.print k) (row.print r)

pub body-placed : (k : Key) (r : Row) (n at : ℕ) (l x y : List ℕ) → n ≡ length (key.print k) → x ≡ placed (key.print k) at l → y ≡ placed (row.print r) (at + n) x
    → at + length (body.print (k, r)) ≤ length l → y ≡ placed (body.print (k, r)) at l
unfolding body
body-placed k r n at l x y e p q h =
    let s = length-append (key.print k) (row.print r) in
    behind (key.print k) (row.print r) at (at + n) l x y p q (omega arith) (omega arith)
