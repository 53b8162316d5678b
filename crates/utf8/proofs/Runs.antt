-- UTF-8 byte by byte: the rest decides, and a first byte leads one row only.
use Rattle.std.specs.Prelude.{Option, Some, None}
use Prim.Native.Nat.{ℕ, zero, suc, ◌+◌, ◌-◌, ◌≤◌, ◌<◌}
use mathlib.Core.Path.{◌≡◌, refl, sym, ap, ◌∙◌}
use mathlib.Core.Bool.{Bool, true, false}
use mathlib.Core.List.{List, [], ◌∷◌, ◌++◌}
use native.Mathlib.Omega.{arith}
use borrow.Author.Tests.{ltb-true}
use lib.ListN.{length, get_or, take, drop, replicate, drop_of_length-le}
use lib.Seq.{drop-length}
use Rattle.octets.specs.Words.{◌and◌, ◌or◌, every, some, ◌<?◌}
use Rattle.octets.proofs.Tests.{true-not-false, and_left, and_right, and_both, or_left, and-next, and-not-left, inside, below, above, inside-low, inside-high}
use Rattle.octets.proofs.Lists.{drop-next}
use Rattle.utf8.specs.Utf8.{Range, ◌to◌, Row, row, holds, tail, rows, run, utf8}
use Rattle.utf8.specs.Ascii.{ascii}
use Rattle.utf8.specs.Steps.{Passed}

module _ (s : List ℕ) (i : ℕ) (h : i < length s) where
  -- a byte in the next range that a character lacks, or outside it
  pub byte-in : (r : Range) (rs : List Range) → holds r (get_or s i 0) ≡ true → run (r ∷ rs) (drop i s) ≡ run rs (drop (i + 1) s)
  unfolding run
  byte-in r rs e = rw (drop-next s i 0 h) (and-next _ _ e)

  pub byte-out : (r : Range) (rs : List Range) → holds r (get_or s i 0) ≡ false → run (r ∷ rs) (drop i s) ≡ false
  unfolding run
  byte-out r rs e = rw (drop-next s i 0 h) (and-not-left _ _ e)

-- a text that ends within a character
pub cut_short : (s : List ℕ) (i : ℕ) (r : Range) (rs : List Range) → i ≡ length s → run (r ∷ rs) (drop i s) ≡ false
unfolding run
cut_short s i r rs e = rw (e, drop-length s)

pub run_end : (s : List ℕ) (i : ℕ) → length s ≤ i → run [] (drop i s) ≡ true
unfolding run
run_end s i h = rw (drop_of_length-le s {i = i} h)

-- two ranges have no byte in common
abbrev apart : Range → Row → Bool
apart r q = r.high <? q.lead.low or q.lead.high <? r.low

or-false : (a : Bool) → a or false ≡ a
or-false true = refl
or-false false = refl

other : (r : Range) (q : Row) (b : ℕ) → apart r q ≡ true → holds r b ≡ true → holds q.lead b ≡ false
other r q b e h = go (r.high <? q.lead.low) refl e
  where
    go : (t : Bool) → (r.high <? q.lead.low) ≡ t → t or (q.lead.high <? r.low) ≡ true → holds q.lead b ≡ false
    go true f g = below _ _ b (omega (arith, ltb-true r.high q.lead.low f, inside-high r.low r.high b h))
    go false f g = above q.lead.low _ b (omega (arith, ltb-true q.lead.high r.low g, inside-low r.low r.high b h))

module _ (b : ℕ) (s : List ℕ) where
  -- the byte b leads this row, and the text behind it goes on so
  abbrev led : Row → Bool
  led q = holds q.lead b and run q.behind s

  none-led : (r : Range) (qs : List Row) → every (apart r) qs ≡ true → holds r b ≡ true → some led qs ≡ false
  none-led r [] e h = refl
  none-led r (q ∷ qs) e h = rw (and-not-left _ (run q.behind s) (other r q b (and_left (apart r q) _ e) h)) (none-led r qs (and_right (apart r q) _ e) h)

  one-led : (qs : List Row) (q : Row) (ps : List Row) → every (apart q.lead) qs ≡ true → every (apart q.lead) ps ≡ true → holds q.lead b ≡ true
      → some led (qs ++ (q ∷ ps)) ≡ run q.behind s
  one-led [] q ps e f h = rw (none-led q.lead ps f h) (or-false _ ∙ and-next _ _ h)
  one-led (p ∷ qs) q ps e f h = rw (and-not-left _ (run p.behind s) (other q.lead p b (and_left (apart q.lead p) _ e) h)) (one-led qs q ps (and_right (apart q.lead p) _ e) f h)

-- ---- texts behind one another

or_right : (a b : Bool) → b ≡ true → a or b ≡ true
or_right true b e = refl
or_right false b e = e

some_more : (p q : Row → Bool) → ((r : Row) → p r ≡ true → q r ≡ true) → (rs : List Row) → some p rs ≡ true → some q rs ≡ true
some_more p q f [] e = e
some_more p q f (r ∷ rs) e = go (λ h. some_more p q f rs h) (p r) refl e
  where
    go : (some p rs ≡ true → some q rs ≡ true) → (t : Bool) → p r ≡ t → t or some p rs ≡ true → q r or some q rs ≡ true
    go k true g h = or_left _ _ (f r g)
    go k false g h = or_right (q r) _ (k h)

-- a text that ends with its last character, and another behind it
pub run_join : (rs : List Range) (s t : List ℕ) → run rs s ≡ true → run [] t ≡ true → run rs (s ++ t) ≡ true
unfolding run
run_join [] [] t e f = f
run_join (r ∷ rs) [] t e f = true-not-false false e refl
run_join (r ∷ rs) (b ∷ s) t e f = and_both _ _ (and_left (holds r b) _ e) (run_join rs s t (and_right (holds r b) _ e) f)
run_join [] (b ∷ s) t e f =
    some_more (led b s) (led b (s ++ t)) (λ q g. and_both _ _ (and_left (holds q.lead b) _ g) (run_join q.behind s t (and_right (holds q.lead b) _ g) f)) rows e

-- a text of bytes up to 0x7F alone is well-formed
pub ascii-well-formed : (s : List ℕ) → every ascii s ≡ true → utf8 s ≡ true
unfolding run
ascii-well-formed [] e = refl
ascii-well-formed (b ∷ s) e = or_left _ _ (and_both _ _ (and_left (ascii b) _ e) (ascii-well-formed s (and_right (ascii b) _ e)))

-- ---- what the code's functions tell one another

-- the table's row number k; past its end a row that no byte leads
abbrev nth : ℕ → Row
nth k = get_or rows k (row (1 to 0) [])

-- no other row is led by a byte that leads row number k
abbrev alone : ℕ → Bool
alone k = every (apart (nth k).lead) (take k rows) and every (apart (nth k).lead) (drop (suc k) rows)

-- a first byte that leads row number k: what is behind it decides
pub row-decides : (k : ℕ) → take k rows ++ (nth k ∷ drop (suc k) rows) ≡ rows → alone k ≡ true
    → (s : List ℕ) (i : ℕ) → i < length s → (nth k).lead.low ≤ get_or s i 0 → get_or s i 0 ≤ (nth k).lead.high → run [] (drop i s) ≡ run (nth k).behind (drop (i + 1) s)
unfolding run
row-decides k w e s i h l u =
    let r = (nth k).lead in
    let b = get_or s i 0 in
    let d = one-led b (drop (i + 1) s) (take k rows) (nth k) (drop (suc k) rows) (and_left _ _ e) (and_right (every (apart r) (take k rows)) _ e) (inside r.low r.high b l u) in
    rw (drop-next s i 0 h) (ap (some (led b (drop (i + 1) s))) (sym w) ∙ d)

pub passes : (s : List ℕ) (i : ℕ) (next : Option ℕ) (rs : List Range) → run [] (drop i s) ≡ run rs (drop (i + 1) s) → Passed s rs (i + 1) (i + 1) next → Passed s [] i (i + 1) next
passes s i None rs e p = e ∙ p
passes s i (Some next) rs e p = (p.0, p.1, e ∙ p.2)

-- a first byte of a character of two bytes, by its values alone
pub two_bytes : (s : List ℕ) (i : ℕ) (next : Option ℕ) → i < length s → 0xC2 ≤ get_or s i 0 → get_or s i 0 ≤ 0xDF → Passed s (0x80 to 0xBF ∷ replicate 0 tail) (i + 1) (i + 1) next → Passed s [] i (i + 1) next
two_bytes s i next h l u p = passes s i next _ (row-decides 1 refl refl s i h l u) p

-- a byte more in front
pub one_before : (s : List ℕ) (i : ℕ) (next : Option ℕ) (r : Range) (rs : List Range) → run (r ∷ rs) (drop i s) ≡ run rs (drop (i + 1) s) → Passed s rs (i + 1) (i + 1) next → Passed s (r ∷ rs) i i next
one_before s i None r rs e p = e ∙ p
one_before s i (Some next) r rs e p = (omega arith, p.1, e ∙ p.2)

-- a first byte from low to high, where no row is led
pub by-none : (s : List ℕ) (i low high : ℕ) → every (apart (low to high)) rows ≡ true → i < length s → low ≤ get_or s i 0 → get_or s i 0 ≤ high → Passed s [] i (i + 1) None
unfolding run
by-none s i low high e h l u =
    let d = none-led (get_or s i 0) (drop (i + 1) s) (low to high) rows e (inside low high (get_or s i 0) l u) in
    rw (drop-next s i 0 h) d

one_more : (n : ℕ) → 0 < n → replicate n tail ≡ tail ∷ replicate (n - 1) tail
one_more zero h = absurd (omega arith)
one_more (suc n) h = let e : suc n - 1 ≡ n = omega arith in rw e

-- the tail bytes that are left, and the byte at the place i
module _ (s : List ℕ) (i left : ℕ) (some_left : 0 < left) where
  pub tail-in : i < length s → 0x80 ≤ get_or s i 0 → get_or s i 0 ≤ 0xBF → run (replicate left tail) (drop i s) ≡ run (replicate (left - 1) tail) (drop (i + 1) s)
  tail-in h l u = rw (one_more left some_left) (byte-in s i h tail _ (inside _ _ _ l u))

  pub tail-out : i < length s → holds tail (get_or s i 0) ≡ false → run (replicate left tail) (drop i s) ≡ false
  tail-out h e = rw (one_more left some_left) (byte-out s i h tail _ e)

  pub tail-cut : i ≡ length s → run (replicate left tail) (drop i s) ≡ false
  tail-cut e = rw (one_more left some_left) (cut_short s i tail _ e)
