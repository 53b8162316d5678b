-- What the rules of a row come to, part by part, and that a row is the packing of the stream that it stands for.
use Rattle.std.specs.Prelude.{if◌then◌else◌}
use mathlib.Core.Path.{◌≡◌, refl, sym, ap, ◌∙◌}
use Prim.Native.Nat.{ℕ, suc, ◌+◌, ◌-◌, ◌≤◌, ◌<◌}
use native.Mathlib.Omega.{arith}
use mathlib.Core.Bool.{Bool, true, false}
use mathlib.Core.List.{List, [], ◌∷◌}
use lib.ListN.{length, drop, replicate}
use lib.Seq.{take-append_seam, drop-append_seam}
use borrow.Author.Tests.{eq-eqb, le-leb, leb-true, leb-false, lt-ltb, ltb-true, ltb-false, eqb-true, eqb-false}
use Rattle.octets.specs.Words.{◌and◌, ◌or◌, every, between, ◌<?◌, ◌≤?◌, ◌=?◌}
use Rattle.octets.proofs.Tests.{and_left, and_right, and_both, and-not-left, and-not-right, and-next, and-true, inside, inside-low, inside-high, true-not-false}
use Rattle.places.specs.declared.Held.{Held}
use Rattle.rows.specs.declared.Row.{Row}
use Rattle.rows.specs.Stream.{Stream, word, words, ascending, above, holds, gap_open, ordered, timed, keeps}
use Rattle.rows.specs.Row.{blank, is_blank, stream_of, places, row_of, keeps_row, no_row, is_no_row}
use Rattle.rows.specs.Steps.{above_by}
use Rattle.places.proofs.Packing.{Placed, counted, placed, blanks, all-blank, length-places}

-- ---- a stream that keeps the rules

pub record Kept (s : Stream) : Type 0 where
  pub low : 1 ≤ s.expected
  pub high : s.expected ≤ 4294967296
  pub order : ascending s.expected s.held ≡ true
  pub few : above s.expected s.held ≤ 15
  pub since : s.gap_start ≤ s.clock
  pub gap : (gap_open s.expected s.held or s.gap_start =? 0) ≡ true
  pub clock : s.clock < 4294967296
  pub sizes : every words s.held ≡ true

pub kept : (s : Stream) → keeps s ≡ true → Kept s
unfolding keeps
kept s e =
    let o = and_left (ordered s) _ e in
    let o2 = and_right (between 1 4294967296 s.expected) _ o in
    let t = and_left (timed s) _ (and_right (ordered s) _ e) in
    let w = and_right (timed s) _ (and_right (ordered s) _ e) in
    record {
      low = inside-low _ 4294967296 _ (and_left (between 1 4294967296 s.expected) _ o);
      high = inside-high 1 _ _ (and_left (between 1 4294967296 s.expected) _ o);
      order = and_left (ascending s.expected s.held) _ o2;
      few = leb-true _ _ (and_right (ascending s.expected s.held) _ o2);
      since = leb-true _ _ (and_left (s.gap_start ≤? s.clock) _ t);
      gap = and_right (s.gap_start ≤? s.clock) _ t;
      clock = ltb-true _ _ (and_left (word s.clock) _ w);
      sizes = and_right (word s.clock) _ w;
    }

pub keep : (s : Stream) → Kept s → keeps s ≡ true
unfolding keeps
keep s k =
    and_both _ _ (and_both _ _ (inside _ _ _ k.low k.high) (and_both _ _ k.order (le-leb _ _ k.few)))
    (and_both _ _ (and_both _ _ (le-leb _ _ k.since) k.gap) (and_both _ _ (lt-ltb _ _ k.clock) k.sizes))

-- a row's rules, part by part: places that are not bare, or messages that do not ascend, decide alone
pub not-bare : (l c b k : Bool) → b ≡ false → l and c and b and k ≡ false
not-bare l c b k e = and-not-right l _ (and-not-right c _ (and-not-left _ _ e))

pub not-ascending : (l c b w a v t : Bool) → a ≡ false → l and c and b and (w and a and v) and t ≡ false
not-ascending l c b w a v t e = and-not-right l _ (and-not-right c _ (and-not-right b _ (and-not-left _ _ (and-not-right w _ (and-not-left _ _ e)))))

-- where they are as they should be, the numbers decide
pub numbers-left : (l c b w a v v' s g z : Bool) → l ≡ true → b ≡ true → a ≡ true → z ≡ true → (c ≡ true → v' ≡ v)
    → c and (w and v') and s and g ≡ l and c and b and (w and a and v) and (s and g) and z
numbers-left l c b w a v v' s g z p q r y e = rw (p, q, r, y) (go c e)
  where
    go : (c : Bool) → (c ≡ true → v' ≡ v) → c and (w and v') and s and g ≡ c and (w and v) and (s and g) and true
    go false e = refl
    go true e = ap (λ (x : Bool). (w and x) and s and g) (e refl) ∙ ap (λ (x : Bool). (w and v) and x) (sym (and-true (s and g)))

-- ---- a row that keeps them

pub record KeptRow (r : Row) : Type 0 where
  pub long : length r.held ≡ 16
  pub most : r.count ≤ 16
  pub bare : every is_blank (drop r.count r.held) ≡ true
  pub stream : Kept (stream_of r)

pub kept_row : (r : Row) → keeps_row r ≡ true → KeptRow r
unfolding keeps_row
kept_row r e =
    let f = and_right (length r.held =? 16) _ e in
    let g = and_right (r.count ≤? 16) _ f in
    record {
      long = eqb-true _ _ (and_left (length r.held =? 16) _ e);
      most = leb-true _ _ (and_left (r.count ≤? 16) _ f);
      bare = and_left (every is_blank (drop r.count r.held)) _ g;
      stream = kept (stream_of r) (and_right (every is_blank (drop r.count r.held)) _ g);
    }

pub placed-in : (r : Row) → keeps_row r ≡ true → Placed r.count r.held
placed-in r e = let k = kept_row r e in record { long = k.long; most = k.most; bare = k.bare }

-- a row from its parts
pub row_is : (s : Stream) (n : ℕ) (h : List Held) → n ≡ length s.held → h ≡ places s.held
    → ◌≡◌ {A = Row} (record { expected = s.expected; clock = s.clock; gap_start = s.gap_start; count = n; held = h }) (row_of s)
row_is s n h p q = λ i. record { expected = s.expected; clock = s.clock; gap_start = s.gap_start; count = p i; held = q i }

-- packing what a row stands for gives the row
pub packs : (r : Row) → keeps_row r ≡ true → r ≡ row_of (stream_of r)
packs r e = row_is (stream_of r) r.count r.held (counted _ _ (placed-in r e)) (placed _ _ (placed-in r e))

-- a row of zeros is `no_row`
pub no-row : (r : Row) → is_no_row r ≡ true → r ≡ no_row
unfolding is_no_row
no-row r e =
    let e1 = and_right (length r.held =? 16) _ e in
    let e2 = and_right (r.expected =? 0) _ e1 in
    let e3 = and_right (r.clock =? 0) _ e2 in
    let e4 = and_right (r.gap_start =? 0) _ e3 in
    let n = eqb-true (length r.held) 16 (and_left _ _ e) in
    let a = eqb-true _ _ (and_left (r.expected =? 0) _ e1) in
    let b = eqb-true _ _ (and_left (r.clock =? 0) _ e2) in
    let c = eqb-true _ _ (and_left (r.gap_start =? 0) _ e3) in
    let d = eqb-true _ _ (and_left (r.count =? 0) _ e4) in
    let h = blanks r.held (and_right (r.count =? 0) _ e4) ∙ ap (λ (k : ℕ). replicate k blank) n in
    λ i. record { expected = a i; clock = b i; gap_start = c i; count = d i; held = h i }

-- ---- room for one more

above-all : (e lo : ℕ) (l : List Held) → ascending lo l ≡ true → e < lo → above e l ≡ length l
above-all e lo [] a h = refl
above-all e lo (x ∷ t) a h =
    let b : lo ≤ x.number = leb-true lo x.number (and_left (lo ≤? x.number) _ a) in
    let k : above e t ≡ length t = above-all e (x.number + 1) t (and_right (lo ≤? x.number) _ a) (omega arith) in
    rw (lt-ltb e x.number (omega arith)) (omega arith)

-- how many stand above expected, from the count and the gap
pub above-count : (e : ℕ) (l : List Held) → ascending e l ≡ true → above_by (gap_open e l) (length l) ≡ above e l
above-count e [] a = refl
above-count e (x ∷ t) a =
    let b : e ≤ x.number = leb-true e x.number (and_left (e ≤? x.number) _ a) in
    let k : above e t ≡ length t = above-all e (x.number + 1) t (and_right (e ≤? x.number) _ a) (omega arith) in
    go (e <? x.number) k
  where
    go : (b : Bool) → above e t ≡ length t → (if b then suc (length t) else (suc (length t) - 1)) ≡ (if b then 1 else 0) + above e t
    go true k = omega arith
    go false k = omega arith

room-above : (e : ℕ) (l : List Held) → ascending e l ≡ true → length l ≤ above e l + 1
room-above e [] a = omega arith
room-above e (x ∷ t) a =
    let b : e ≤ x.number = leb-true e x.number (and_left (e ≤? x.number) _ a) in
    let k : above e t ≡ length t = above-all e (x.number + 1) t (and_right (e ≤? x.number) _ a) (omega arith) in
    omega arith

-- where the expected number is not held, all that is held stands above it
room-expected : (e : ℕ) (l : List Held) → ascending e l ≡ true → holds e l ≡ false → length l ≡ above e l
room-expected e [] a n = refl
room-expected e (x ∷ t) a n = go (x.number =? e) refl
  where
    go : (b : Bool) → (x.number =? e) ≡ b → suc (length t) ≡ above e (x ∷ t)
    go true q = true-not-false (holds e (x ∷ t)) (rw q refl) n
    go false q =
        let d : x.number ≡ e → ⊥ = eqb-false x.number e q in
        let b : e ≤ x.number = leb-true e x.number (and_left (e ≤? x.number) _ a) in
        let k : above e t ≡ length t = above-all e (x.number + 1) t (and_right (e ≤? x.number) _ a) (omega arith) in
        rw (lt-ltb e x.number (omega arith)) (omega arith)

-- a number that is neither stale nor held nor above expected with 15 such held finds its place
pub room : (s : Stream) (n : ℕ) → Kept s → s.expected ≤ n → holds n s.held ≡ false → (s.expected <? n and 15 ≤? above s.expected s.held) ≡ false → length s.held < 16
room s n k h d f = go (s.expected <? n) refl
  where
    go : (b : Bool) → (s.expected <? n) ≡ b → length s.held < 16
    go true q = omega (arith, leb-false 15 (above s.expected s.held) (sym (and-next _ _ q) ∙ f), room-above s.expected s.held k.order)
    go false q =
        let e : n ≡ s.expected = omega (arith, ltb-false s.expected n q) in
        omega (arith, k.few, room-expected s.expected s.held k.order (rw e at d))

-- sixteen hold all that the rules allow
pub held-most : (s : Stream) → Kept s → length s.held ≤ 16
held-most s k = omega (arith, k.few, room-above s.expected s.held k.order)

-- ---- the packing of a stream

pub unpacks : (s : Stream) → stream_of (row_of s) ≡ s
unpacks s = ap {B = Stream} (λ (l : List Held). record { expected = s.expected; clock = s.clock; gap_start = s.gap_start; held = l }) (take-append_seam s.held _)

-- a stream that keeps the rules is packed into a row that does
pub keeps-row : (s : Stream) → keeps s ≡ true → keeps_row (row_of s) ≡ true
unfolding keeps_row
keeps-row s e =
    let m = held-most s (kept s e) in
    and_both _ _ (eq-eqb _ _ (length-places s.held m))
    (and_both _ _ (le-leb _ _ m)
    (and_both _ _ (ap (every is_blank) (drop-append_seam s.held _) ∙ all-blank (16 - length s.held)) (ap keeps (unpacks s) ∙ e)))
