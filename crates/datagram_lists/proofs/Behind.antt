-- Lists behind their counts, read one value after the other.
use Prim.Native.Nat.{ℕ, zero, suc, ◌+◌, ◌-◌, ◌≤◌, ◌<◌}
use mathlib.Core.Path.{◌≡◌, refl, ap, sym, ◌∙◌}
use mathlib.Core.Bool.{Bool, true}
use mathlib.Core.List.{List, [], ◌∷◌}
use native.Mathlib.Omega.{arith}
use native.Mathlib.Numerals.{add-one}
use borrow.Author.Tests.{le-leb, lt-leb}
use lib.ListN.{length, drop, set, replicate}
use lib.Seq.{sets, sets-eq}
use Rattle.octets.specs.Words.{◌≤?◌, between}
use Rattle.octets.specs.Field.{Res, bad, got, bind, Field, num, only, through, tagged, many, many_parse}
use Rattle.octets.proofs.Tests.{if_no, inside}
use Rattle.octets.proofs.FieldLaws.{bound, many-laws}
use Rattle.headers.specs.declared.Header.{Header}
use Rattle.headers.specs.declared.Headers.{Headers}
use Rattle.envelope.specs.declared.CallText.{CallText}
use Rattle.envelope.specs.Texts.{call_text, header_text, with_header, no_headers}
use Rattle.layout.specs.declared.Hops.{Hops}
use Rattle.layout.specs.Texts.{hop_array}
use Rattle.layout.specs.Layout.{call, hops, header, headers, header_array, headers_of}
use Rattle.datagram_lists.specs.Found.{folded, list_from, further, hops_at, hops_from}
use Rattle.layout.proofs.Laws.{call-laws}
use Rattle.datagram_numbers.proofs.Chains.{tail, rest}

-- ---- one hop, and the shorter list

-- stores at two places, in either order
swapped : {A : Type 0} (l : List A) (i j : ℕ) (x y : A) → i < j → set (set l j x) i y ≡ set (set l i y) j x
swapped [] i j x y h = refl
swapped (z ∷ l) zero zero x y h = absurd (omega arith)
swapped (z ∷ l) zero (suc j) x y h = refl
swapped (z ∷ l) (suc i) zero x y h = absurd (omega arith)
swapped (z ∷ l) (suc i) (suc j) x y h = ap (λ r. z ∷ r) (swapped l i j x y (omega arith))

before-sets : {A : Type 0} (vs l : List A) (i j : ℕ) (y : A) → i < j → set (sets l j vs) i y ≡ sets (set l i y) j vs
before-sets [] l i j y h = refl
before-sets (x ∷ vs) l i j y h = before-sets vs (set l j x) i (suc j) y (omega arith) ∙ ap (λ r. sets r (suc j) vs) (swapped l i j x y h)

-- a hop stored before the others
hop-before : (at : ℕ) (a : CallText) (l : List CallText) → ◌≡◌ {A = Hops} (record { count = at + 1 + length l; items = set (sets (replicate 16 (call_text [])) (at + 1) l) at a }) (hops_at at (a ∷ l))
hop-before at a l =
    let z : at + 1 + length l ≡ at + suc (length l) = omega arith in
    let y : at + 1 ≡ suc at = omega arith in
    rw (z, y, before-sets l (replicate 16 (call_text [])) at (suc at) a (omega arith))

-- what was read, with a hop stored at its place and n bytes more
abbrev pub stored : ℕ → CallText → ℕ → Res Hops → Res Hops
stored at a n bad = bad
stored at a n (got h m) = got (record { count = h.count; items = set h.items at a }) (n + m)

module _ (at n : ℕ) (a : CallText) where
  one_more : (x : Res (List CallText)) → bind (bind x (λ l m. got (a ∷ l) (n + m))) (λ l j. got (hops_at at l) j) ≡ stored at a n (bind x (λ l j. got (hops_at (at + 1) l) j))
  one_more bad = refl
  one_more (got l j) = ap (λ (h : Hops). got h (n + j)) (sym (hop-before at a l))

  pub hops-more : (k : ℕ) (s : List ℕ) → (k ≡ 0 → ⊥) → (call 1).parse s ≡ got a n → hops_from k at s ≡ stored at a n (hops_from (k - 1) (at + 1) (tail n s))
  unfolding hops_from
  hops-more zero s d e = absurd (d refl)
  hops-more (suc k) s d e =
      let z : suc k - 1 ≡ k = omega arith in
      rw (e, z, rest n s) (one_more (many_parse (call 1) k (drop n s)))

pub hops-none : (k at : ℕ) (s : List ℕ) → k ≡ 0 → hops_from k at s ≡ got (record { count = at; items = replicate 16 (call_text []) }) 0
unfolding hops_from
hops-none k at s e = let z : at + 0 ≡ at = omega arith in rw (e, z)

pub hops-bad : (k at : ℕ) (s : List ℕ) → (k ≡ 0 → ⊥) → (call 1).parse s ≡ bad → hops_from k at s ≡ bad
unfolding hops_from
hops-bad zero at s d e = absurd (d refl)
hops-bad (suc k) at s d e = rw e

pub hops-room : (k at : ℕ) (s : List ℕ) (h : Hops) (m : ℕ) → hops_from k at s ≡ got h m → m ≤ length s
unfolding hops_from
hops-room k at s h m e =
    let b = bound (many_parse (call 1) k s) (λ l n. got (hops_at at l) n) h m e in
    let z : m ≡ b.used = cc in
    rw z ((many-laws (call 1) k (call-laws 1)).room s b.val b.used b.first)

-- ---- the count, and as many values

many-length : {A : Type 0} (F : Field A) (k : ℕ) (s : List ℕ) (l : List A) (n : ℕ) → many_parse F k s ≡ got l n → length l ≡ k
many-length F zero s l n e = let z : l ≡ [] = cc in rw z
many-length F (suc k) s x m e =
    let b1 = bound (F.parse s) (λ a n. bind (many_parse F k (drop n s)) (λ l j. got (a ∷ l) (n + j))) x m e in
    let b2 = bound (many_parse F k (drop b1.used s)) (λ l j. got (b1.val ∷ l) (b1.used + j)) x m b1.next in
    let ex : x ≡ b1.val ∷ b2.val = cc in
    rw ex (ap suc (many-length F k (drop b1.used s) b2.val b2.used b2.first))

module _ {A S : Type 0} (F : Field A) (add : S → A → S) (start : S) (to : List A → S) (from : S → List A) (holds : S → Bool) (p : ℕ → Bool) (w : ℕ) (s : List ℕ) where
  abbrev Counted : Field S
  Counted = through to from holds (tagged length (only p (num w)) (many F))

  module _ (k n : ℕ) (e : (num w).parse s ≡ got k n) where
    each-added : (x : Res (List A)) → ((l : List A) (j : ℕ) → x ≡ got l j → folded add start l ≡ to l)
        → bind (bind x (λ l m. got l (n + m))) (λ l n. got (to l) n) ≡ further n (bind x (λ l j. got (folded add start l) j))
    each-added bad h = refl
    each-added (got l j) h = ap (λ q. got q (n + j)) (sym (h l j refl))

    -- what is read behind the count, and the count's bytes on top
    pub counted_is : p k ≡ true → ((l : List A) → length l ≡ k → folded add start l ≡ to l) → Counted.parse s ≡ further n (list_from F add k start (drop n s))
    unfolding list_from
    counted_is t h = rw (e, t) (each-added (many_parse F k (drop n s)) (λ l j q. h l (many-length F k (drop n s) l j q)))

-- one header more in its place
pub header-added : (items : List Header) (i : ℕ) (x : Header) (next : Headers) → i < 8 → next ≡ record { items = set items i x; count = i + 1 } → next ≡ with_header (record { items = items; count = i }) x
unfolding with_header
header-added items i x next h e = e ∙ sym (if_no (8 ≤? i) _ _ (lt-leb 8 i h))

-- ---- values added one after the other stand in the array one after the other

folded-headers : (l : List Header) (h : Headers) → h.count + length l ≤ 8 → folded with_header h l ≡ record { count = h.count + length l; items = sets h.items h.count l }
unfolding with_header
folded-headers [] h k = let z : h.count + 0 ≡ h.count = omega arith in rw z
folded-headers (x ∷ l) h k =
    let one : Headers = record { items = set h.items h.count x; count = h.count + 1 } in
    ap (λ q. folded with_header q l) (if_no (8 ≤? h.count) h one (lt-leb 8 h.count (omega arith)))
    ∙ folded-headers l one (omega arith)
    ∙ (let z : h.count + 1 + length l ≡ h.count + suc (length l) = omega arith in rw (z, add-one))

pub all-headers : (l : List Header) → length l ≤ 8 → folded with_header no_headers l ≡ header_array l
all-headers l h = folded-headers l no_headers (omega arith) ∙ (let z : 0 + length l ≡ length l = omega arith in rw (sets-eq l (replicate 8 (header_text [] [])) 0 (omega arith), z))

-- ---- the count of hops, and as many of them

first-hops : (l : List CallText) → length l ≤ 16 → hops_at 0 l ≡ hop_array l
first-hops l h = let z : 0 + length l ≡ length l = omega arith in rw (sets-eq l (replicate 16 (call_text [])) 0 (omega arith), z)

pub hops-counted : (s : List ℕ) (k n : ℕ) → (num 1).parse s ≡ got k n → k ≤ 16 → hops.parse s ≡ further n (hops_from k 0 (tail n s))
unfolding hops hops_from
hops-counted s k n e i = rw (e, le-leb k 16 i, rest n s) (go (many_parse (call 1) k (drop n s)) refl)
  where
    go : (x : Res (List CallText)) → many_parse (call 1) k (drop n s) ≡ x → bind (bind x (λ l m. got l (n + m))) (λ l j. got (hop_array l) j) ≡ further n (bind x (λ l j. got (hops_at 0 l) j))
    go bad q = refl
    go (got l j) q = ap (λ (h : Hops). got h (n + j)) (sym (first-hops l (omega (arith, many-length (call 1) k (drop n s) l j q))))

-- ---- the count of headers, and as many of them

pub headers-counted : (s : List ℕ) (k n : ℕ) → (num 2).parse s ≡ got k n → 1 ≤ k → k ≤ 8 → headers.parse s ≡ further n (list_from header with_header k no_headers (tail n s))
unfolding headers
headers-counted s k n e i j =
    rw (rest n s) (counted_is header with_header no_headers header_array headers_of (λ h. h.count ≤? 8) (between 1 8) 2 s k n e (inside 1 8 k i j) (λ l q. all-headers l (omega (arith, q, j))))
