-- Texts that may stand in a word of a line: well-formed UTF-8 of visible bytes. Digits, callsigns and destinations are such.
use Rattle.std.specs.Prelude.{if◌then◌else◌}
use Prim.Native.Nat.{ℕ, suc, ◌<◌, ◌≤◌, ◌-◌}
use mathlib.Core.Path.{◌≡◌, refl}
use mathlib.Core.Bool.{Bool, true, false}
use mathlib.Core.List.{List, [], ◌∷◌, ◌++◌}
use native.Mathlib.Omega.{arith}
use borrow.Author.Tests.{ne_eqb, ltb-true, eqb-true}
use lib.ListN.{length}
use lib.IntN.{ℤ, pos, negsuc}
use Rattle.octets.specs.Words.{◌and◌, ◌or◌, no, ◌≤?◌, ◌=?◌, between, every, some}
use Rattle.octets.proofs.Tests.{and_left, and_right, and_both, or_left, true-not-false, inside, inside-low, inside-high, no_false}
use Rattle.utf8.specs.Utf8.{Range, Row, holds, rows, run, utf8}
use Rattle.text.specs.Digits.{worth, is_digit}
use Rattle.text.specs.Decimal.{decimal, signed_decimal, count}
use Rattle.text.specs.Hex.{hex_digits}
use Rattle.text.proofs.Numerals.{all_digits}
use Rattle.callsigns.specs.Runs as runs
use Rattle.callsigns.specs.Callsign.{alnum, suffix, base_length, callsign}
use Rattle.callsigns.specs.Destination.{app_byte, at_callsign, destination}
use Rattle.names.specs.Texts.{text_byte, ruled}

-- ---- every, some

pub every_append : {A : Type 0} (p : A → Bool) (s t : List A) → every p s ≡ true → every p t ≡ true → every p (s ++ t) ≡ true
every_append p [] t e f = f
every_append p (x ∷ s) t e f = and_both (p x) (every p (s ++ t)) (and_left (p x) (every p s) e) (every_append p s t (and_right (p x) (every p s) e) f)

pub every-by : {A : Type 0} (p q : A → Bool) → ((x : A) → p x ≡ true → q x ≡ true) → (s : List A) → every p s ≡ true → every q s ≡ true
every-by p q f [] e = refl
every-by p q f (x ∷ s) e = and_both (q x) (every q s) (f x (and_left (p x) (every p s) e)) (every-by p q f s (and_right (p x) (every p s) e))

or_right : (a b : Bool) → b ≡ true → a or b ≡ true
or_right true b e = refl
or_right false b e = e

or-by : {P : Type 0} (a b : Bool) → a or b ≡ true → (a ≡ true → P) → (b ≡ true → P) → P
or-by true b e f g = f refl
or-by false b e f g = g e

some-by : {A : Type 0} (p q : A → Bool) → ((x : A) → p x ≡ true → q x ≡ true) → (s : List A) → some p s ≡ true → some q s ≡ true
some-by p q f [] e = e
some-by p q f (x ∷ s) e = or-by (p x) (some p s) e (λ h. or_left (q x) (some q s) (f x h)) (λ h. or_right (q x) (some q s) (some-by p q f s h))

-- ---- UTF-8, one text behind another

run-append : (rs : List Range) (s t : List ℕ) → run rs s ≡ true → utf8 t ≡ true → run rs (s ++ t) ≡ true
unfolding run
run-append [] [] t e f = f
run-append (r ∷ rs) [] t e f = true-not-false false e refl
run-append [] (b ∷ s) t e f =
    some-by (λ (r : Row). holds r.lead b and run r.behind s) (λ (r : Row). holds r.lead b and run r.behind (s ++ t))
    (λ r h. and_both (holds r.lead b) (run r.behind (s ++ t)) (and_left _ _ h) (run-append r.behind s t (and_right (holds r.lead b) _ h) f)) rows e
run-append (r ∷ rs) (b ∷ s) t e f = and_both (holds r b) (run rs (s ++ t)) (and_left _ _ e) (run-append rs s t (and_right (holds r b) _ e) f)

pub utf8_append : (s t : List ℕ) → utf8 s ≡ true → utf8 t ≡ true → utf8 (s ++ t) ≡ true
utf8_append s t e f = run-append [] s t e f

-- ---- ASCII

abbrev pub ascii : ℕ → Bool
ascii x = between 0x21 0x7E x

ascii-utf8 : (s : List ℕ) → every ascii s ≡ true → utf8 s ≡ true
unfolding run
ascii-utf8 [] e = refl
ascii-utf8 (x ∷ s) e =
    let h = and_left (ascii x) (every ascii s) e in
    let l = inside-high 0x21 0x7E x h in
    or_left _ _ (and_both (between 0 0x7F x) (run [] s) (inside 0 0x7F x (omega arith) (omega arith)) (ascii-utf8 s (and_right (ascii x) (every ascii s) e)))

ascii-text : (x : ℕ) → ascii x ≡ true → text_byte true x ≡ true
unfolding text_byte
ascii-text x e =
    let h = inside-high 0x21 0x7E x e in
    and_both (0x21 ≤? x) _ (and_left _ _ e) (and_both (no (x =? 0x7F)) true (no_false _ (ne_eqb x 0x7F (λ q. omega arith))) refl)

pub ascii-ruled : (s : List ℕ) → every ascii s ≡ true → ruled true s ≡ true
unfolding ruled
ascii-ruled s e = and_both (utf8 s) _ (ascii-utf8 s e) (every-by ascii (text_byte true) ascii-text s e)

-- ---- digits

digit-ascii : (b : ℕ) → worth b < 16 → ascii b ≡ true
digit-ascii b h = go (between 0x30 0x39 b) (between 0x61 0x66 b) refl refl h
  where
    go : (t u : Bool) → between 0x30 0x39 b ≡ t → between 0x61 0x66 b ≡ u → (if t then b - 0x30 else (if u then b - 0x57 else 16)) < 16 → ascii b ≡ true
    go true u e f k = let l = inside-low 0x30 0x39 b e in let m = inside-high 0x30 0x39 b e in inside 0x21 0x7E b (omega arith) (omega arith)
    go false true e f k = let l = inside-low 0x61 0x66 b f in let m = inside-high 0x61 0x66 b f in inside 0x21 0x7E b (omega arith) (omega arith)
    go false false e f k = absurd (omega arith)

pub decimal-ascii : (v : ℕ) → every ascii (decimal v) ≡ true
decimal-ascii v =
    every-by (is_digit 10) ascii (λ b e. let h = ltb-true (worth b) 10 e in digit-ascii b (omega arith)) (decimal v) (all_digits 10 (omega arith) (omega arith) (count v) v)

pub hex-ascii : (w v : ℕ) → every ascii (hex_digits w v) ≡ true
hex-ascii w v = every-by (is_digit 16) ascii (λ b e. digit-ascii b (ltb-true (worth b) 16 e)) (hex_digits w v) (all_digits 16 (omega arith) (omega arith) w v)

pub signed-ascii : (z : ℤ) → every ascii (signed_decimal z) ≡ true
signed-ascii (pos m) = decimal-ascii m
signed-ascii (negsuc m) = decimal-ascii (suc m)

-- ---- names

range : (a b x : ℕ) → 0x21 ≤ a → b ≤ 0x7E → between a b x ≡ true → ascii x ≡ true
range a b x l h e = let p = inside-low a b x e in let q = inside-high a b x e in inside 0x21 0x7E x (omega arith) (omega arith)

one : (c x : ℕ) → 0x21 ≤ c → c ≤ 0x7E → (x =? c) ≡ true → ascii x ≡ true
one c x l h e = let p = eqb-true x c e in inside 0x21 0x7E x (omega arith) (omega arith)

alnum-ascii : (x : ℕ) → alnum x ≡ true → ascii x ≡ true
unfolding alnum
alnum-ascii x e =
    or-by _ _ e (range 48 57 x (omega arith) (omega arith)) (λ f.
    or-by _ _ f (range 65 90 x (omega arith) (omega arith)) (range 97 122 x (omega arith) (omega arith)))

app-ascii : (x : ℕ) → app_byte x ≡ true → ascii x ≡ true
unfolding app_byte
app-ascii x e =
    or-by _ _ e (alnum-ascii x) (λ f.
    or-by _ _ f (one 45 x (omega arith) (omega arith)) (λ g.
    or-by _ _ g (one 95 x (omega arith) (omega arith)) (one 46 x (omega arith) (omega arith))))

rest-ascii : (p : ℕ → Bool) → ((x : ℕ) → p x ≡ true → ascii x ≡ true) → (s : List ℕ) → every ascii (runs.rest p s) ≡ true → every ascii s ≡ true
unfolding runs.rest
rest-ascii p f [] e = refl
rest-ascii p f (x ∷ s) e = go (p x) refl e (rest-ascii p f s)
  where
    go : (t : Bool) → p x ≡ t → every ascii (if t then runs.rest p s else (x ∷ s)) ≡ true → (every ascii (runs.rest p s) ≡ true → every ascii s ≡ true) → every ascii (x ∷ s) ≡ true
    go true h k ih = and_both (ascii x) (every ascii s) (f x h) (ih k)
    go false h k ih = k

suffix-ascii : (t : List ℕ) → suffix t ≡ true → every ascii t ≡ true
unfolding suffix
suffix-ascii [] e = refl
suffix-ascii (m ∷ []) e = true-not-false false e refl
suffix-ascii (m ∷ x ∷ []) e =
    and_both (ascii m) _ (one 45 m (omega arith) (omega arith) (and_left _ _ e))
    (and_both (ascii x) true (range 49 57 x (omega arith) (omega arith) (and_right (m =? 45) _ e)) refl)
suffix-ascii (m ∷ x ∷ y ∷ []) e =
    let f = and_right (m =? 45) _ e in
    and_both (ascii m) _ (one 45 m (omega arith) (omega arith) (and_left _ _ e))
    (and_both (ascii x) _ (one 49 x (omega arith) (omega arith) (and_left _ _ f))
    (and_both (ascii y) true (range 48 53 y (omega arith) (omega arith) (and_right (x =? 49) _ f)) refl))
suffix-ascii (m ∷ x ∷ y ∷ z ∷ t) e = true-not-false false e refl

pub callsign-ascii : (s : List ℕ) → callsign s ≡ true → every ascii s ≡ true
unfolding callsign
callsign-ascii s e = rest-ascii alnum alnum-ascii s (suffix-ascii (runs.rest alnum s) (and_right (between 1 9 (base_length s)) _ e))

at_ascii : (s : List ℕ) → at_callsign s ≡ true → every ascii s ≡ true
unfolding at_callsign
at_ascii [] e = true-not-false false e refl
at_ascii (x ∷ s) e = and_both (ascii x) _ (one 64 x (omega arith) (omega arith) (and_left _ _ e)) (callsign-ascii s (and_right (x =? 64) _ e))

pub destination-ascii : (s : List ℕ) → destination s ≡ true → every ascii s ≡ true
unfolding destination
destination-ascii s e = rest-ascii app_byte app-ascii s (at_ascii (runs.rest app_byte s) (and_right (between 1 32 (length (runs.run app_byte s))) _ e))
