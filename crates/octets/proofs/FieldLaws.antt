-- The laws of a field, for each way of making one: what is written is read back, what is read is what would be written, and a read
-- takes no more than there is.
use Rattle.std.specs.Prelude.{if◌then◌else◌, ℤ, Option, Some, None, is_some}
use Prim.Native.Nat.{ℕ, zero, suc, ◌+◌, ◌^◌, ◌<◌, ◌≤◌}
use mathlib.Core.Path.{◌≡◌, refl, ap, sym, ◌∙◌}
use mathlib.Core.List.{List, [], ◌∷◌, ◌++◌, append_assoc, map}
use mathlib.Core.Bool.{Bool, true, false}
use native.Mathlib.Omega.{arith}
use lib.ListN.{length, take, drop, length-append, length-take, length-drop, take-append-drop}
use lib.Seq.{take-append_seam, drop-append_seam, drop-drop}
use lib.Signed.{mag}
use mir.Syntax.{w64}
use mir.Val.{Fits}
use mir.ValLaws.{of_z-to_z, to_z-Fits}
use borrow.Author.Tests.{ltb-true, leb-true, eqb-true, lt-ltb, le-leb, lt-leb, eq-eqb}
use Rattle.octets.specs.Words.{◌and◌, every, ◌≤?◌, ◌=?◌, ◌<?◌}
use Rattle.octets.specs.Bytes.{Bytes}
use Rattle.octets.specs.Numbers.{little, little_bytes, twos, from_twos}
use Rattle.octets.specs.Reading.{read_as}
use Rattle.octets.specs.Field.{Res, bad, got, bind, Field, num, raw, only, when, given, seq, tagged, through, many_parse, many_print, many, signed_num}
use Rattle.octets.proofs.Tests.{if_yes, if_no, true-not-false, and_left, and_right, and_both}
use Rattle.octets.proofs.SignLaws.{bits64, twos-kit, from-kit}
use Rattle.octets.proofs.NumberLaws.{length-bytes, read-written, little-less, written_read, bytes_drop, bytes_take}

-- what a successful read says: the value is good and tidy, and the bytes that it took are those it would be written as
pub record Read {A : Type 0} (F : Field A) (s : List ℕ) (a : A) (n : ℕ) : Type 0 where
  pub good : F.ok a ≡ true
  pub tidied : F.tidy a ≡ a
  pub size : n ≡ length (F.print a)
  pub same : s ≡ F.print a ++ drop n s

pub record Laws {A : Type 0} (F : Field A) : Type 0 where
  pub back : (a : A) (t : List ℕ) → F.ok a ≡ true → F.parse (F.print a ++ t) ≡ got (F.tidy a) (length (F.print a))
  pub forth : (s : List ℕ) (a : A) (n : ℕ) → Bytes s → F.parse s ≡ got a n → Read F s a n
  pub room : (s : List ℕ) (a : A) (n : ℕ) → F.parse s ≡ got a n → n ≤ length s

-- ---- reads that succeeded, taken apart

pub record Bound {A B : Type 0} (x : Res A) (k : A → ℕ → Res B) (b : B) (m : ℕ) : Type 0 where
  pub val : A
  pub used : ℕ
  pub first : x ≡ got val used
  pub next : k val used ≡ got b m

pub bound : {A B : Type 0} (x : Res A) (k : A → ℕ → Res B) (b : B) (m : ℕ) → bind x k ≡ got b m → Bound x k b m
bound bad k b m e = let z : ◌≡◌ {A = ℕ} 0 1 = cc in absurd (omega arith)
bound (got a n) k b m e = record { val = a; used = n; first = refl; next = e }

pub picked : {A : Type 0} (t : Bool) (x : Res A) (a : A) (n : ℕ) → (if t then x else bad) ≡ got a n → (t ≡ true) × (x ≡ got a n)
picked true x a n e = (refl, e)
picked false x a n e = let z : ◌≡◌ {A = ℕ} 0 1 = cc in absurd (omega arith)

moved : {A : Type 0} (F : Field A) (s : List ℕ) (a b : A) (n m : ℕ) → a ≡ b → n ≡ m → Read F s b m → Read F s a n
moved F s a b n m e f r = rw (e, f) r

pair_eq : {A B : Type 0} {a c : A} {b d : B} → a ≡ c → b ≡ d → ◌≡◌ {A = A × B} (a, b) (c, d)
pair_eq e f = cc

list-eq : {A : Type 0} {a b : A} {l m : List A} → a ≡ b → l ≡ m → a ∷ l ≡ b ∷ m
list-eq e f = cc

-- two fields in a row that were read
after : {A B : Type 0} (F : Field A) (G : Field B) (s : List ℕ) (a : A) (n : ℕ) (b : B) (m : ℕ) → Read F s a n → Read G (drop n s) b m
    → (n + m ≡ length (F.print a ++ G.print b)) × (s ≡ (F.print a ++ G.print b) ++ drop (n + m) s)
after F G s a n b m r q = (
  rw length-append (cc),
  r.same ∙ ap (λ l. F.print a ++ l) q.same ∙ rw (append_assoc, drop-drop),
)

-- ---- numbers and bytes

pub num_laws : (w : ℕ) → Laws (num w)
num_laws w = record {
  back = λ v t h.
      let l = length-bytes w v in
      let long : w ≤ length (little_bytes w v ++ t) = rw length-append (omega arith) in
      let part : take w (little_bytes w v ++ t) ≡ little_bytes w v = ap (λ n. take n (little_bytes w v ++ t)) (sym l) ∙ take-append_seam (little_bytes w v) t in
      rw (le-leb w _ long, part, read-written w v (ltb-true v (256 ^ w) h), l);
  forth = λ s v n hs e.
      let p = picked (w ≤? length s) _ v n e in
      let long = leb-true w (length s) p.0 in
      let ev : v ≡ little (take w s) = cc in
      let en : n ≡ w = cc in
      let lw : length (take w s) ≡ w = rw length-take (omega arith) in
      moved (num w) s v (little (take w s)) n w ev en (record {
        good = lt-ltb _ _ (rw lw at (little-less (take w s) (bytes_take w s hs)));
        tidied = refl;
        size = sym (length-bytes w _);
        same = sym (rw lw at (ap (λ l. l ++ drop w s) (written_read (take w s) (bytes_take w s hs))) ∙ take-append-drop w s);
      });
  room = λ s v n e.
      let p = picked (w ≤? length s) _ v n e in
      let en : n ≡ w = cc in
      omega (arith, leb-true w (length s) p.0);
}

-- how the code's reading of a number comes to the field's
pub num-short : (w : ℕ) (s : List ℕ) → length s < w → (num w).parse s ≡ bad
num-short w s h = if_no _ _ _ (lt-leb w (length s) h)

pub num-read : (w : ℕ) (s : List ℕ) (v : ℕ) → w ≤ length s → v ≡ little (take w s) → (num w).parse s ≡ got v w
num-read w s v h e = if_yes _ _ _ (le-leb w (length s) h) ∙ rw e

pub raw_laws : (p : ℕ → Bool) (k : ℕ) → Laws (raw p k)
raw_laws p k = record {
  back = λ l t h.
      let el = eqb-true (length l) k (and_left _ _ h) in
      let long : k ≤ length (l ++ t) = rw length-append (omega arith) in
      let part : take k (l ++ t) ≡ l = ap (λ n. take n (l ++ t)) (sym el) ∙ take-append_seam l t in
      rw (le-leb k _ long, part, and_right (length l =? k) _ h, el);
  forth = λ s l n hs e.
      let b = picked (k ≤? length s and every p (take k s)) _ l n e in
      let long = leb-true k (length s) (and_left _ _ b.0) in
      let ea : l ≡ take k s = cc in
      let en : n ≡ k = cc in
      let ek : length (take k s) ≡ k = rw length-take (omega arith) in
      moved (raw p k) s l (take k s) n k ea en (record {
        good = and_both _ _ (eq-eqb _ _ ek) (and_right (k ≤? length s) _ b.0);
        tidied = refl;
        size = sym ek;
        same = sym (take-append-drop k s);
      });
  room = λ s l n e.
      let b = picked (k ≤? length s and every p (take k s)) _ l n e in
      let en : n ≡ k = cc in
      omega (arith, leb-true k (length s) (and_left _ _ b.0));
}

-- ---- fields made of fields

-- the test must not look at what tidying clears
pub only-laws : {A : Type 0} (p : A → Bool) (F : Field A) → ((a : A) → F.ok a ≡ true → p (F.tidy a) ≡ p a) → Laws F → Laws (only p F)
only-laws p F blind lf = record {
  back = λ a t h.
      let good = and_left _ _ h in
      rw (lf.back a t good, blind a good, and_right (F.ok a) _ h);
  forth = λ s a n hs e.
      let b = bound (F.parse s) (λ a n. if p a then got a n else bad) a n e in
      let c = picked (p b.val) (got b.val b.used) a n b.next in
      let r = lf.forth s b.val b.used hs b.first in
      let ea : a ≡ b.val = cc in
      let en : n ≡ b.used = cc in
      moved (only p F) s a b.val n b.used ea en (record { good = and_both _ _ r.good c.0; tidied = r.tidied; size = r.size; same = r.same });
  room = λ s a n e.
      let b = bound (F.parse s) (λ a n. if p a then got a n else bad) a n e in
      let c = picked (p b.val) (got b.val b.used) a n b.next in
      let en : n ≡ b.used = cc in
      omega (arith, lf.room s b.val b.used b.first);
}

pub when-laws : {A : Type 0} (b : Bool) (blank : A) (F : Field A) → Laws F → Laws (when b blank F)
when-laws true blank F lf = lf
when-laws false blank F lf = record {
  back = λ a t h. refl;
  forth = λ s a n hs e.
      let ea : a ≡ blank = cc in
      let en : n ≡ 0 = cc in
      moved (when false blank F) s a blank n 0 ea en (record { good = refl; tidied = refl; size = refl; same = refl });
  room = λ s a n e. let en : n ≡ 0 = cc in omega arith;
}

-- a field of an Option
given-back : {A : Type 0} (b : Bool) (F : Field A) → Laws F → (o : Option A) (t : List ℕ) → (given b F).ok o ≡ true
    → (given b F).parse ((given b F).print o ++ t) ≡ got ((given b F).tidy o) (length ((given b F).print o))
given-back true F lf None t h = true-not-false false h refl
given-back false F lf None t h = refl
given-back true F lf (Some x) t h = rw (lf.back x t h)
given-back false F lf (Some x) t h = true-not-false false h refl

given-forth : {A : Type 0} (b : Bool) (F : Field A) → Laws F → (s : List ℕ) (o : Option A) (n : ℕ) → Bytes s → (given b F).parse s ≡ got o n → Read (given b F) s o n
given-forth true F lf s o n hs e =
    let b1 = bound (F.parse s) (λ a n. got (Some a) n) o n e in
    let r = lf.forth s b1.val b1.used hs b1.first in
    let eo : o ≡ Some b1.val = cc in
    let en : n ≡ b1.used = cc in
    moved (given true F) s o (Some b1.val) n b1.used eo en (record { good = r.good; tidied = ap Some r.tidied; size = r.size; same = r.same })
given-forth false F lf s o n hs e =
    let eo : o ≡ None = cc in
    let en : n ≡ 0 = cc in
    moved (given false F) s o None n 0 eo en (record { good = refl; tidied = refl; size = refl; same = refl })

given-room : {A : Type 0} (b : Bool) (F : Field A) → Laws F → (s : List ℕ) (o : Option A) (n : ℕ) → (given b F).parse s ≡ got o n → n ≤ length s
given-room true F lf s o n e =
    let b1 = bound (F.parse s) (λ a n. got (Some a) n) o n e in
    let en : n ≡ b1.used = cc in
    omega (arith, lf.room s b1.val b1.used b1.first)
given-room false F lf s o n e = let en : n ≡ 0 = cc in omega arith

pub given-laws : {A : Type 0} (b : Bool) (F : Field A) → Laws F → Laws (given b F)
given-laws b F lf = record {
  back = λ o t h. given-back b F lf o t h;
  forth = λ s o n hs e. given-forth b F lf s o n hs e;
  room = λ s o n e. given-room b F lf s o n e;
}

-- a good one is Some exactly where it is to be there
pub given-there : {A : Type 0} (b : Bool) (F : Field A) (o : Option A) → (given b F).ok o ≡ true → is_some o ≡ b
given-there true F None h = true-not-false false h refl
given-there false F None h = refl
given-there true F (Some x) h = refl
given-there false F (Some x) h = true-not-false false h refl

-- the second field must not depend on what tidying the first clears
pub seq-laws : {A B : Type 0} (F : Field A) (G : A → Field B) → ((a : A) → F.ok a ≡ true → G (F.tidy a) ≡ G a) → Laws F → ((a : A) → Laws (G a)) → Laws (seq F G)
seq-laws F G blind lf lg = record {
  back = λ x t h.
      let q = (G x.0).print x.1 in
      let good = and_left _ _ h in
      let e1 = lf.back x.0 (q ++ t) good in
      let e2 = (lg x.0).back x.1 t (and_right (F.ok x.0) _ h) in
      rw (append_assoc, e1, drop-append_seam, blind x.0 good, e2, length-append);
  forth = λ s x m hs e.
      let b1 = bound (F.parse s) (λ a n. bind ((G a).parse (drop n s)) (λ b k. got (a, b) (n + k))) x m e in
      let b2 = bound ((G b1.val).parse (drop b1.used s)) (λ b k. got (b1.val, b) (b1.used + k)) x m b1.next in
      let r = lf.forth s b1.val b1.used hs b1.first in
      let q = (lg b1.val).forth (drop b1.used s) b2.val b2.used (bytes_drop b1.used s hs) b2.first in
      let w = after F (G b1.val) s b1.val b1.used b2.val b2.used r q in
      let ex : x ≡ (b1.val, b2.val) = cc in
      let em : m ≡ b1.used + b2.used = cc in
      moved (seq F G) s x (b1.val, b2.val) m (b1.used + b2.used) ex em (record {
        good = and_both _ _ r.good q.good;
        tidied = pair_eq r.tidied q.tidied;
        size = w.0;
        same = w.1;
      });
  room = λ s x m e.
      let b1 = bound (F.parse s) (λ a n. bind ((G a).parse (drop n s)) (λ b k. got (a, b) (n + k))) x m e in
      let b2 = bound ((G b1.val).parse (drop b1.used s)) (λ b k. got (b1.val, b) (b1.used + k)) x m b1.next in
      let em : m ≡ b1.used + b2.used = cc in
      omega (arith, lf.room s b1.val b1.used b1.first, (lg b1.val).room (drop b1.used s) b2.val b2.used b2.first, length-drop b1.used s);
}

-- the second value tells the first, and the first is tidy as it is
pub tagged-laws : {A B : Type 0} (key : B → A) (F : Field A) (G : A → Field B)
    → ((a : A) (b : B) → (G a).ok b ≡ true → key b ≡ a) → ((a : A) → F.ok a ≡ true → F.tidy a ≡ a) → Laws F → ((a : A) → Laws (G a)) → Laws (tagged key F G)
tagged-laws key F G told plain lf lg = record {
  back = λ b t h.
      let q = (G (key b)).print b in
      let good = and_left _ _ h in
      let e1 = lf.back (key b) (q ++ t) good in
      let e2 = (lg (key b)).back b t (and_right (F.ok (key b)) _ h) in
      rw (append_assoc, e1, drop-append_seam, plain (key b) good, e2, length-append);
  forth = λ s x m hs e.
      let b1 = bound (F.parse s) (λ a n. bind ((G a).parse (drop n s)) (λ b k. got b (n + k))) x m e in
      let b2 = bound ((G b1.val).parse (drop b1.used s)) (λ b k. got b (b1.used + k)) x m b1.next in
      let r = lf.forth s b1.val b1.used hs b1.first in
      let q = (lg b1.val).forth (drop b1.used s) b2.val b2.used (bytes_drop b1.used s hs) b2.first in
      let w = after F (G b1.val) s b1.val b1.used b2.val b2.used r q in
      let ex : x ≡ b2.val = cc in
      let em : m ≡ b1.used + b2.used = cc in
      let ek : key b2.val ≡ b1.val = told b1.val b2.val q.good in
      moved (tagged key F G) s x b2.val m (b1.used + b2.used) ex em (record {
        good = rw ek (and_both _ _ r.good q.good);
        tidied = ap (λ k. (G k).tidy b2.val) ek ∙ q.tidied;
        size = rw ek w.0;
        same = rw ek w.1;
      });
  room = λ s x m e.
      let b1 = bound (F.parse s) (λ a n. bind ((G a).parse (drop n s)) (λ b k. got b (n + k))) x m e in
      let b2 = bound ((G b1.val).parse (drop b1.used s)) (λ b k. got b (b1.used + k)) x m b1.next in
      let em : m ≡ b1.used + b2.used = cc in
      omega (arith, lf.room s b1.val b1.used b1.first, (lg b1.val).room (drop b1.used s) b2.val b2.used b2.first, length-drop b1.used s);
}

-- what was read comes back out of the way in which it is held
pub through-laws : {A B : Type 0} (to : A → B) (from : B → A) (holds : B → Bool) (F : Field A)
    → ((a : A) → F.ok a ≡ true → (from (to a) ≡ a) × (holds (to a) ≡ true)) → Laws F → Laws (through to from holds F)
through-laws to from holds F out lf = record {
  back = λ b t h. rw (lf.back (from b) t (and_right (holds b) _ h));
  forth = λ s b n hs e.
      let b1 = bound (F.parse s) (λ a n. got (to a) n) b n e in
      let r = lf.forth s b1.val b1.used hs b1.first in
      let eb : b ≡ to b1.val = cc in
      let en : n ≡ b1.used = cc in
      let w = out b1.val r.good in
      moved (through to from holds F) s b (to b1.val) n b1.used eb en (record {
        good = and_both _ _ w.1 (rw w.0 r.good);
        tidied = rw (w.0, r.tidied);
        size = r.size ∙ ap (λ a. length (F.print a)) (sym w.0);
        same = r.same ∙ ap (λ a. F.print a ++ drop b1.used s) (sym w.0);
      });
  room = λ s b n e.
      let b1 = bound (F.parse s) (λ a n. got (to a) n) b n e in
      let en : n ≡ b1.used = cc in
      omega (arith, lf.room s b1.val b1.used b1.first);
}

-- ---- lists

many-back : {A : Type 0} (F : Field A) → Laws F → (l : List A) (t : List ℕ) → every F.ok l ≡ true
    → many_parse F (length l) (many_print F l ++ t) ≡ got (map F.tidy l) (length (many_print F l))
many-back F lf [] t h = refl
many-back F lf (a ∷ l) t h =
    rw (append_assoc, lf.back a (many_print F l ++ t) (and_left _ _ h), drop-append_seam, many-back F lf l t (and_right (F.ok a) _ h), length-append)

many-forth : {A : Type 0} (F : Field A) → Laws F → (k : ℕ) (s : List ℕ) (l : List A) (n : ℕ) → Bytes s → many_parse F k s ≡ got l n → Read (many F k) s l n
many-forth F lf zero s l n hs e =
    let el : l ≡ [] = cc in
    let en : n ≡ 0 = cc in
    moved (many F zero) s l [] n 0 el en (record { good = refl; tidied = refl; size = refl; same = refl })
many-forth F lf (suc k) s x m hs e =
    let b1 = bound (F.parse s) (λ a n. bind (many_parse F k (drop n s)) (λ l j. got (a ∷ l) (n + j))) x m e in
    let b2 = bound (many_parse F k (drop b1.used s)) (λ l j. got (b1.val ∷ l) (b1.used + j)) x m b1.next in
    let r = lf.forth s b1.val b1.used hs b1.first in
    let q = many-forth F lf k (drop b1.used s) b2.val b2.used (bytes_drop b1.used s hs) b2.first in
    let w = after F (many F k) s b1.val b1.used b2.val b2.used r q in
    let ex : x ≡ b1.val ∷ b2.val = cc in
    let em : m ≡ b1.used + b2.used = cc in
    let el : length b2.val ≡ k = eqb-true _ _ (and_left _ _ q.good) in
    moved (many F (suc k)) s x (b1.val ∷ b2.val) m (b1.used + b2.used) ex em (record {
      good = and_both _ _ (eq-eqb _ _ (ap suc el)) (and_both _ _ r.good (and_right (length b2.val =? k) _ q.good));
      tidied = list-eq r.tidied q.tidied;
      size = w.0;
      same = w.1;
    })

many-room : {A : Type 0} (F : Field A) → Laws F → (k : ℕ) (s : List ℕ) (l : List A) (n : ℕ) → many_parse F k s ≡ got l n → n ≤ length s
many-room F lf zero s l n e = let en : n ≡ 0 = cc in omega arith
many-room F lf (suc k) s x m e =
    let b1 = bound (F.parse s) (λ a n. bind (many_parse F k (drop n s)) (λ l j. got (a ∷ l) (n + j))) x m e in
    let b2 = bound (many_parse F k (drop b1.used s)) (λ l j. got (b1.val ∷ l) (b1.used + j)) x m b1.next in
    let em : m ≡ b1.used + b2.used = cc in
    omega (arith, lf.room s b1.val b1.used b1.first, many-room F lf k (drop b1.used s) b2.val b2.used b2.first, length-drop b1.used s)

pub many-laws : {A : Type 0} (F : Field A) (k : ℕ) → Laws F → Laws (many F k)
many-laws F k lf = record {
  back = λ l t h. rw (← eqb-true (length l) k (and_left _ _ h)) (many-back F lf l t (and_right (length l =? k) _ h));
  forth = λ s l n hs e. many-forth F lf k s l n hs e;
  room = λ s l n e. many-room F lf k s l n e;
}

-- ---- a signed number

pub signed-laws : Laws signed_num
signed-laws = through-laws from_twos twos (λ z. mag z <? 2 ^ 63) (num 8)
    (λ v h.
    let f : Fits w64 v = record { fits = ltb-true v (256 ^ 8) h } in
    (twos-kit (from_twos v) ∙ ap bits64 (from-kit v) ∙ of_z-to_z w64 v f, ap (λ z. mag z <? 2 ^ 63) (from-kit v) ∙ lt-ltb _ _ (to_z-Fits w64 v f).sfits))
    (num_laws 8)

pub signed-short : (s : List ℕ) → length s < 8 → signed_num.parse s ≡ bad
signed-short s h = rw (num-short 8 s h)

pub signed-read : (s : List ℕ) (v : ℕ) → 8 ≤ length s → v ≡ little (take 8 s) → signed_num.parse s ≡ got (from_twos v) 8
signed-read s v h e = rw (num-read 8 s v h e)

-- the reader of a signed number finds what the field finds
pub signed-as : (s : List ℕ) → read_as from_twos ((num 8).parse s) ≡ read_as (λ (z : ℤ). z) (signed_num.parse s)
signed-as s = go ((num 8).parse s)
  where
    go : (x : Res ℕ) → read_as from_twos x ≡ read_as (λ (z : ℤ). z) (bind x (λ a n. got (from_twos a) n))
    go bad = refl
    go (got a n) = refl
