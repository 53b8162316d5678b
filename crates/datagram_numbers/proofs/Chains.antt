-- Fields one after the other: each is read from the part that begins where the last one ended, as the code lends it.
use Rattle.std.proofs.Common.{ℕ, ◌+◌, ◌-◌, ◌≤◌, ◌≡◌, refl, List, length, take, drop, Option, Some, None, arith, length-drop, ap, sym, ◌∙◌}
use Rattle.std.specs.Option.{option_map}
use lib.Seq.{take_all}
use Rattle.octets.specs.Field.{Res, bad, got, Field, seq}
use Rattle.octets.specs.Reading.{read_as}
use Rattle.octets.proofs.FieldLaws.{Laws}
use Rattle.datagram_numbers.specs.Found.{finding, joined}

-- the part behind the first k bytes, as the code lends it
abbrev pub tail : ℕ → List ℕ → List ℕ
tail k d = take (length d - k) (drop k d)

pub rest : (k : ℕ) (d : List ℕ) → tail k d ≡ drop k d
rest k d = take_all (length d - k) (drop k d) (rw length-drop (omega arith))

pub tail-length : (k : ℕ) (d : List ℕ) → length (tail k d) ≡ length d - k
tail-length k d = rw (rest k d) (length-drop k d)

-- ---- what a reader answered tells what reading found

pub none-read : {A B : Type 0} (f : A → B) (x : Res A) (o : Option (B × ℕ)) → o ≡ read_as f x → o ≡ None → x ≡ bad
none-read f bad o e h = refl
none-read f (got a n) o e h = cc

-- `back` gives the value that is held
pub some-read : {A B : Type 0} (f : A → B) (back : B → A) (x : Res A) (o : Option (B × ℕ)) (b : B) (n : ℕ) → ((a : A) → back (f a) ≡ a)
    → o ≡ read_as f x → o ≡ Some (b, n) → x ≡ got (back b) n
some-read f back bad o b n l e h = cc
some-read {A} {B} f back (got a m) o b n l e h =
    let p : ◌≡◌ {A = B × ℕ} (f a, m) (b, n) = cc in
    let z : f a ≡ b = ap (λ (q : B × ℕ). q.0) p in
    let y : m ≡ n = ap (λ (q : B × ℕ). q.1) p in
    rw y (ap (λ v. got v n) (sym (l a) ∙ ap back z))

-- and it took no more than there is
pub room-read : {A B : Type 0} (F : Field A) (f : A → B) (s : List ℕ) (o : Option (B × ℕ)) (b : B) (n : ℕ) → Laws F → o ≡ read_as f (F.parse s) → o ≡ Some (b, n) → n ≤ length s
room-read {A} {B} F f s o b n lf e h = go (F.parse s) refl
  where
    go : (x : Res A) → F.parse s ≡ x → n ≤ length s
    go bad q = let z : o ≡ None = e ∙ ap (read_as f) q in cc
    go (got a m) q =
        let z : o ≡ Some (f a, m) = e ∙ ap (read_as f) q in
        let p : ◌≡◌ {A = B × ℕ} (f a, m) (b, n) = cc in
        let y : m ≡ n = ap (λ (q : B × ℕ). q.1) p in
        rw (← y) (lf.room s a m q)

-- what two, three and four fields take is there
pub room-two : (n m : ℕ) (s : List ℕ) → n ≤ length s → m ≤ length (tail n s) → n + m ≤ length s
room-two n m s a b = omega (arith, tail-length n s)

pub room-three : (n m j : ℕ) (s : List ℕ) → n ≤ length s → m ≤ length (tail n s) → j ≤ length (tail m (tail n s)) → n + m + j ≤ length s
room-three n m j s a b c = omega (arith, tail-length n s, tail-length m (tail n s))

pub room-four : (n m j i : ℕ) (s : List ℕ) → n ≤ length s → m ≤ length (tail n s) → j ≤ length (tail m (tail n s)) → i ≤ length (tail j (tail m (tail n s)))
    → n + m + j + i ≤ length s
room-four n m j i s a b c d = omega (arith, tail-length n s, tail-length m (tail n s), tail-length j (tail m (tail n s)))

-- ---- fields one after the other, each in the part behind the last: found with the bytes of all, not there where one of them is not

-- what a reader answers, held in a struct of the code or as it is, taken back to the field's value
pub is-finding : {A B : Type 0} (F : Field A) (held : A → B) (back : B → A) (s : List ℕ) (o : Option (B × ℕ)) → ((v : A) → back (held v) ≡ v)
    → Laws F → o ≡ read_as held (F.parse s) → finding (F.parse s) s (option_map (λ q. (back q.0, q.1)) o)
is-finding F held back s None h l e = none-read held (F.parse s) None e refl
is-finding F held back s (Some q) h l e = (some-read held back (F.parse s) (Some q) q.0 q.1 h e refl, room-read F held s (Some q) q.0 q.1 l e refl)

-- a field, and one that its value tells
seq-found : {A B : Type 0} (F : Field A) (G : A → Field B) (s : List ℕ) (o : Option (A × ℕ)) (p : Option (B × ℕ)) → finding (F.parse s) s o
    → ((q : A × ℕ) → o ≡ Some q → finding ((G q.0).parse (tail q.1 s)) (tail q.1 s) p) → finding ((seq F G).parse s) s (joined o p)
seq-found F G s None p f g = rw f
seq-found F G s (Some q) None f g = rw (f.0, ← rest q.1 s, g q refl)
seq-found F G s (Some q) (Some r) f g = let h = g q refl in (rw (f.0, ← rest q.1 s, h.0), omega (arith, f.1, h.1, tail-length q.1 s))

pub two-found : {A B : Type 0} (F : Field A) (G : Field B) (s : List ℕ) (o : Option (A × ℕ)) (p : Option (B × ℕ)) → finding (F.parse s) s o
    → ((q : A × ℕ) → o ≡ Some q → finding (G.parse (tail q.1 s)) (tail q.1 s) p) → finding ((seq F (λ a. G)).parse s) s (joined o p)
two-found F G s o p f g = seq-found F (λ a. G) s o p f g

pub three-joined : {A B C : Type 0} (F : Field A) (G : Field B) (H : Field C) (s : List ℕ) (o : Option (A × ℕ)) (p : Option (B × ℕ)) (t : Option (C × ℕ))
    → finding (F.parse s) s o → ((q : A × ℕ) → o ≡ Some q → finding (G.parse (tail q.1 s)) (tail q.1 s) p)
    → ((q : A × ℕ) (r : B × ℕ) → o ≡ Some q → p ≡ Some r → finding (H.parse (tail r.1 (tail q.1 s))) (tail r.1 (tail q.1 s)) t)
    → finding ((seq F (λ a. seq G (λ b. H))).parse s) s (joined o (joined p t))
three-joined F G H s o p t f g h =
    seq-found F (λ a. seq G (λ b. H)) s o (joined p t) f (λ q e. two-found G H (tail q.1 s) p t (g q e) (λ r d. h q r e d))

-- four, of which the first tells what the others are
pub four-found : {A B C D : Type 0} (F : Field A) (G : A → Field B) (H : A → Field C) (K : A → Field D) (s : List ℕ)
    (o : Option (A × ℕ)) (p : Option (B × ℕ)) (t : Option (C × ℕ)) (u : Option (D × ℕ)) → finding (F.parse s) s o
    → ((q : A × ℕ) → o ≡ Some q → finding ((G q.0).parse (tail q.1 s)) (tail q.1 s) p)
    → ((q : A × ℕ) (r : B × ℕ) → o ≡ Some q → p ≡ Some r → finding ((H q.0).parse (tail r.1 (tail q.1 s))) (tail r.1 (tail q.1 s)) t)
    → ((q : A × ℕ) (r : B × ℕ) (v : C × ℕ) → o ≡ Some q → p ≡ Some r → t ≡ Some v
    → finding ((K q.0).parse (tail v.1 (tail r.1 (tail q.1 s)))) (tail v.1 (tail r.1 (tail q.1 s))) u)
    → finding ((seq F (λ a. seq (G a) (λ b. seq (H a) (λ c. K a)))).parse s) s (joined o (joined p (joined t u)))
four-found F G H K s o p t u f g h k =
    seq-found F (λ a. seq (G a) (λ b. seq (H a) (λ c. K a))) s o (joined p (joined t u)) f
    (λ q e. three-joined (G q.0) (H q.0) (K q.0) (tail q.1 s) p t u (g q e) (λ r d. h q r e d) (λ r v d c. k q r v e d c))
