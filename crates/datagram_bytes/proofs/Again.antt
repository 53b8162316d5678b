-- An accepted datagram, written again, has the same bytes; it is valid, and has at most 6,205 of them.
use Rattle.std.specs.Prelude.{if◌then◌else◌}
use Prim.Native.Nat.{ℕ, suc, ◌+◌, ◌≤◌}
use mathlib.Core.Path.{◌≡◌, refl, ap, sym, ◌∙◌}
use mathlib.Core.Bool.{Bool, true, false}
use mathlib.Core.List.{List, [], ◌∷◌, ◌++◌}
use native.Mathlib.Omega.{arith}
use borrow.Author.Tests.{ltb-false, eqb-true}
use lib.ListN.{length, take, drop, length-drop}
use lib.Seq.{drop-drop, take_all}
use Rattle.octets.specs.Words.{◌<?◌, ◌≤?◌, ◌=?◌, no}
use Rattle.octets.specs.Numbers.{little}
use Rattle.octets.specs.Bytes.{Bytes}
use Rattle.octets.specs.Field.{Res, bad, got, num}
use Rattle.octets.proofs.FieldLaws.{Read, num_laws, picked}
use Rattle.octets.proofs.NumberLaws.{bytes_drop}
use Rattle.octets.proofs.Tests.{and_left, and_right}
use Rattle.layout.specs.declared.Datagram.{Datagram}
use Rattle.layout.specs.Rules.{valid}
use Rattle.layout.specs.Layout.{layout, message}
use Rattle.layout.proofs.Valid.{message-laws}
use Rattle.datagram.specs.Answer.{Verdict, readable, refused_with, Said, accepted, refused, after_length, after_fields, read_of}
use Rattle.datagram_bytes.specs.Bytes.{bytes_of}

-- a refusal is no accepted datagram
abbrev is_read : Verdict → ℕ
is_read readable = 1
is_read (refused_with n) = 0

no_answer : {A : Type 0} (r : ℕ) (m : Datagram) (at n : ℕ) → refused r ≡ accepted m at n → A
no_answer r m at n e = let z : ◌≡◌ {A = ℕ} 0 1 = ap (λ (x : Said). is_read x.reading) e in absurd (omega arith)

-- what was read on the way to an accepted datagram
pub record Whole (d : List ℕ) (m : Datagram) (at n : ℕ) : Type 0 where
  pub rest : List ℕ
  pub used : ℕ
  pub version : d ≡ 7 ∷ rest
  pub fields : message.parse rest ≡ got m used
  pub size : (num 4).parse (drop used rest) ≡ got n 4
  pub small : n ≤ 4096
  pub place : at ≡ 1 + used + 4
  pub ends : at + n ≡ length d

length-four : (s : List ℕ) (n k : ℕ) → (num 4).parse s ≡ got n k → k ≡ 4
length-four s n k e = let p = picked (4 ≤? length s) (got (little (take 4 s)) 4) n k e in let q = p.1 in cc

-- the payload's length and the payload
record Length (d : List ℕ) (m : Datagram) (at n : ℕ) (m' : Datagram) (u : ℕ) (r : Res ℕ) : Type 0 where
  pub same : m' ≡ m
  pub took : ℕ
  pub is : r ≡ got n took
  pub small : n ≤ 4096
  pub place : at ≡ 1 + u + took
  pub ends : at + n ≡ length d

by_length : (d : List ℕ) (m : Datagram) (at n : ℕ) (m' : Datagram) (u : ℕ) (r : Res ℕ) → after_length d m' (1 + u) r ≡ accepted m at n → Length d m at n m' u r
by_length d m at n m' u bad e = no_answer 7 m at n e
by_length d m at n m' u (got v k) e = go (4096 <? v) refl (1 + u + k + v =? length d) refl e
  where
    go : (b : Bool) → (4096 <? v) ≡ b → (c : Bool) → (1 + u + k + v =? length d) ≡ c
        → (if b then refused 4 else (if c then accepted m' (1 + u + k) v else refused 7)) ≡ accepted m at n → Length d m at n m' u (got v k)
    go true p c q e = no_answer 4 m at n e
    go false p false q e = no_answer 7 m at n e
    go false p true q e =
        let a : 1 + u + k ≡ at = ap (λ (x : Said). x.payload_at) e in
        let l : v ≡ n = ap (λ (x : Said). x.payload_len) e in
        record {
          same = ap (λ (x : Said). x.message) e;
          took = k;
          is = ap (λ (w : ℕ). got w k) l;
          small = omega (arith, l, ltb-false 4096 v p);
          place = sym a;
          ends = omega (arith, a, l, eqb-true (1 + u + k + v) (length d) q);
        }

by-fields : (d s : List ℕ) (m : Datagram) (at n : ℕ) (r : Res Datagram) → d ≡ 7 ∷ s → message.parse s ≡ r → after_fields d r ≡ accepted m at n → Whole d m at n
by-fields d s m at n bad v f e = no_answer 7 m at n e
by-fields d s m at n (got m' u) v f e =
    let l = by_length d m at n m' u ((num 4).parse (drop (1 + u) d)) e in
    let z : 1 + u ≡ suc u = omega arith in
    let q : drop (1 + u) d ≡ drop u s = rw (z, v) in
    let p : (num 4).parse (drop u s) ≡ got n l.took = ap (num 4).parse (sym q) ∙ l.is in
    let k = length-four (drop u s) n l.took p in
    record {
      rest = s;
      used = u;
      version = v;
      fields = f ∙ ap (λ (x : Datagram). got x u) l.same;
      size = p ∙ ap (λ (x : ℕ). got n x) k;
      small = l.small;
      place = l.place ∙ ap (λ (x : ℕ). 1 + u + x) k;
      ends = l.ends;
    }

pub whole : (d : List ℕ) (m : Datagram) (at n : ℕ) → read_of d ≡ accepted m at n → Whole d m at n
unfolding read_of
whole [] m at n e = no_answer 6 m at n e
whole (x ∷ s) m at n e = go (x =? 7) refl e
  where
    go : (b : Bool) → (x =? 7) ≡ b → (if no b then refused 6 else after_fields (x ∷ s) (message.parse s)) ≡ accepted m at n → Whole (x ∷ s) m at n
    go true p e = by-fields (x ∷ s) s m at n (message.parse s) (ap (λ (y : ℕ). y ∷ s) (eqb-true x 7 p)) refl e
    go false p e = no_answer 6 m at n e

behind-length : (d s : List ℕ) (at u : ℕ) → d ≡ 7 ∷ s → at ≡ 1 + u + 4 → drop at d ≡ drop 4 (drop u s)
behind-length d s at u v p = let z : 1 + u + 4 ≡ suc (u + 4) = omega arith in rw (p, v, z) (sym (drop-drop 4 u s))

written-again : (d s : List ℕ) (m : Datagram) (at n u : ℕ) → d ≡ 7 ∷ s → at ≡ 1 + u + 4 → at + n ≡ length d → Read message s m u → Read (num 4) (drop u s) n 4
    → bytes_of m (take n (drop at d)) ≡ d
unfolding bytes_of message
written-again d s m at n u v p ends r l =
    let q = drop 4 (drop u s) in
    let dp = behind-length d s at u v p in
    let len : length q ≡ n = sym (ap length dp) ∙ length-drop at d ∙ omega (arith, ends) in
    let tp : take n (drop at d) ≡ q = ap (take n) dp ∙ take_all n q (omega (arith, len)) in
    rw (tp, len) (ap (λ (x : List ℕ). 7 ∷ x) (ap (λ (x : List ℕ). layout.print m ++ x) (sym l.same) ∙ sym r.same) ∙ sym v)

module _ (d : List ℕ) (m : Datagram) (at n : ℕ) (hd : Bytes d) (e : read_of d ≡ accepted m at n) where
  read-fields : Read message (whole d m at n e).rest m (whole d m at n e).used
  read-fields =
      let w = whole d m at n e in
      message-laws.forth w.rest m w.used (λ i. rw w.version at (hd (suc i))) w.fields

  -- what is accepted is valid
  pub accepted-valid : valid m ≡ true
  unfolding message
  accepted-valid = and_right (layout.ok m) (valid m) read-fields.good

  pub accepted-good : layout.ok m ≡ true
  unfolding message
  accepted-good = and_left (layout.ok m) (valid m) read-fields.good

  pub accepted-tidy : message.tidy m ≡ m
  accepted-tidy = read-fields.tidied

  -- written again, the same bytes
  pub same_bytes : bytes_of m (take n (drop at d)) ≡ d
  same_bytes =
      let w = whole d m at n e in
      let hs : Bytes w.rest = λ i. rw w.version at (hd (suc i)) in
      written-again d w.rest m at n w.used w.version w.place w.ends read-fields
      ((num_laws 4).forth (drop w.used w.rest) n 4 (bytes_drop w.used w.rest hs) w.size)
