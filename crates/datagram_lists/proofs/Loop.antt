-- A list read by a loop: what is left of it is read from the part that is left, and the bytes that it took come on top.
use Prim.Native.Nat.{ℕ, suc, ◌+◌, ◌-◌, ◌<◌}
use mathlib.Core.Path.{◌≡◌, refl, ap, sym, ◌∙◌}
use mathlib.Core.List.{List, ◌∷◌}
use native.Mathlib.Omega.{arith}
use native.Mathlib.Nat.{sub-zero}
use lib.ListN.{drop}
use lib.Seq.{drop-drop}
use Rattle.octets.specs.Field.{Res, bad, got, bind, Field, many_parse}
use Rattle.datagram_numbers.proofs.Chains.{tail, rest}
use Rattle.datagram_lists.specs.Found.{folded, list_from, further}

further-both : {S : Type 0} (n m : ℕ) (x : Res S) → further n (further m x) ≡ further (n + m) x
further-both n m bad = refl
further-both n m (got b j) = let z : n + (m + j) ≡ n + m + j = omega arith in rw z

none-more : {S : Type 0} (x : Res S) → further 0 x ≡ x
none-more bad = refl
none-more (got b j) = let z : 0 + j ≡ j = omega arith in rw z

module _ {A S : Type 0} (F : Field A) (add : S → A → S) where
  one_more : (k n : ℕ) (start : S) (a : A) (x : Res (List A)) → bind (bind x (λ l m. got (a ∷ l) (n + m))) (λ l j. got (folded add start l) j)
      ≡ further n (bind x (λ l j. got (folded add (add start a) l) j))
  one_more k n start a bad = refl
  one_more k n start a (got l j) = refl

  pub loop-start : (k : ℕ) (start now : S) (s : List ℕ) → now ≡ start → list_from F add k start s ≡ further 0 (list_from F add (k - 0) now (drop 0 s))
  unfolding list_from
  loop-start k start now s e = rw (e, sub-zero) (sym (none-more (list_from F add k start s)))

  pub loop-next : (k i at n : ℕ) (now next : S) (a : A) (s : List ℕ) (x : Res S) → i < k → x ≡ further at (list_from F add (k - i) now (drop at s))
      → F.parse (tail at s) ≡ got a n → next ≡ add now a → x ≡ further (at + n) (list_from F add (k - (i + 1)) next (drop (at + n) s))
  unfolding list_from
  loop-next k i at n now next a s x h e f g =
      let z : k - i ≡ suc (k - (i + 1)) = omega arith in
      let p : F.parse (drop at s) ≡ got a n = ap F.parse (sym (rest at s)) ∙ f in
      e ∙ rw (z, p, g, drop-drop n at s) (ap (further at) (one_more k n now a (many_parse F (k - (i + 1)) (drop (at + n) s)))
      ∙ further-both at n (bind (many_parse F (k - (i + 1)) (drop (at + n) s)) (λ l j. got (folded add (add now a) l) j)))

  pub loop-none : (k i at : ℕ) (now : S) (s : List ℕ) (x : Res S) → i < k → x ≡ further at (list_from F add (k - i) now (drop at s)) → F.parse (tail at s) ≡ bad → x ≡ bad
  unfolding list_from
  loop-none k i at now s x h e f =
      let z : k - i ≡ suc (k - (i + 1)) = omega arith in
      let p : F.parse (drop at s) ≡ bad = ap F.parse (sym (rest at s)) ∙ f in
      e ∙ rw (z, p)

  pub loop-end : (k i at : ℕ) (now : S) (s : List ℕ) (x : Res S) → i ≡ k → x ≡ further at (list_from F add (k - i) now (drop at s)) → x ≡ got now at
  unfolding list_from
  loop-end k i at now s x h e =
      let z : k - i ≡ 0 = omega arith in
      let y : at + 0 ≡ at = omega arith in
      e ∙ rw (z, y)
