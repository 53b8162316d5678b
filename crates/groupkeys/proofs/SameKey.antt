-- Equality of keys is an equivalence. Whoever keeps groups by key uses these laws and not what equality is made of.
use Rattle.std.specs.Prelude.{if◌then◌else◌}
use Prim.Native.Nat.{ℕ}
use mathlib.Core.Path.{◌≡◌, refl, sym, ◌∙◌}
use mathlib.Core.Bool.{Bool, true, false}
use mathlib.Core.List.{List}
use borrow.Author.Tests.{eq-eqb, eqb-true}
use Rattle.octets.specs.Words.{◌and◌, no, ◌=?◌}
use Rattle.octets.proofs.Tests.{and_left, and_right, and_both, true-not-false}
use Rattle.callsigns.specs.Callsign.{same_call}
use Rattle.callsigns.proofs.SameCall.{same_call-refl, same_call-sym, same_call-trans}
use Rattle.groupkeys.specs.declared.Key.{Key}
use Rattle.groupkeys.specs.Key.{originator_of, same_originator, same_key}

-- two texts, each there or absent, are equal
abbrev both : Bool → Bool → List ℕ → List ℕ → Bool
both a b s t = if a then b and same_call s t else no b

both_refl : (a : Bool) (s : List ℕ) → both a a s s ≡ true
both_refl true s = same_call-refl s
both_refl false s = refl

both-sym : (a b : Bool) (s t : List ℕ) → both a b s t ≡ true → both b a t s ≡ true
both-sym true true s t e = same_call-sym s t e
both-sym true false s t e = e
both-sym false true s t e = true-not-false false e refl
both-sym false false s t e = refl

both-trans : (a b c : Bool) (s t u : List ℕ) → both a b s t ≡ true → both b c t u ≡ true → both a c s u ≡ true
both-trans true true true s t u e f = same_call-trans s t u e f
both-trans true true false s t u e f = f
both-trans true false c s t u e f = true-not-false false e refl
both-trans false true c s t u e f = true-not-false false e refl
both-trans false false c s t u e f = f

module _ (j k : Key) (e : same_key j k ≡ true) where
  masters : j.master ≡ k.master
  unfolding same_key
  masters = eqb-true j.master k.master (and_left _ (same_originator j k) e)

  origins : same_originator j k ≡ true
  unfolding same_key
  origins = and_right (j.master =? k.master) _ e

pub same_key-refl : (k : Key) → same_key k k ≡ true
unfolding same_key
same_key-refl k = and_both _ _ (eq-eqb k.master k.master refl) (both_refl k.has_originator (originator_of k))

pub same_key-sym : (j k : Key) → same_key j k ≡ true → same_key k j ≡ true
unfolding same_key
same_key-sym j k e = and_both _ _ (eq-eqb _ _ (sym (masters j k e))) (both-sym j.has_originator k.has_originator (originator_of j) (originator_of k) (origins j k e))

pub same_key-trans : (i j k : Key) → same_key i j ≡ true → same_key j k ≡ true → same_key i k ≡ true
unfolding same_key
same_key-trans i j k e f =
    and_both _ _ (eq-eqb _ _ (masters i j e ∙ masters j k f))
    (both-trans i.has_originator j.has_originator k.has_originator (originator_of i) (originator_of j) (originator_of k) (origins i j e) (origins j k f))
