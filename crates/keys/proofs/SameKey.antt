-- Equality of keys is an equivalence. Whoever keeps rows by key uses these laws and not what equality is made of.
use Prim.Native.Nat.{ℕ}
use mathlib.Core.Path.{◌≡◌, refl, sym, ap}
use mathlib.Core.Bool.{Bool, true, false}
use mathlib.Core.List.{List}
use Rattle.octets.specs.Bytes.{same}
use Rattle.octets.proofs.Tests.{and_left, and_right, and_both, and-next, and-not-left, true-not-false}
use Rattle.octets.proofs.Lists.{same_refl, same-eq, same-sym, same-trans}
use Rattle.callsigns.specs.Callsign.{same_call}
use Rattle.callsigns.proofs.SameCall.{same_call-refl, same_call-sym, same_call-trans}
use Rattle.keys.specs.declared.Key.{Key}
use Rattle.keys.specs.Key.{originator_of, stream_id_of, same_key, mark_of}

pub same_key-refl : (k : Key) → same_key k k ≡ true
unfolding same_key
same_key-refl k = and_both _ _ (same_call-refl (originator_of k)) (same_refl (stream_id_of k))

module _ (j k : Key) (e : same_key j k ≡ true) where
  calls : same_call (originator_of j) (originator_of k) ≡ true
  unfolding same_key
  calls = and_left _ (same (stream_id_of j) (stream_id_of k)) e

  ids : same (stream_id_of j) (stream_id_of k) ≡ true
  unfolding same_key
  ids = and_right (same_call (originator_of j) (originator_of k)) _ e

pub same_key-sym : (j k : Key) → same_key j k ≡ true → same_key k j ≡ true
unfolding same_key
same_key-sym j k e = and_both _ _ (same_call-sym _ _ (calls j k e)) (same-sym (stream_id_of j) (stream_id_of k) (ids j k e))

pub same_key-trans : (i j k : Key) → same_key i j ≡ true → same_key j k ≡ true → same_key i k ≡ true
unfolding same_key
same_key-trans i j k e f = and_both _ _ (same_call-trans _ _ _ (calls i j e) (calls j k f)) (same-trans (stream_id_of i) (stream_id_of j) (stream_id_of k) (ids i j e) (ids j k f))

-- equal keys are equal to the same keys
pub same_key-other : (i j k : Key) → same_key i j ≡ true → same_key i k ≡ same_key j k
same_key-other i j k e = go (same_key i k) (same_key j k) refl refl
  where
    go : (x y : Bool) → same_key i k ≡ x → same_key j k ≡ y → x ≡ y
    go true true p q = refl
    go false false p q = refl
    go true false p q = true-not-false (same_key j k) (same_key-trans j i k (same_key-sym i j e) p) q
    go false true p q = true-not-false (same_key i k) (same_key-trans i j k e q) p

-- equal keys have equal marks
pub marks-same : (j k : Key) → same_key j k ≡ true → mark_of (stream_id_of j) ≡ mark_of (stream_id_of k)
marks-same j k e = ap mark_of (same-eq (stream_id_of j) (stream_id_of k) (ids j k e))

-- ---- what the code's tests of two keys come to, a and b being the originators
module _ (j k : Key) (a b : List ℕ) (p : a ≡ originator_of j) (q : b ≡ originator_of k) where
  pub calls-differ : same_call a b ≡ false → false ≡ same_key j k
  unfolding same_key
  calls-differ e = let h : same_call (originator_of j) (originator_of k) ≡ false = rw (← p, ← q) e in sym (and-not-left _ _ h)

  pub calls_same : same_call a b ≡ true → (c d : List ℕ) → c ≡ stream_id_of j → d ≡ stream_id_of k → same c d ≡ same_key j k
  unfolding same_key
  calls_same e c d f g = let h : same_call (originator_of j) (originator_of k) ≡ true = rw (← p, ← q) e in rw (f, g) (sym (and-next _ _ h))
