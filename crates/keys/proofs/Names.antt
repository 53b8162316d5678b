-- Names in their arrays: a name is copied to the front of zeros, and is read back from there.
use mathlib.Core.Path.{◌≡◌, refl, ap, ◌∙◌}
use Prim.Native.Nat.{ℕ, zero, suc, ◌+◌, ◌-◌, ◌≤◌}
use native.Mathlib.Omega.{arith}
use mathlib.Core.Bool.{Bool, true}
use mathlib.Core.List.{List, [], ◌∷◌}
use lib.ListN.{length, take, drop, replicate, length-append, length-drop, length-replicate}
use lib.Seq.{take-append_seam, drop-append_seam}
use borrow.Author.Tests.{eq-eqb, eqb-true, le-leb}
use Rattle.octets.specs.Words.{◌and◌, ◌≤?◌, ◌=?◌}
use Rattle.octets.specs.Bytes.{front, placed, all_zero}
use Rattle.octets.proofs.Tests.{and_left, and_right, and_both}
use Rattle.octets.proofs.Lists.{placed-in}
use Rattle.callsigns.specs.Callsign.{callsign}
use Rattle.names.specs.Texts.{stream_id}
use Rattle.names.proofs.Lengths.{stream_id-short}
use Rattle.callsigns.proofs.Lengths.{callsign-short}
use Rattle.keys.specs.declared.Key.{Key}
use Rattle.keys.specs.Key.{originator_of, stream_id_of, key_of, no_key, is_no_key, holds_name, keeps_key}

-- copied to the place 0, a name stands in the front
pub copied : (name buffer : List ℕ) → length name ≤ length buffer → placed name 0 buffer ≡ front name buffer
copied name buffer h = let z : 0 + length name ≡ length name = omega arith in placed-in name 0 buffer (omega arith) ∙ rw z

zeros-replicate : (n : ℕ) → all_zero (replicate n 0) ≡ true
zeros-replicate zero = refl
zeros-replicate (suc n) = zeros-replicate n

zeros-drop : (n m : ℕ) → all_zero (drop n (replicate m 0)) ≡ true
zeros-drop zero m = zeros-replicate m
zeros-drop (suc n) zero = refl
zeros-drop (suc n) (suc m) = zeros-drop n m

pub zeros-are : (l : List ℕ) (n : ℕ) → length l ≡ n → all_zero l ≡ true → l ≡ replicate n 0
zeros-are l n e z = go l z ∙ ap (λ (k : ℕ). replicate k 0) e
  where
    go : (l : List ℕ) → all_zero l ≡ true → l ≡ replicate (length l) 0
    go [] z = refl
    go (x ∷ l) z = let p = eqb-true x 0 (and_left (x =? 0) _ z) in let q = go l (and_right (x =? 0) _ z) in cc

-- a name in the front of zeros is a name that its array holds
holds-front : (size : ℕ) (valid : List ℕ → Bool) (name : List ℕ) → valid name ≡ true → length name ≤ size → holds_name size valid (length name) (front name (replicate size 0)) ≡ true
holds-front size valid name v h =
    let l : length (front name (replicate size 0)) ≡ size =
    length-append name _ ∙ ap (λ (k : ℕ). length name + k) (length-drop (length name) (replicate size 0)) ∙ ap (λ (k : ℕ). length name + (k - length name)) (length-replicate size 0) ∙ omega arith in
    and_both _ _ (eq-eqb _ _ l)
    (and_both _ _ (le-leb _ _ h)
    (and_both _ _ (ap valid (take-append_seam name _) ∙ v) (ap all_zero (drop-append_seam name _) ∙ zeros-drop (length name) size)))

module _ (o s : List ℕ) where
  pub originator-back : originator_of (key_of o s) ≡ o
  unfolding key_of
  originator-back = take-append_seam o _

  pub id-back : stream_id_of (key_of o s) ≡ s
  unfolding key_of
  id-back = take-append_seam s _

  -- the key of two valid names keeps the rules
  pub key-keeps : callsign o ≡ true → stream_id s ≡ true → keeps_key (key_of o s) ≡ true
  unfolding keeps_key key_of
  key-keeps c d = and_both _ _ (holds-front 12 callsign o c (callsign-short o c)) (holds-front 255 stream_id s d (stream_id-short s d))

-- a key of zeros is `no_key`
pub no-key : (k : Key) → is_no_key k ≡ true → k ≡ no_key
unfolding is_no_key
no-key k e =
    let l = and_left (length k.originator =? 12 and length k.stream_id =? 255) _ e in
    let e1 = and_right (length k.originator =? 12 and length k.stream_id =? 255) _ e in
    let e2 = and_right (k.originator_len =? 0) _ e1 in
    let e3 = and_right (k.stream_id_len =? 0) _ e2 in
    let n = eqb-true k.originator_len 0 (and_left _ _ e1) in
    let m = eqb-true k.stream_id_len 0 (and_left _ _ e2) in
    let a = zeros-are k.originator 12 (eqb-true (length k.originator) 12 (and_left _ _ l)) (and_left (all_zero k.originator) _ e3) in
    let b = zeros-are k.stream_id 255 (eqb-true (length k.stream_id) 255 (and_right (length k.originator =? 12) _ l)) (and_right (all_zero k.originator) _ e3) in
    λ i. record { originator = a i; originator_len = n i; stream_id = b i; stream_id_len = m i }

-- what a valid key's names are
pub key-names : (k : Key) → keeps_key k ≡ true → (callsign (originator_of k) ≡ true) × (stream_id (stream_id_of k) ≡ true)
unfolding keeps_key
key-names k e = (
  valid 12 callsign k.originator_len k.originator (and_left (holds_name 12 callsign k.originator_len k.originator) _ e),
  valid 255 stream_id k.stream_id_len k.stream_id (and_right (holds_name 12 callsign k.originator_len k.originator) _ e),
)
  where
    valid : (size : ℕ) (p : List ℕ → Bool) (n : ℕ) (a : List ℕ) → holds_name size p n a ≡ true → p (take n a) ≡ true
    valid size p n a h = and_left (p (take n a)) _ (and_right (n ≤? size) _ (and_right (length a =? size) _ h))

-- the code's key is that of its names
pub key-is : (o s a b : List ℕ) → a ≡ front o (replicate 12 0) → b ≡ front s (replicate 255 0)
    → ◌≡◌ {A = Key} (record { originator = a; originator_len = length o; stream_id = b; stream_id_len = length s }) (key_of o s)
unfolding key_of
key-is o s a b x y = λ i. record { originator = x i; originator_len = length o; stream_id = y i; stream_id_len = length s }
