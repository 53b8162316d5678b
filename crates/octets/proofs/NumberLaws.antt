-- Little-endian numbers, once over the width: what was written is read, what was read is written, and how large a number is.
use Prim.Native.Nat.{ℕ, zero, suc, ◌+◌, ◌-◌, ◌*◌, ◌/◌, ◌%◌, ◌^◌, ◌≤◌, ◌<◌}
use mathlib.Core.Path.{◌≡◌, refl, ap, ◌∙◌}
use mathlib.Core.List.{List, [], ◌∷◌}
use native.Mathlib.Omega.{arith}
use native.Mathlib.Nat.{pow-suc, pow-le-pow_right}
use lib.ListN.{length, get_or, take, drop, set, length-drop, length-take, drop_of_length-le}
use lib.Seq.{get_or-drop, get_or-take}
use Rattle.octets.specs.Bytes.{Bytes, placed}
use Rattle.octets.specs.Numbers.{little, little_bytes}
use Rattle.octets.proofs.Lists.{drop-next, placed-next, placed-none}

pub length-bytes : (w v : ℕ) → length (little_bytes w v) ≡ w
unfolding little_bytes
length-bytes zero v = refl
length-bytes (suc w) v = ap suc (length-bytes w (v / 256))

pub read-written : (w v : ℕ) → v < 256 ^ w → little (little_bytes w v) ≡ v
unfolding little little_bytes
read-written zero v h = omega arith
read-written (suc w) v h = rw (read-written w (v / 256) (omega (arith, pow-suc 256 w))) (omega arith)

pub little-less : (s : List ℕ) → Bytes s → little s < 256 ^ length s
unfolding little
little-less [] h = omega arith
little-less (x ∷ s) h = omega (arith, pow-suc 256 (length s), little-less s (λ i. h (suc i)), h 0)

pub written_read : (s : List ℕ) → Bytes s → little_bytes (length s) (little s) ≡ s
unfolding little little_bytes
written_read [] h = refl
written_read (x ∷ s) h =
    let low : (x + 256 * little s) % 256 ≡ x = omega (arith, h 0) in
    let high : (x + 256 * little s) / 256 ≡ little s = omega (arith, h 0) in
    rw (low, high) (ap (λ l. x ∷ l) (written_read s (λ i. h (suc i))))

-- every byte written is a byte
pub bytes-written : (w v : ℕ) → Bytes (little_bytes w v)
unfolding little_bytes
bytes-written zero v i = omega arith
bytes-written (suc w) v zero = omega arith
bytes-written (suc w) v (suc i) = bytes-written w (v / 256) i

pub bytes_drop : (n : ℕ) (s : List ℕ) → Bytes s → Bytes (drop n s)
bytes_drop n s h i = rw get_or-drop (h (n + i))

pub bytes_take : (n : ℕ) (s : List ℕ) → Bytes s → Bytes (take n s)
bytes_take zero s h i = omega arith
bytes_take (suc n) [] h i = omega arith
bytes_take (suc n) (x ∷ s) h zero = h 0
bytes_take (suc n) (x ∷ s) h (suc i) = bytes_take n s (λ j. h (suc j)) i

-- ---- reading, from the highest byte down

pub gather_none : (s : List ℕ) (w : ℕ) → little (drop w (take w s)) ≡ 0
unfolding little
gather_none s w = rw (drop_of_length-le (take w s) {i = w} (rw length-take (omega arith)))

-- a byte more in front
pub gather-next : (s : List ℕ) (w i v x : ℕ) → 0 < i → i ≤ w → w ≤ length s → v ≡ little (drop i (take w s)) → x ≡ get_or s (i - 1) 0
    → v * 256 + x ≡ little (drop (i - 1) (take w s))
unfolding little
gather-next s w i v x p h k ev ex =
    let z : i - 1 + 1 ≡ i = omega arith in
    let e : drop (i - 1) (take w s) ≡ get_or s (i - 1) 0 ∷ drop i (take w s) =
    drop-next (take w s) (i - 1) 0 (rw length-take (omega arith)) ∙ rw (z, get_or-take w s (i - 1) 0 (omega arith)) in
    rw (e, ev, ex) (omega arith)

-- what was gathered so far leaves room for a byte more
pub gather-room : (s : List ℕ) (w i : ℕ) → Bytes s → w ≤ 8 → 0 < i → little (drop i (take w s)) < 256 ^ 7
gather-room s w i hs h k =
    let part = drop i (take w s) in
    let short : length part ≤ 7 = rw (length-drop, length-take) (omega arith) in
    let less = little-less part (bytes_drop i (take w s) (bytes_take w s hs)) in
    let more : 256 ^ length part ≤ 256 ^ 7 = pow-le-pow_right (omega arith) {i = length part} {j = 7} short in
    omega arith

pub gather-all : (s : List ℕ) (w i v : ℕ) → Bytes s → i ≡ 0 → w ≤ length s → v ≡ little (drop i (take w s)) → (v ≡ little (take w s)) × (v < 256 ^ w)
gather-all s w i v hs e h ev =
    let f : v ≡ little (take w s) = rw e at ev in
    let lw : length (take w s) ≡ w = rw length-take (omega arith) in
    (f, rw f (rw lw at (little-less (take w s) (bytes_take w s hs))))

-- ---- writing, from the lowest byte up

pub scatter-none : (w v at : ℕ) (l : List ℕ) → placed (little_bytes (w - 0) v) (at + 0) l ≡ placed (little_bytes w v) at l
scatter-none w v at l =
    let a : w - 0 ≡ w = omega arith in
    let b : at + 0 ≡ at = omega arith in
    rw (a, b)

-- what is left of the number is placed behind the byte
pub scatter-next : (v w i at : ℕ) (l : List ℕ) → i < w → at + w ≤ length l
    → placed (little_bytes (w - i) v) (at + i) l ≡ placed (little_bytes (w - (i + 1)) (v / 256)) (at + (i + 1)) (set l (at + i) (v % 256))
unfolding little_bytes
scatter-next v w i at l h k =
    let a : w - i ≡ suc (w - (i + 1)) = omega arith in
    let b : at + (i + 1) ≡ at + i + 1 = omega arith in
    rw (a, b) (placed-next (v % 256) (little_bytes (w - (i + 1)) (v / 256)) (at + i) l (rw length-bytes (omega arith)))

pub scatter-all : (v w i at : ℕ) (l : List ℕ) → i ≡ w → at + w ≤ length l → placed (little_bytes (w - i) v) (at + i) l ≡ l
unfolding little_bytes
scatter-all v w i at l e h =
    let a : w - w ≡ 0 = omega arith in
    rw (e, a) (placed-none (at + w) l h)
