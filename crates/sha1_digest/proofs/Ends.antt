-- What the slice path and the end are made of: a piece in two parts, and the padding in two or three.
use Rattle.std.proofs.Common.{◌≡◌, ℕ, zero, suc, ◌+◌, ◌-◌, ◌*◌, ◌/◌, ◌%◌, ◌^◌, ◌<◌, ◌≤◌, List, ◌∷◌, ◌++◌, length, take, drop, replicate, sym, refl, ap, ◌∙◌, append_assoc, arith, length-drop, take-append-drop, length-take, take_all}
use lib.ListN.{length-replicate, replicate-append-replicate}
use Rattle.sha1_block.specs.declared.Hash.{Hash}
use Rattle.sha1_digest.specs.declared.Sha1.{Sha1}
use Rattle.sha1_digest.specs.Sha1.{pad_zeros, big64, padding}
use Rattle.sha1_digest.specs.Machine.{fed_all, finished}
use Rattle.sha1_digest.proofs.Feed.{parts, counted}

counted-lt : (st : Sha1) (s : List ℕ) → st.total < 2 ^ 64 → (fed_all st s).total < 2 ^ 64
counted-lt st s small = let c = counted st s small in omega arith

-- how far the block is filled after n bytes more
fill : (st : Sha1) (s : List ℕ) (n : ℕ) → st.total < 2 ^ 64 → length s ≡ n → (fed_all st s).total % 64 ≡ (st.total + n) % 64
fill st s n small e =
    let c = counted st s small in
    let d : (st.total + n) % 2 ^ 64 % 64 ≡ (st.total + n) % 64 = omega arith in
    ap (λ t. t % 64) (c ∙ ap (λ l. (st.total + l) % 2 ^ 64) e) ∙ d

-- ---- a piece

-- the rest of a piece, from a place on
abbrev from : ℕ → List ℕ → List ℕ
from a s = take (length s - a) (drop a s)

from_all : (a : ℕ) (s : List ℕ) → from a s ≡ drop a s
from_all a s = take_all (length s - a) (drop a s) (rw length-drop (omega arith))

-- what fills the waiting block leaves none begun, and the rest follows it
module _ (st one : Sha1) (s : List ℕ) (room : ℕ) (p : one ≡ fed_all st (take room s)) where
  pub block-filled : st.total < 2 ^ 64 → room ≡ (64 - st.total % 64) % 64 → room ≤ length s → one.total % 64 ≡ 0
  block-filled small e k =
      let l : length (take room s) ≡ room = simp length-take (omega arith) in
      let d : (st.total + room) % 64 ≡ 0 = omega arith in
      ap (λ st. st.total % 64) p ∙ fill st (take room s) room small l ∙ d

  pub two-parts : (two : Sha1) → two ≡ fed_all one (from room s) → two ≡ fed_all st s
  two-parts two q =
      let w : take room s ++ from room s ≡ s = ap (λ r. take room s ++ r) (from_all room s) ∙ take-append-drop room s in
      q ∙ ap (λ st. fed_all st (from room s)) p ∙ sym (parts st (take room s) (from room s)) ∙ ap (fed_all st) w

-- whole blocks, and the rest
module _ (st one : Sha1) (s : List ℕ) (end : ℕ) (e : end ≡ length s / 64 * 64) (p : one ≡ fed_all st (take (64 * (length s / 64)) s)) where
  pub rest-fits : st.total < 2 ^ 64 → st.total % 64 ≡ 0 → one.total % 64 + length (from end s) ≤ 64
  rest-fits small z =
      let l : length (take (64 * (length s / 64)) s) ≡ 64 * (length s / 64) = simp length-take (omega arith) in
      let a : one.total % 64 ≡ (st.total + 64 * (length s / 64)) % 64 = ap (λ st. st.total % 64) p ∙ fill st (take (64 * (length s / 64)) s) (64 * (length s / 64)) small l in
      let r : length (from end s) ≡ length s - end = ap length (from_all end s) ∙ length-drop end s in
      omega arith

  pub rest-fed : (two : Sha1) → two ≡ fed_all one (from end s) → two ≡ fed_all st s
  rest-fed two q =
      let f : 64 * (length s / 64) ≡ end = omega arith in
      let w : take (64 * (length s / 64)) s ++ from end s ≡ s = rw f (ap (λ r. take end s ++ r) (from_all end s) ∙ take-append-drop end s) in
      q ∙ ap (λ st. fed_all st (from end s)) p ∙ sym (parts st (take (64 * (length s / 64)) s) (from end s)) ∙ ap (fed_all st) w

-- ---- the padding: the mark and zeros to the length's place, or to the block's end and on through a block of its own

take-replicate : (k m : ℕ) → k ≤ m → take {A = ℕ} k (replicate m 0) ≡ replicate k 0
take-replicate zero m h = refl
take-replicate (suc k) zero h = absurd (omega arith)
take-replicate (suc k) (suc m) h = ap (λ l. 0 ∷ l) (take-replicate k m (omega arith))

-- the mark and n zeros
abbrev marks : ℕ → List ℕ
marks n = 0x80 ∷ replicate n 0

-- the mark's block up to n bytes
pub marked : (n : ℕ) → 0 < n → n ≤ 64 → take n (marks 63) ≡ marks (n - 1)
marked n h k =
    let e : n ≡ suc (n - 1) = omega arith in
    ap (λ (m : ℕ). take m (marks 63)) e ∙ ap (λ r. 0x80 ∷ r) (take-replicate (n - 1) 63 (omega arith))

module _ (st one : Sha1) (small : st.total < 2 ^ 64) (to : ℕ) (h : st.total % 64 < to) (k : to ≤ 64) (p : one ≡ fed_all st (marks (to - st.total % 64 - 1))) where
  -- how far the block is filled after the mark and zeros
  pub marked-to : one.total % 64 ≡ to % 64
  marked-to =
      let n = to - st.total % 64 - 1 in
      let l : length (marks n) ≡ suc n = ap suc (length-replicate n 0) in
      let d : (st.total + suc n) % 64 ≡ to % 64 = omega arith in
      ap (λ st. st.total % 64) p ∙ fill st (marks n) (suc n) small l ∙ d

  -- and after a block's zeros
  pub zeros-to : to ≡ 64 → (two : Sha1) → two ≡ fed_all one (replicate 56 0) → two.total % 64 ≡ 56
  zeros-to e two q =
      let a = marked-to in
      let s : one.total < 2 ^ 64 = rw p (counted-lt st (marks (to - st.total % 64 - 1)) small) in
      let d : (one.total + 56) % 64 ≡ 56 = omega arith in
      ap (λ st. st.total % 64) q ∙ fill one (replicate 56 0) 56 s refl ∙ d

module _ (st one : Sha1) (h : Hash) where
  -- the mark, zeros and the length end the waiting block
  pub end_short : st.total % 64 < 56 → one ≡ fed_all st (marks (56 - st.total % 64 - 1)) → h ≡ (fed_all one (big64 (8 * st.total))).h → h ≡ finished st
  unfolding padding
  end_short k p q =
      let z : pad_zeros st.total ≡ 56 - st.total % 64 - 1 = omega arith in
      let m = marks (56 - st.total % 64 - 1) in
      let w : padding st.total ≡ m ++ big64 (8 * st.total) = rw z in
      q ∙ ap (λ st'. (fed_all st' (big64 (8 * st.total))).h) p ∙ ap (λ st. st.h) (sym (ap (fed_all st) w ∙ parts st m (big64 (8 * st.total))))

  -- the mark and zeros end it; zeros and the length are a block of their own
  pub end-long : (two : Sha1) → 56 ≤ st.total % 64 → one ≡ fed_all st (marks (64 - st.total % 64 - 1)) → two ≡ fed_all one (replicate 56 0)
      → h ≡ (fed_all two (big64 (8 * st.total))).h → h ≡ finished st
  unfolding padding
  end-long two k p q r =
      let n = 64 - st.total % 64 - 1 in
      let z : pad_zeros st.total ≡ n + 56 = omega arith in
      let m = marks n in
      let l = big64 (8 * st.total) in
      let w : padding st.total ≡ m ++ (replicate 56 0 ++ l) = rw (z, ← replicate-append-replicate {A = ℕ} n 56 0, append_assoc (replicate n 0) (replicate 56 0) l) in
      r ∙ ap (λ st'. (fed_all st' l).h) (q ∙ ap (λ st'. fed_all st' (replicate 56 0)) p)
      ∙ ap (λ st. st.h) (sym (ap (fed_all st) w ∙ parts st m (replicate 56 0 ++ l) ∙ parts (fed_all st m) (replicate 56 0) l))
