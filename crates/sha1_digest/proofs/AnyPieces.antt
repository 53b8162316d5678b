-- The theorem over pieces: a fresh state that was fed any pieces, however the message is cut, finishes with the standard's digest.
-- It holds at every length; the standard itself gives digests to messages below 2^61 bytes.
use Rattle.std.proofs.Common.{◌≡◌, ℕ, suc, ◌+◌, ◌-◌, ◌*◌, ◌/◌, ◌%◌, ◌^◌, ◌≤◌, List, [], ◌∷◌, ◌++◌, length, sym, refl, ap, ◌∙◌, arith, length-append, take_all}
use lib.Pow.{field, mod-mod-pow}
use lib.ListN.{length-replicate}
use Rattle.sha1_digest.specs.declared.Sha1.{Sha1}
use Rattle.sha1_block.specs.Block.{chain}
use Rattle.sha1_digest.specs.Sha1.{initial, pad_zeros, big64, padding, sha1}
use Rattle.sha1_digest.specs.Machine.{fresh, fed_all, fed_pieces, concatenated, finished}
use Rattle.sha1_digest.proofs.Feed.{parts, whole, counted}

-- ---- the padding

-- the number of zeros is the standard's: the length and the mark end eight bytes before a block's end, and no fewer would do
pub zeros-right : (n : ℕ) → ((n + 1 + pad_zeros n) % 64 ≡ 56) × ((k : ℕ) → (n + 1 + k) % 64 ≡ 56 → pad_zeros n ≤ k)
zeros-right n = (omega arith, λ k e. omega arith)

-- the byte j bits up of a number modulo 2^64 is that of the number
digit : (y i j : ℕ) → y % 2 ^ (i + 8 + j) / 2 ^ j % 256 ≡ y / 2 ^ j % 256
digit y i j = ap (λ (x : ℕ). x % 256) (field y (i + 8) j) ∙ mod-mod-pow (y / 2 ^ j) i 8

pub low-bytes : (y : ℕ) → big64 (y % 2 ^ 64) ≡ big64 y
low-bytes y = cc (digit y 0 56, digit y 8 48, digit y 16 40, digit y 24 32, digit y 32 24, digit y 40 16, digit y 48 8, mod-mod-pow y 56 8)

-- a count that dropped its carry has the same padding
padding-count : (n : ℕ) → padding (n % 2 ^ 64) ≡ padding n
unfolding padding
padding-count n =
    let e : n % 2 ^ 64 % 64 ≡ n % 64 = omega arith in
    let f : 8 * (n % 2 ^ 64) % 2 ^ 64 ≡ 8 * n % 2 ^ 64 = omega arith in
    rw (e, sym (low-bytes (8 * (n % 2 ^ 64))) ∙ ap big64 f ∙ low-bytes (8 * n))

-- ---- the digest

module _ (s : List ℕ) where
  padded : List ℕ
  padded = s ++ padding (length s)

  blocks : (length padded % 64 ≡ 0) × (64 ≤ length padded)
  unfolding padded padding
  blocks = let e : length (s ++ padding (length s)) ≡ length s + suc (pad_zeros (length s) + 8) = simp (length-append, length-replicate) in (omega arith, omega arith)

  pub digest : finished (fed_all fresh s) ≡ sha1 s
  unfolding padded sha1
  digest =
      let n = length padded / 64 - 1 in
      let b = blocks in
      let e : 64 * suc n ≡ length padded = omega arith in
      let f : suc n ≡ length padded / 64 = omega arith in
      let c : (0 + length s) % 2 ^ 64 ≡ length s % 2 ^ 64 = omega arith in
      let p : padding (fed_all fresh s).total ≡ padding (length s) = ap padding (counted fresh s (omega arith) ∙ c) ∙ padding-count (length s) in
      ap (λ q. (fed_all (fed_all fresh s) q).h) p
      ∙ ap (λ st. st.h) (sym (parts fresh s (padding (length s))))
      ∙ ap (λ q. (fed_all fresh q).h) (sym (take_all (64 * suc n) padded (omega arith)))
      ∙ ap (λ st. st.h) (whole fresh padded refl (omega arith) refl n (omega arith))
      ∙ ap (chain initial padded) f

-- ---- pieces

pieces : (st : Sha1) (ps : List (List ℕ)) → fed_pieces st ps ≡ fed_all st (concatenated ps)
pieces st [] = refl
pieces st (p ∷ ps) = pieces (fed_all st p) ps ∙ sym (parts st p (concatenated ps))

pub any-pieces : (ps : List (List ℕ)) → finished (fed_pieces fresh ps) ≡ sha1 (concatenated ps)
any-pieces ps = ap finished (pieces fresh ps) ∙ digest (concatenated ps)
