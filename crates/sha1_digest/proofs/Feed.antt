-- Feeding, at every state: in parts, within one block, and whole blocks at once.
use Rattle.std.specs.Prelude.{if◌then◌else◌}
use Rattle.std.proofs.Common.{◌≡◌, ℕ, zero, suc, ◌+◌, ◌-◌, ◌*◌, ◌/◌, ◌%◌, ◌^◌, ◌<◌, ◌≤◌, Bool, true, false, List, [], ◌∷◌, ◌++◌, length, take, drop, set, sym, refl, ap, ◌∙◌, append-nil, arith, length-drop, length-set, drop_of_length-le, length-take, take-add, eq-eqb, ne_eqb, eqb-true}
use borrow.Author.Tests.{eqb-false}
use Rattle.octets.specs.Words.{◌=?◌}
use Rattle.octets.specs.Bytes.{placed}
use Rattle.octets.proofs.Lists.{placed-in, placed-none, placed-next}
use Rattle.sha1_block.specs.declared.Hash.{Hash}
use Rattle.sha1_digest.specs.declared.Sha1.{Sha1}
use Rattle.sha1_block.specs.Block.{block, compressed, chain}
use Rattle.sha1_digest.specs.Machine.{fed, fed_all}

-- feeding two parts, one after the other, is feeding the whole
pub parts : (st : Sha1) (a b : List ℕ) → fed_all st (a ++ b) ≡ fed_all (fed_all st a) b
parts st [] b = refl
parts st (x ∷ a) b = parts (fed st x) a b

-- ---- bytes within one block

-- a state with the hash value h, whose block the first n bytes of 64 fill
abbrev ended : Hash → ℕ → List ℕ → ℕ → Sha1
ended h n filled total = record { h = if n =? 64 then compressed h filled else h; block = filled; total = total }

-- the state after bytes that end within its block or fill it
abbrev stored : Sha1 → List ℕ → Sha1
stored st s = ended st.h (st.total % 64 + length s) (placed s (st.total % 64) st.block) ((st.total + length s) % 2 ^ 64)

next-test : (n : ℕ) → (n + 1 =? 64) ≡ (n =? 63)
next-test n = by (n =? 63) refl
  where
    by : (t : Bool) → (n =? 63) ≡ t → (n + 1 =? 64) ≡ t
    by true e = eq-eqb (n + 1) 64 (omega (arith, eqb-true n 63 e))
    by false e = ne_eqb (n + 1) 64 (λ q. eqb-false n 63 e (omega arith))

-- the last byte, which may fill the block
fed-last : (st : Sha1) (x : ℕ) → length st.block ≡ 64 → fed st x ≡ stored st (x ∷ [])
unfolding fed
fed-last st x size =
    let k : st.total % 64 + 1 ≤ length st.block = omega arith in
    let k' : st.total % 64 + 1 ≤ length (set st.block (st.total % 64) x) = rw length-set k in
    rw (placed-next x [] (st.total % 64) st.block k, placed-none (st.total % 64 + 1) (set st.block (st.total % 64) x) k', next-test (st.total % 64))

-- a byte that does not fill it
fed-inside : (st : Sha1) (x : ℕ) → st.total % 64 < 63
    → fed st x ≡ record { h = st.h; block = set st.block (st.total % 64) x; total = (st.total + 1) % 2 ^ 64 }
unfolding fed
fed-inside st x k = rw (ne_eqb (st.total % 64) 63 (λ e. omega arith))

-- the count drops its carry once or twice
carry : (a b c : ℕ) → ((a + b) % 2 ^ 64 + c) % 2 ^ 64 ≡ (a + (b + c)) % 2 ^ 64
carry a b c = omega arith

below : (n : ℕ) → n % 2 ^ 64 < 2 ^ 64
below n = omega arith

pub within : (st : Sha1) (s : List ℕ) → length st.block ≡ 64 → st.total < 2 ^ 64 → st.total % 64 + length s ≤ 64 → fed_all st s ≡ stored st s
within st [] size small k =
    let e : (st.total + 0) % 2 ^ 64 ≡ st.total = omega arith in
    rw (ne_eqb (st.total % 64 + 0) 64 (λ e. omega arith), placed-none (st.total % 64) st.block (omega arith), e)
within st (x ∷ []) size small k = fed-last st x size
within st (x ∷ y ∷ s) size small k =
    let next : Sha1 = record { h = st.h; block = set st.block (st.total % 64) x; total = (st.total + 1) % 2 ^ 64 } in
    let at : (st.total + 1) % 2 ^ 64 % 64 ≡ st.total % 64 + 1 = omega arith in
    let sum : st.total % 64 + 1 + suc (length s) ≡ st.total % 64 + suc (suc (length s)) = omega arith in
    let two : 1 + suc (length s) ≡ suc (suc (length s)) = omega arith in
    let count : ((st.total + 1) % 2 ^ 64 + suc (length s)) % 2 ^ 64 ≡ (st.total + suc (suc (length s))) % 2 ^ 64 = carry st.total 1 (suc (length s)) ∙ rw two in
    let full = ap (λ n. n + suc (length s)) at ∙ sum in
    let filled = ap (λ n. placed (y ∷ s) n next.block) at ∙ sym (placed-next x (y ∷ s) (st.total % 64) st.block (omega arith)) in
    ap (λ st. fed_all st (y ∷ s)) (fed-inside st x (omega arith))
    ∙ within next (y ∷ s) (rw length-set size) (below (st.total + 1)) (rw (at, sum) k)
    ∙ (λ i. ended st.h (full i) (filled i) (count i))

-- ---- whole blocks

-- bytes over as many
pub over : (m b : List ℕ) → length b ≡ length m → placed m 0 b ≡ m
over m b e = placed-in m 0 b (omega arith) ∙ ap (λ r. m ++ r) (drop_of_length-le b {i = 0 + length m} (omega arith)) ∙ append-nil m

full : (st : Sha1) (m : List ℕ) → length st.block ≡ 64 → st.total < 2 ^ 64 → st.total % 64 ≡ 0 → length m ≡ 64
    → fed_all st m ≡ record { h = compressed st.h m; block = m; total = (st.total + 64) % 2 ^ 64 }
full st m size small z l =
    let sum : st.total % 64 + length m ≡ 64 = omega arith in
    let filled = ap (λ n. placed m n st.block) z ∙ over m st.block (size ∙ sym l) in
    let count = ap (λ n. (st.total + n) % 2 ^ 64) l in
    within st m size small (omega arith) ∙ (λ i. ended st.h (sum i) (filled i) (count i))

-- a state whose block is b, after m bytes more than `total`
abbrev at_block : Hash → List ℕ → ℕ → ℕ → Sha1
at_block h b total m = record { h = h; block = b; total = (total + m) % 2 ^ 64 }

-- one block more than m bytes
next-block : (st : Sha1) (s : List ℕ) (h : Hash) (b : List ℕ) (m m' : ℕ) → st.total % 64 ≡ 0 → m % 64 ≡ 0 → m' ≡ m + 64 → m' ≤ length s → length b ≡ 64
    → fed_all st (take m s) ≡ at_block h b st.total m
    → fed_all st (take m' s) ≡ at_block (compressed h (take 64 (drop m s))) (take 64 (drop m s)) st.total m'
next-block st s h b m m' z d e k l p =
    let c = take 64 (drop m s) in
    let w : length c ≡ 64 = simp (length-take, length-drop) (omega arith) in
    ap (λ x. fed_all st (take x s)) e
    ∙ ap (fed_all st) (take-add m 64 s)
    ∙ parts st (take m s) c
    ∙ ap (λ q. fed_all q c) p
    ∙ full (at_block h b st.total m) c l (below (st.total + m)) (omega arith) w
    ∙ ap (λ t. record { h = compressed h c; block = c; total = t }) (carry st.total m 64 ∙ ap (λ x. (st.total + x) % 2 ^ 64) (sym e))

module _ (st : Sha1) (s : List ℕ) (size : length st.block ≡ 64) (small : st.total < 2 ^ 64) (z : st.total % 64 ≡ 0) where
  -- the state after n blocks and one
  pub whole : (n : ℕ) → 64 * suc n ≤ length s
      → fed_all st (take (64 * suc n) s) ≡ at_block (chain st.h s (suc n)) (block s n) st.total (64 * suc n)
  unfolding chain
  whole zero k = full st (take 64 s) size small z (simp length-take (omega arith))
  whole (suc n) k =
      let b : length (block s n) ≡ 64 = simp (length-take, length-drop) (omega arith) in
      next-block st s (chain st.h s (suc n)) (block s n) (64 * suc n) (64 * suc (suc n)) z (omega arith) (omega arith) k b (whole n (omega arith))

-- the count
pub counted : (st : Sha1) (s : List ℕ) → st.total < 2 ^ 64 → (fed_all st s).total ≡ (st.total + length s) % 2 ^ 64
unfolding fed
counted st [] small = omega arith
counted st (x ∷ s) small =
    let one : 1 + length s ≡ suc (length s) = omega arith in
    counted (fed st x) s (omega arith) ∙ carry st.total 1 (length s) ∙ rw one

-- ---- what the code makes, part by part

-- bytes at their place in the block
pub put_in : (st : Sha1) (s : List ℕ) (h : Hash) (filled : List ℕ) (total : ℕ) → length st.block ≡ 64 → st.total < 2 ^ 64 → st.total % 64 + length s ≤ 64
    → filled ≡ placed s (st.total % 64) st.block
    → h ≡ (if st.total % 64 + length s =? 64 then compressed st.h filled else st.h)
    → total ≡ (st.total + length s) % 2 ^ 64
    → record { h = h; block = filled; total = total } ≡ fed_all st s
put_in st s h filled total size small k b c t = sym (within st s size small k ∙ rw (← b, ← c, ← t))

module _ (st : Sha1) (s : List ℕ) (size : length st.block ≡ 64) (small : st.total < 2 ^ 64) (z : st.total % 64 ≡ 0) where
  -- no whole block
  pub blocks-none : length s / 64 * 64 ≡ 0 → st ≡ fed_all st (take (64 * (length s / 64)) s)
  blocks-none e =
      let k : 64 * (length s / 64) ≡ 0 = omega arith in
      rw k

  -- the last whole block is in the state's block
  pub blocks-some : (h : Hash) (filled : List ℕ) (total end : ℕ) → end ≡ length s / 64 * 64 → (end ≡ 0 → ⊥) → h ≡ chain st.h s (length s / 64)
      → filled ≡ placed (take (end - (end - 64)) (drop (end - 64) s)) 0 st.block
      → total ≡ (st.total + end) % 2 ^ 64
      → record { h = h; block = filled; total = total } ≡ fed_all st (take (64 * (length s / 64)) s)
  blocks-some h filled total end e p c b t =
      let n = length s / 64 - 1 in
      let m : length s / 64 ≡ suc n = omega arith in
      let u : end ≡ 64 * suc n = omega arith in
      let w : end - (end - 64) ≡ 64 = omega arith in
      let v : end - 64 ≡ 64 * n = omega arith in
      let l : length (block s n) ≡ 64 = simp (length-take, length-drop) (omega arith) in
      let f : filled ≡ block s n = b ∙ rw (w, v) (over (block s n) st.block (omega arith)) in
      let c' : h ≡ chain st.h s (suc n) = c ∙ ap (chain st.h s) m in
      rw m (sym (whole st s size small z n (omega arith) ∙ rw (← f, ← u, ← t, ← c')))
