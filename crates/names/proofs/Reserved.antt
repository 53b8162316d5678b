-- The reserved keys: the table as the code has it spells them, and a loop over it looks for one.
use Rattle.std.specs.Prelude.{if◌then◌else◌}
use Prim.Native.Nat.{ℕ, zero, suc, ◌+◌, ◌≤◌, ◌<◌}
use mathlib.Core.Path.{◌≡◌, refl, ap, sym, ◌∙◌}
use mathlib.Core.Bool.{Bool, true, false}
use mathlib.Core.List.{List, [], ◌∷◌, map}
use native.Mathlib.Omega.{arith}
use borrow.Author.Tests.{leb-true, lt-ltb}
use lib.ListN.{length, get_or, drop, get_or-map}
use lib.Seq.{drop-length}
use lib.Dec.{leb-suc-suc}
use Rattle.octets.specs.Words.{◌or◌, ◌<?◌, ◌≤?◌, every, some}
use Rattle.octets.specs.Bytes.{same}
use Rattle.octets.proofs.Lists.{drop-next, every-at, same-eq}
use Rattle.octets.proofs.Tests.{if_yes, if_no}
use Rattle.names.specs.Reserved.{reserved_keys, reserved, place_in, key_place, spelling}
use Rattle.names.specs.declared.Word.{Word}

unfoldable pub table : List Word
table =
    record { text = 108 ∷ 101 ∷ 110 ∷ 0 ∷ []; len = 3 } ∷
    record { text = 102 ∷ 109 ∷ 116 ∷ 0 ∷ []; len = 3 } ∷
    record { text = 115 ∷ 0 ∷ 0 ∷ 0 ∷ []; len = 1 } ∷
    record { text = 99 ∷ 108 ∷ 101 ∷ 110 ∷ []; len = 4 } ∷
    record { text = 100 ∷ 115 ∷ 116 ∷ 0 ∷ []; len = 3 } ∷
    record { text = 99 ∷ 104 ∷ 107 ∷ 0 ∷ []; len = 3 } ∷
    record { text = 116 ∷ 116 ∷ 108 ∷ 0 ∷ []; len = 3 } ∷
    record { text = 115 ∷ 114 ∷ 99 ∷ 0 ∷ []; len = 3 } ∷
    record { text = 109 ∷ 105 ∷ 100 ∷ 0 ∷ []; len = 3 } ∷
    record { text = 102 ∷ 114 ∷ 97 ∷ 103 ∷ []; len = 4 } ∷
    record { text = 115 ∷ 105 ∷ 100 ∷ 0 ∷ []; len = 3 } ∷
    record { text = 115 ∷ 110 ∷ 0 ∷ 0 ∷ []; len = 2 } ∷
    record { text = 103 ∷ 116 ∷ 0 ∷ 0 ∷ []; len = 2 } ∷
    []

-- what an index past the table's end would find
abbrev pub no_word : Word
no_word = record { text = []; len = 0 }

-- the table's rule, computed over the whole of it: each word lies in its array, and the words spell the keys
fitting : Word → Bool
fitting w = w.len ≤? 4

table-right : (every fitting table ≡ true) × (map spelling table ≡ reserved_keys)
unfolding fitting table reserved_keys spelling
table-right = (refl, refl)

pub counts : (length table ≡ 13) × (length reserved_keys ≡ 13)
unfolding table reserved_keys
counts = (refl, refl)

pub word_fits : (i : ℕ) → i < 13 → (get_or table i no_word).len ≤ 4
unfolding fitting
word_fits i h = leb-true (get_or table i no_word).len 4 (every-at fitting table i no_word table-right.0 (omega (arith, counts.0)))

pub word_at : (i : ℕ) → get_or reserved_keys i [] ≡ spelling (get_or table i no_word)
unfolding spelling
word_at i = ap (λ (ks : List (List ℕ)). get_or ks i []) (sym table-right.1) ∙ get_or-map spelling table i no_word

-- the keys from each place of the table on decide
module _ (k : List ℕ) (i : ℕ) where
  pub word_next : i < 13 → same k (spelling (get_or table i no_word)) ≡ false → place_in (drop i reserved_keys) k ≡ suc (place_in (drop (i + 1) reserved_keys) k)
  unfolding place_in
  word_next h e = rw (drop-next reserved_keys i [] (omega (arith, counts.1))) (if_no _ _ _ (ap (same k) (word_at i) ∙ e))

  pub word-here : i < 13 → same k (spelling (get_or table i no_word)) ≡ true → place_in (drop i reserved_keys) k ≡ 0
  unfolding place_in
  word-here h e = rw (drop-next reserved_keys i [] (omega (arith, counts.1))) (if_yes _ _ _ (ap (same k) (word_at i) ∙ e))

  pub word_end : i ≡ 13 → place_in (drop i reserved_keys) k ≡ 0
  unfolding place_in
  word_end e = rw (e ∙ sym counts.1, drop-length reserved_keys)

-- ---- a key's place among keys: the first that is the same

place-some : (xs : List (List ℕ)) (k : List ℕ) → some (same k) xs ≡ (place_in xs k <? length xs)
unfolding place_in
place-some [] k = refl
place-some (x ∷ xs) k = go (same k x) (place-some xs k)
  where
    go : (t : Bool) → some (same k) xs ≡ (place_in xs k <? length xs) → (t or some (same k) xs) ≡ ((if t then 0 else suc (place_in xs k)) <? suc (length xs))
    go true h = sym (lt-ltb 0 (suc (length xs)) (omega arith))
    go false h = h ∙ sym (leb-suc-suc (suc (place_in xs k)) (length xs))

place_at : (xs : List (List ℕ)) (k : List ℕ) → place_in xs k < length xs → get_or xs (place_in xs k) [] ≡ k
unfolding place_in
place_at [] k h = absurd (omega arith)
place_at (x ∷ xs) k h = go (same k x) refl h (place_at xs k)
  where
    go : (t : Bool) → same k x ≡ t → (if t then 0 else suc (place_in xs k)) < suc (length xs) → (place_in xs k < length xs → get_or xs (place_in xs k) [] ≡ k)
        → get_or (x ∷ xs) (if t then 0 else suc (place_in xs k)) [] ≡ k
    go true e l more = sym (same-eq k x e)
    go false e l more = more (omega arith)

-- a key is reserved where its place lies in the table, and it then stands there
pub reserved-place : (k : List ℕ) → reserved k ≡ (key_place k <? 13)
unfolding reserved key_place
reserved-place k = place-some reserved_keys k ∙ ap (λ (n : ℕ). place_in reserved_keys k <? n) counts.1

pub key-at : (k : List ℕ) → key_place k < 13 → get_or reserved_keys (key_place k) [] ≡ k
unfolding key_place
key-at k h = place_at reserved_keys k (omega (arith, counts.1))

-- the keys all differ, so that the place of the key at a place is that place
counted : ℕ → ℕ → List ℕ
counted a zero = []
counted a (suc n) = a ∷ counted (suc a) n

counted-at : (a n i : ℕ) → i < n → get_or (counted a n) i 13 ≡ a + i
unfolding counted
counted-at a zero i h = absurd (omega arith)
counted-at a (suc n) zero h = omega arith
counted-at a (suc n) (suc i) h = let k = counted-at (suc a) n i (omega arith) in omega arith

places-counted : map key_place reserved_keys ≡ counted 0 13
unfolding counted reserved_keys key_place place_in
places-counted = refl

none-there : key_place [] ≡ 13
unfolding reserved_keys key_place place_in
none-there = refl

pub place-back : (i : ℕ) → i < 13 → key_place (get_or reserved_keys i []) ≡ i
place-back i h =
    sym (get_or-map key_place reserved_keys i [])
    ∙ ap (λ (d : ℕ). get_or (map key_place reserved_keys) i d) none-there
    ∙ ap (λ (l : List ℕ). get_or l i 13) places-counted
    ∙ counted-at 0 13 i h
    ∙ let z : 0 + i ≡ i = omega arith in z
