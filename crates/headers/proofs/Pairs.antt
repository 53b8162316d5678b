-- Pairs of header keys: the keys from a place on decide, for the first key of a pair and for the second.
use Prim.Native.Nat.{ℕ, ◌+◌, ◌<◌, min}
use mathlib.Core.Path.{◌≡◌, refl, ap, sym, ◌∙◌}
use mathlib.Core.Bool.{true, false}
use mathlib.Core.List.{List, [], ◌∷◌, map}
use native.Mathlib.Omega.{arith}
use lib.ListN.{length, get_or, take, drop, length-map, length-take, get_or-map}
use lib.Seq.{drop-length, length-take-le, get_or-take}
use Rattle.octets.specs.Words.{◌and◌, no, some}
use Rattle.octets.specs.Bytes.{same}
use Rattle.octets.proofs.Lists.{drop-next, some_next, some-here, some_end}
use Rattle.octets.proofs.Tests.{and-next, and-not-left, no_true, no_false}
use Rattle.headers.specs.Keys.{all_differ, key_of, keys_of}
use Rattle.headers.specs.declared.Header.{Header}
use Rattle.headers.specs.declared.Headers.{Headers}
use Rattle.headers.proofs.Cuts.{take-cut}

-- what an index past the headers' end would find
abbrev pub no_header : Header
no_header = record { key = []; key_len = 0; value = []; value_len = 0 }

module _ (h : Headers) (full : length h.items ≡ 8) where
  cut-keys : keys_of h ≡ map key_of (take (min h.count 8) h.items)
  unfolding keys_of
  cut-keys = rw (take-cut h.count h.items 8 full)

  count-keys : length (keys_of h) ≡ min h.count 8
  count-keys =
      ap length cut-keys
      ∙ length-map (take (min h.count 8) h.items) key_of
      ∙ length-take-le (min h.count 8) h.items (omega arith)

  module _ (i : ℕ) (l : i < min h.count 8) where
    key-at : get_or (keys_of h) i [] ≡ key_of (get_or h.items i no_header)
    unfolding key_of
    key-at =
        ap (λ (ks : List (List ℕ)). get_or ks i []) cut-keys
        ∙ get_or-map key_of (take (min h.count 8) h.items) i no_header
        ∙ ap key_of (get_or-take (min h.count 8) h.items i no_header l)

    pub second-next : (k : List ℕ) → same k (key_of (get_or h.items i no_header)) ≡ false → some (same k) (drop i (keys_of h)) ≡ some (same k) (drop (i + 1) (keys_of h))
    second-next k e = some_next (same k) (keys_of h) i [] (omega (arith, count-keys)) (ap (same k) key-at ∙ e)

    pub second-here : (k : List ℕ) → same k (key_of (get_or h.items i no_header)) ≡ true → some (same k) (drop i (keys_of h)) ≡ true
    second-here k e = some-here (same k) (keys_of h) i [] (omega (arith, count-keys)) (ap (same k) key-at ∙ e)

    first : all_differ (drop i (keys_of h)) ≡ no (some (same (key_of (get_or h.items i no_header))) (drop (i + 1) (keys_of h))) and all_differ (drop (i + 1) (keys_of h))
    unfolding all_differ
    first = rw (drop-next (keys_of h) i [] (omega (arith, count-keys)), key-at)

    pub first_next : some (same (key_of (get_or h.items i no_header))) (drop (i + 1) (keys_of h)) ≡ false → all_differ (drop i (keys_of h)) ≡ all_differ (drop (i + 1) (keys_of h))
    first_next e = first ∙ and-next _ _ (no_false _ e)

    pub first-here : some (same (key_of (get_or h.items i no_header))) (drop (i + 1) (keys_of h)) ≡ true → all_differ (drop i (keys_of h)) ≡ false
    first-here e = first ∙ and-not-left _ _ (no_true _ e)

  pub second-end : (k : List ℕ) (j : ℕ) → j ≡ min h.count 8 → some (same k) (drop j (keys_of h)) ≡ false
  second-end k j e = some_end (same k) (keys_of h) j (omega (arith, count-keys))

  pub first-end : (i : ℕ) → i ≡ min h.count 8 → all_differ (drop i (keys_of h)) ≡ true
  unfolding all_differ
  first-end i e = rw (e ∙ sym count-keys, drop-length (keys_of h))

-- fewer than two keys differ
few : (l : List (List ℕ)) → length l < 2 → all_differ l ≡ true
unfolding all_differ
few [] h = refl
few (k ∷ []) h = refl
few (k ∷ m ∷ l) h = absurd (omega arith)

pub few-differ : (h : Headers) → h.count < 2 → all_differ (keys_of h) ≡ true
unfolding keys_of
few-differ h e = few (map key_of (take h.count h.items)) (omega (arith, length-map (take h.count h.items) key_of, length-take h.count h.items))
