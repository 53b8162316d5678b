-- A loop that reads values one after the other into an array: what stands behind the values read decides. Over the field, the values and
-- the array.
use Prim.Native.Nat.{ℕ, zero, suc, ◌+◌, ◌-◌, ◌<◌, ◌≤◌}
use native.Mathlib.Omega.{arith}
use native.Mathlib.Numerals.{add-one}
use mathlib.Core.Path.{◌≡◌, refl, sym, ap, ◌∙◌}
use mathlib.Core.List.{List, [], ◌∷◌, ◌++◌, append_assoc, append-nil}
use lib.ListN.{length, take, drop, set, length-set}
use lib.Seq.{take-suc-set, drop-set-lt, drop-drop}
use Rattle.octets.specs.Field.{Res, bad, got, bind, Field, many_parse}
use Rattle.octets.proofs.FieldLaws.{bound}

-- the values l, which took n bytes, and then those that x found
abbrev pub after : {A : Type 0} → List A → ℕ → Res (List A) → Res (List A)
after l n x = bind x (λ r m. got (l ++ r) (n + m))

pub after_none : {A : Type 0} (y : Res (List A)) → y ≡ after [] 0 y
after_none bad = refl
after_none (got r m) = let e : m ≡ 0 + m = omega arith in ap (got r) e

-- one more value before the rest
pub after_turn : {A : Type 0} (l : List A) (n : ℕ) (a : A) (u : ℕ) (y : Res (List A)) → after l n (bind y (λ r m. got (a ∷ r) (u + m))) ≡ after (l ++ (a ∷ [])) (n + u) y
after_turn l n a u bad = refl
after_turn l n a u (got r m) =
    let e : n + (u + m) ≡ n + u + m = omega arith in
    ap (λ (k : ℕ). got (l ++ (a ∷ r)) k) e ∙ ap (λ q. got q (n + u + m)) (sym (append_assoc l (a ∷ []) r))

-- the first values of an array in which one more was stored
pub taken_more : {A : Type 0} (l : List A) (i : ℕ) (a : A) → i < length l → take (i + 1) (set l i a) ≡ take i l ++ (a ∷ [])
taken_more l i a h = ap (λ (j : ℕ). take j (set l i a)) (add-one i) ∙ take-suc-set l i a h

module _ {A : Type 0} (F : Field A) (k : ℕ) (d : List ℕ) (z : List A) where
  -- i values are read, up to the place `at`; the array z has them in front
  pub record Turn (list : List A) (at i : ℕ) : Type 0 where
    pub low : i ≤ k
    pub room : at ≤ length d
    pub size : length list ≡ length z
    pub behind : drop i list ≡ drop i z
    pub left : many_parse F k d ≡ after (take i list) at (many_parse F (k - i) (drop at d))

  pub first-turn : Turn z 0 0
  first-turn =
      record {
        low = omega arith;
        room = omega arith;
        size = refl;
        behind = refl;
        left = after_none (many_parse F k d) ∙ ap (λ (n : ℕ). after [] 0 (many_parse F n d)) (let e : k ≡ k - 0 = omega arith in e);
      }

  module _ (list : List A) (at i : ℕ) (g : Turn list at i) (h : i < k) where
    next : many_parse F (k - i) (drop at d) ≡ bind (F.parse (drop at d)) (λ a n. bind (many_parse F (k - (i + 1)) (drop n (drop at d))) (λ l m. got (a ∷ l) (n + m)))
    next = ap (λ (n : ℕ). many_parse F n (drop at d)) (let e : k - i ≡ suc (k - (i + 1)) = omega arith in e)

    pub turn-bad : F.parse (drop at d) ≡ bad → many_parse F k d ≡ bad
    turn-bad e = g.left ∙ rw (next, e)

    pub turn_more : (a : A) (u : ℕ) → k ≤ length z → F.parse (drop at d) ≡ got a u → u ≤ length d - at → Turn (set list i a) (at + u) (i + 1)
    turn_more a u m e n =
        let et = taken_more list i a (omega (arith, g.size)) in
        let y : Res (List A) = many_parse F (k - (i + 1)) (drop u (drop at d)) in
        record {
          low = omega arith;
          room = omega (arith, g.room);
          size = length-set list i a ∙ g.size;
          behind = drop-set-lt (i + 1) list i a (omega arith) ∙ sym (drop-drop 1 i list) ∙ ap (drop 1) g.behind ∙ drop-drop 1 i z;
          left = g.left
              ∙ rw (next, e) (after_turn (take i list) at a u y)
              ∙ ap (λ (q : List A). after q (at + u) y) (sym et)
              ∙ ap (λ (q : List ℕ). after (take (i + 1) (set list i a)) (at + u) (many_parse F (k - (i + 1)) q)) (drop-drop u at d);
        }

  pub last_turn : (list : List A) (at i : ℕ) → Turn list at i → k ≤ i → many_parse F k d ≡ got (take i list) at
  last_turn list at i g h =
      g.left
      ∙ ap (λ (n : ℕ). after (take i list) at (many_parse F n (drop at d))) (let e : k - i ≡ 0 = omega arith in e)
      ∙ ap (λ (q : List A). got q (at + 0)) (append-nil (take i list))
      ∙ ap (got (take i list)) (let e : at + 0 ≡ at = omega arith in e)

pub many-length : {A : Type 0} (F : Field A) (k : ℕ) (s : List ℕ) (l : List A) (n : ℕ) → many_parse F k s ≡ got l n → length l ≡ k
many-length F zero s l n e = let el : l ≡ [] = cc in ap length el
many-length F (suc k) s l n e =
    let b1 = bound (F.parse s) (λ a u. bind (many_parse F k (drop u s)) (λ r m. got (a ∷ r) (u + m))) l n e in
    let b2 = bound (many_parse F k (drop b1.used s)) (λ r m. got (b1.val ∷ r) (b1.used + m)) l n b1.next in
    let el : l ≡ b1.val ∷ b2.val = cc in
    ap length el ∙ ap suc (many-length F k (drop b1.used s) b2.val b2.used b2.first)
