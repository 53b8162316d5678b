-- Bytes added to a draft one after the other: they are added as one text.
use Rattle.std.specs.Prelude.{if◌then◌else◌}
use Prim.Native.Nat.{ℕ, ◌+◌, ◌≤◌, ◌<◌}
use mathlib.Core.Path.{◌≡◌, refl, sym, ap, ◌∙◌}
use mathlib.Core.Bool.{Bool, true, false}
use mathlib.Core.List.{List, ◌++◌}
use native.Mathlib.Omega.{arith}
use lib.ListN.{length, length-append, replicate, length-replicate}
use borrow.Author.Tests.{le-leb, lt-leb, leb-true, leb-false}
use Rattle.octets.specs.Words.{◌≤?◌}
use Rattle.octets.specs.Bytes.{fits, placed}
use Rattle.octets.proofs.Tests.{if_yes, if_no}
use Rattle.octets.proofs.Lists.{placed-append, length-placed}
use Rattle.line_draft.specs.Drafts.{behind, full_draft, draft, added, Adds}
use Rattle.line_draft.specs.declared.Draft.{Draft}

-- ---- what fits, and what does not

module _ (w : List ℕ) (d : Draft) where
  pub added-fits : fits w d.len d.bytes ≡ true → added w d ≡ record { bytes = placed w d.len d.bytes; len = d.len + length w }
  unfolding added
  added-fits e = if_yes _ _ _ e

  pub added_full : fits w d.len d.bytes ≡ false → added w d ≡ full_draft
  unfolding added
  added_full e = if_no _ _ _ e

pub stays-full : (w : List ℕ) → added w full_draft ≡ full_draft
stays-full w = added_full w full_draft (lt-leb (513 + length w) (length {A = ℕ} (replicate 512 0)) (omega (arith, length-replicate {A = ℕ} 512 0)))

pub add-append : (a b : List ℕ) (d : Draft) → added b (added a d) ≡ added (a ++ b) d
add-append a b d = go (fits a d.len d.bytes) refl (fits b (d.len + length a) d.bytes) refl
  where
    go : (p : Bool) → fits a d.len d.bytes ≡ p → (q : Bool) → fits b (d.len + length a) d.bytes ≡ q → added b (added a d) ≡ added (a ++ b) d
    go false e q f =
        let h = leb-false (d.len + length a) (length d.bytes) e in
        ap (added b) (added_full a d e) ∙ stays-full b
        ∙ sym (added_full (a ++ b) d (lt-leb (d.len + length (a ++ b)) (length d.bytes) (omega (arith, length-append a b))))
    go true e false f =
        let h = leb-false (d.len + length a + length b) (length d.bytes) f in
        ap (added b) (added-fits a d e)
        ∙ added_full b (record { bytes = placed a d.len d.bytes; len = d.len + length a }) (ap (λ (n : ℕ). d.len + length a + length b ≤? n) (length-placed a d.len d.bytes) ∙ f)
        ∙ sym (added_full (a ++ b) d (lt-leb (d.len + length (a ++ b)) (length d.bytes) (omega (arith, length-append a b))))
    go true e true f =
        let h = leb-true (d.len + length a + length b) (length d.bytes) f in
        let z : d.len + length a + length b ≡ d.len + length (a ++ b) = omega (arith, length-append a b) in
        let k : d.len + (length a + length b) ≤ length d.bytes = omega arith in
        ap (added b) (added-fits a d e)
        ∙ added-fits b (record { bytes = placed a d.len d.bytes; len = d.len + length a }) (ap (λ (n : ℕ). d.len + length a + length b ≤? n) (length-placed a d.len d.bytes) ∙ f)
        ∙ (λ i. record { bytes = placed-append a b d.len d.bytes k i; len = z i })
        ∙ sym (added-fits (a ++ b) d (le-leb (d.len + length (a ++ b)) (length d.bytes) (omega (arith, length-append a b))))

-- three texts, one behind the other
pub add-three : (a b c : List ℕ) (d : Draft) → added c (added b (added a d)) ≡ added (a ++ (b ++ c)) d
add-three a b c d = add-append b c (added a d) ∙ add-append a (b ++ c) d

-- ---- what a call does to the draft: the array keeps its length

pub adds_none : {l : List ℕ} {at : ℕ} → Adds (λ d. d) l at at l
adds_none = record { draft-is = λ h. refl; long = refl }

pub adds_then : {f g : Draft → Draft} {l x y : List ℕ} {at n r : ℕ} → Adds f l at n x → Adds g x n r y → Adds (λ d. g (f d)) l at r y
adds_then {f} {g} a b = record { draft-is = λ h. b.draft-is (a.long ∙ h) ∙ ap g (a.draft-is h); long = b.long ∙ a.long }

pub adds-as : {f g : Draft → Draft} {l x : List ℕ} {at r : ℕ} → ((d : Draft) → f d ≡ g d) → Adds f l at r x → Adds g l at r x
adds-as {f} {g} {l} {x} {at} e a = record { draft-is = λ h. a.draft-is h ∙ e (draft l at); long = a.long }

-- a draft whose place is in the array, and one past its end
module _ (l : List ℕ) (at : ℕ) where
  pub in_place : at ≤ 512 → draft l at ≡ record { bytes = l; len = at }
  unfolding draft
  in_place k = if_yes _ _ _ (le-leb at 512 k)

  pub past_end : 512 < at → draft l at ≡ full_draft
  unfolding draft
  past_end k = if_no _ _ _ (lt-leb at 512 k)

-- a put adds its bytes
module _ (w : List ℕ) (at : ℕ) (l : List ℕ) (h : length l ≡ 512) where
  put-draft : (b : Bool) → fits w at l ≡ b → (c : Bool) → (at ≤? 512) ≡ c → draft (placed w at l) (if b then at + length w else 513) ≡ added w (draft l at)
  unfolding draft
  put-draft true e c f =
      let k = leb-true (at + length w) (length l) e in
      if_yes _ _ _ (le-leb (at + length w) 512 (omega arith)) ∙ sym (ap (added w) (in_place l at (omega arith)) ∙ added-fits w (record { bytes = l; len = at }) e)
  put-draft false e true f = sym (ap (added w) (in_place l at (leb-true at 512 f)) ∙ added_full w (record { bytes = l; len = at }) e)
  put-draft false e false f = sym (ap (added w) (past_end l at (leb-false at 512 f)) ∙ stays-full w)

pub put-adds : (w : List ℕ) {at r : ℕ} {l x : List ℕ} → r ≡ behind w at l → x ≡ placed w at l → Adds (added w) l at r x
put-adds w {at} {r} {l} {x} p q = record {
  draft-is = λ h. ap (λ (y : List ℕ). draft y r) q ∙ ap (draft (placed w at l)) p ∙ put-draft w at l h (fits w at l) refl (at ≤? 512) refl;
  long = ap length q ∙ length-placed w at l;
}
