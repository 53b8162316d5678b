-- The whole datagram, from what was tested on the way: the paper's order of refusals.
use Prim.Native.Nat.{ℕ, ◌+◌, ◌-◌, ◌≤◌, ◌<◌}
use mathlib.Core.Path.{◌≡◌, refl, ap, sym, ◌∙◌}
use mathlib.Core.List.{List, [], ◌∷◌}
use native.Mathlib.Omega.{arith}
use borrow.Author.Tests.{lt-ltb, le-ltb, eq-eqb, ne_eqb}
use lib.ListN.{length, drop, get_or}
use lib.Seq.{drop-drop}
use Rattle.octets.specs.Field.{Res, bad, got, num}
use Rattle.octets.proofs.FieldLaws.{num_laws}
use Rattle.octets.proofs.Tests.{if_yes, if_no}
use Rattle.layout.specs.declared.Datagram.{Datagram}
use Rattle.layout.specs.Layout.{message}
use Rattle.std.proofs.Common.{Result}
use Rattle.refusals.specs.declared.Refusal.{Refusal}
use Rattle.datagram.specs.Groups.{says_with}
use Rattle.datagram.specs.Answer.{accepted, refused, after_length, after_fields, read_of}
use Rattle.datagram_numbers.proofs.Chains.{tail, rest, tail-length}

-- ---- the order of the refusals

pub empty : (d : List ℕ) → length d < 1 → refused 6 ≡ read_of d
unfolding read_of
empty [] h = refl
empty (x ∷ d) h = absurd (omega arith)

pub other-version : (d : List ℕ) → 1 ≤ length d → (get_or d 0 0 ≡ 7 → ⊥) → refused 6 ≡ read_of d
unfolding read_of
other-version [] h e = refl
other-version (x ∷ d) h e = rw (ne_eqb x 7 e)

pub not_version : (d : List ℕ) → 1 ≤ length d → (get_or d 0 0 ≡ 7 → ⊥) → read_of d ≡ refused 6
not_version d h e = sym (other-version d h e)

pub version-7 : (d : List ℕ) → 1 ≤ length d → get_or d 0 0 ≡ 7 → read_of d ≡ after_fields d (message.parse (drop 1 d))
unfolding read_of
version-7 [] h e = absurd (omega arith)
version-7 (x ∷ d) h e = rw (eq-eqb x 7 e)

-- ---- the fields behind the version

pub fields-bad : (d : List ℕ) → message.parse (tail 1 d) ≡ bad → refused 7 ≡ after_fields d (message.parse (drop 1 d))
fields-bad d e = rw (← rest 1 d, e)

pub fields-got : (d : List ℕ) (m : Datagram) (n at : ℕ) (r : Result (ℕ × ℕ) Refusal) → message.parse (tail 1 d) ≡ got m n → at ≡ 1 + n
    → says_with m r ≡ after_length d m at ((num 4).parse (drop at d)) → says_with m r ≡ after_fields d (message.parse (drop 1 d))
fields-got d m n at r e f g = g ∙ rw (f, ← rest 1 d, e)

-- ---- the order of the refusals behind the version: 7 for the fields, 4, 7 for the rest

module _ (d : List ℕ) (h : 1 ≤ length d) (e : get_or d 0 0 ≡ 7) where
  fields_in : (x : Res Datagram) → message.parse (tail 1 d) ≡ x → read_of d ≡ after_fields d x
  fields_in x f = version-7 d h e ∙ ap (after_fields d) (ap message.parse (sym (rest 1 d)) ∙ f)

  pub no_fields : message.parse (tail 1 d) ≡ bad → refused 7 ≡ read_of d
  no_fields f = sym (fields_in bad f)

  module _ (m : Datagram) (n : ℕ) (f : message.parse (tail 1 d) ≡ got m n) (room : n ≤ length (tail 1 d)) where
    length-in : (x : Res ℕ) → (num 4).parse (tail n (tail 1 d)) ≡ x → read_of d ≡ after_length d m (1 + n) x
    length-in x g =
        let q : drop (1 + n) d ≡ tail n (tail 1 d) = sym (rest n (tail 1 d) ∙ ap (drop n) (rest 1 d) ∙ drop-drop n 1 d) in
        fields_in (got m n) f ∙ ap (after_length d m (1 + n)) (ap (num 4).parse q ∙ g)

    pub no_length : (num 4).parse (tail n (tail 1 d)) ≡ bad → refused 7 ≡ read_of d
    no_length g = sym (length-in bad g)

    module _ (v k : ℕ) (g : (num 4).parse (tail n (tail 1 d)) ≡ got v k) where
      pub too_long : 4096 < v → refused 4 ≡ read_of d
      too_long i = sym (length-in (got v k) g ∙ if_yes _ _ _ (lt-ltb 4096 v i))

      tail-whole : length (tail n (tail 1 d)) ≡ length d - (1 + n)
      tail-whole = tail-length n (tail 1 d) ∙ (let z = tail-length 1 d in omega (arith, z))

      length-room : k ≤ length (tail n (tail 1 d))
      length-room = (num_laws 4).room (tail n (tail 1 d)) v k g

      pub whole_room : 1 + n + k ≤ length d
      whole_room = omega (arith, tail-length n (tail 1 d), tail-length 1 d, length-room, room)

      pub other_length : v ≤ 4096 → (length (tail n (tail 1 d)) - k ≡ v → ⊥) → refused 7 ≡ read_of d
      other_length i j =
          sym (length-in (got v k) g ∙ if_no _ _ _ (le-ltb 4096 v i) ∙ if_no _ _ _ (ne_eqb (1 + n + k + v) (length d) (λ q. j (omega (arith, tail-whole, whole_room)))))

      pub read_whole : v ≤ 4096 → length (tail n (tail 1 d)) - k ≡ v → accepted m (1 + n + k) v ≡ read_of d
      read_whole i j =
          sym (length-in (got v k) g ∙ if_no _ _ _ (le-ltb 4096 v i) ∙ if_yes _ _ _ (eq-eqb (1 + n + k + v) (length d) (omega (arith, tail-whole, whole_room))))
