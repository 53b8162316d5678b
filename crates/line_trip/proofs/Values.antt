-- The values that are written are read back, and the fields tidied are what is read.
use Rattle.std.specs.Prelude.{Option, Some, None, if◌then◌else◌}
use Rattle.std.specs.Option.{is_some, option_map}
use Prim.Native.Nat.{ℕ, ◌^◌, ◌≤◌}
use mathlib.Core.Path.{◌≡◌, refl, ap, sym, ◌∙◌}
use mathlib.Core.Bool.{Bool, true, false}
use mathlib.Core.List.{List, ◌∷◌}
use native.Mathlib.Omega.{arith}
use lib.IntN.{ℤ}
use mir.Syntax.{w64}
use mir.Val.{SFits}
use borrow.Author.Tests.{ltb-true}
use Rattle.octets.specs.Words.{between, every}
use Rattle.octets.proofs.Tests.{and_left, and_right, and_both, if_yes, inside-high}
use Rattle.text.specs.Digits as numerals
use Rattle.text.specs.Decimal.{number, is_number, decimal, signed, is_signed, signed_decimal, count}
use Rattle.text.specs.Hex.{hex_value, hex_digits}
use Rattle.text.proofs.Numerals.{all_digits}
use Rattle.text.proofs.Decimals.{number-back, signed_back}
use Rattle.text.proofs.Hexes.{hex-back}
use Rattle.tokens.specs.Cuts.{has, before, after}
use Rattle.line_values.specs.Values.{slash, is_part, text_of}
use Rattle.envelope.specs.Rules.{id_in, fragment_in, if_some}
use Rattle.envelope.specs.declared.Fragment.{Fragment}
use Rattle.tokens.specs.Tokens.{Token, value, given}
use Rattle.line_groups.specs.Rules.{kept, optional}
use Rattle.line_groups.specs.Answers.{fragment_at}
use Rattle.line.specs.Writing.{mid_text, part_text}
use Rattle.line_trip.proofs.Texts.{ascii, every_append, decimal-ascii}
use Rattle.line_trip.proofs.Cuts.{before_at, after-at, has-at, has-not}
use Rattle.line_trip.proofs.Lookups.{present-is, value_is}

-- ---- numbers

pub number_is : (limit v : ℕ) → v ≤ limit → (is_number limit (decimal v) ≡ true) × (number (decimal v) ≡ v)
number_is limit v h = go (is_number limit (decimal v)) (number (decimal v)) (number-back limit v h)
  where
    go : (t : Bool) (n : ℕ) → (if t then Some n else None) ≡ Some v → (t ≡ true) × (n ≡ v)
    go true n e = (refl, cc)
    go false n e = cc

pub signed_is : (z : ℤ) → SFits w64 z → (is_signed (signed_decimal z) ≡ true) × (signed (signed_decimal z) ≡ z)
signed_is z f = go (is_signed (signed_decimal z)) (signed (signed_decimal z)) (signed_back z f)
  where
    go : (t : Bool) (n : ℤ) → (if t then Some n else None) ≡ Some z → (t ≡ true) × (n ≡ z)
    go true n e = (refl, cc)
    go false n e = cc

pub id-back : (v : ℕ) → id_in v ≡ true → hex_value (hex_digits 7 v) ≡ v
unfolding id_in
id-back v e = hex-back 7 v (ltb-true v (2 ^ 28) e)

-- ---- N/M

slashless : (v : ℕ) → has slash (decimal v) ≡ false
slashless v = has-not slash (numerals.is_digit 10) refl (decimal v) (all_digits 10 (omega arith) (omega arith) (count v) v)

pub part-ascii : (f : Fragment) → every ascii (part_text f) ≡ true
part-ascii f = every_append ascii (decimal f.index) (slash ∷ decimal f.total) (decimal-ascii f.index) (decimal-ascii f.total)

-- what the keys of a fragment in its range say
module _ (f : Fragment) (e : fragment_in f.mid f.index f.total ≡ true) where
  mid-in : id_in f.mid ≡ true
  unfolding fragment_in
  mid-in = and_left (id_in f.mid) _ e

  index-is : (is_number 65535 (before slash (part_text f)) ≡ true) × (number (before slash (part_text f)) ≡ f.index)
  unfolding fragment_in
  index-is =
      let g = and_right (id_in f.mid) _ e in
      let h = inside-high 2 65535 f.total (and_left (between 2 65535 f.total) _ g) in
      let k = inside-high 1 f.total f.index (and_right (between 2 65535 f.total) _ g) in
      let p = before_at slash (decimal f.index) (decimal f.total) (slashless f.index) in
      let a = number_is 65535 f.index (omega arith) in
      (ap (is_number 65535) p ∙ a.0, ap number p ∙ a.1)

  total-is : (is_number 65535 (after slash (part_text f)) ≡ true) × (number (after slash (part_text f)) ≡ f.total)
  unfolding fragment_in
  total-is =
      let h = inside-high 2 65535 f.total (and_left (between 2 65535 f.total) _ (and_right (id_in f.mid) _ e)) in
      let p = after-at slash (decimal f.index) (decimal f.total) (slashless f.index) in
      let a = number_is 65535 f.total h in
      (ap (is_number 65535) p ∙ a.0, ap number p ∙ a.1)

  pub part_is : is_part (part_text f) ≡ true
  unfolding is_part
  part_is =
      and_both (has slash (part_text f)) _ (has-at slash (decimal f.index) (decimal f.total))
      (and_both (is_number 65535 (before slash (part_text f))) _ index-is.0 total-is.0)

  pub fragment-back : fragment_at (mid_text f) (part_text f) ≡ f
  fragment-back = λ i. record { mid = id-back f.mid mid-in i; index = index-is.1 i; total = total-is.1 i }

-- ---- where there is a value

pub some-map : {A B : Type 0} (f : A → B) (o : Option A) → is_some (option_map f o) ≡ is_some o
some-map f None = refl
some-map f (Some x) = refl

pub map-map : {A B C : Type 0} (g : B → C) (f : A → B) (o : Option A) → option_map g (option_map f o) ≡ option_map (λ x. g (f x)) o
map-map g f None = refl
map-map g f (Some x) = refl

-- a value that is written, and read
pub read_back : {A : Type 0} (f : A → List ℕ) (g : List ℕ → A) (o : Option A) → ((x : A) → o ≡ Some x → g (f x) ≡ x) → option_map g (option_map f o) ≡ o
read_back f g None e = refl
read_back f g (Some x) e = ap (λ x. Some x) (e x refl)

-- and its rule
module _ {A : Type 0} (rule : List ℕ → Bool) (f : A → List ℕ) where
  ruled : (o : Option A) → ((x : A) → o ≡ Some x → rule (f x) ≡ true) → kept (is_some (option_map f o)) rule (text_of (option_map f o)) ≡ true
  ruled None q = refl
  ruled (Some x) q = q x refl

  pub rule-back : (o : Option A) (k : List ℕ) (ts : List Token) → given k ts ≡ option_map f o → ((x : A) → o ≡ Some x → rule (f x) ≡ true) → optional k rule ts ≡ true
  rule-back o k ts p q =
      ap (λ (b : Bool). kept b rule (value k ts)) (present-is k ts (option_map f o) p)
      ∙ ap (λ (v : List ℕ). kept (is_some (option_map f o)) rule v) (value_is k ts (option_map f o) p)
      ∙ ruled o q

pub when-some : {A : Type 0} (P : A → Bool) (o : Option A) (x : A) → if_some P o ≡ true → o ≡ Some x → P x ≡ true
when-some P o x e f = ap (if_some P) (sym f) ∙ e

pub when-set : (b t : Bool) → (if b then t else true) ≡ true → b ≡ true → t ≡ true
when-set b t e f = sym (if_yes b t true f) ∙ e
