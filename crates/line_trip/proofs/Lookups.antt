-- Keys looked up among the tokens that are written: each choice says whether its key is there, and headers are passed by.
use Rattle.std.specs.Prelude.{Option, Some, None, if◌then◌else◌}
use Rattle.std.specs.Option.{is_some, option_map, option_or, option_to_list}
use Prim.Native.Nat.{ℕ, zero, suc, ◌<◌}
use mathlib.Core.Path.{◌≡◌, refl, ap, sym, ◌∙◌}
use mathlib.Core.Bool.{Bool, true, false}
use mathlib.Core.List.{List, [], ◌∷◌, ◌++◌}
use native.Mathlib.Omega.{arith}
use lib.ListN.{length, get_or}
use Rattle.octets.specs.Words.{◌and◌, ◌or◌, no, every, some}
use Rattle.octets.specs.Bytes.{same}
use Rattle.octets.proofs.Tests.{if_yes, if_no, and_left, and_right, and_both, or_left, or-next, true-not-false, no_false, or_no}
use Rattle.octets.proofs.Lists.{same-eq}
use Rattle.names.specs.Reserved.{reserved}
use Rattle.headers.specs.Keys.{all_differ}
use Rattle.envelope.specs.Rules.{if_some}
use Rattle.tokens.specs.Tokens.{Token, token, keys, present, value, given, others, none, last_only}
use Rattle.line_values.specs.Values.{text_of}
use Rattle.line_fields.proofs.Groups.{given-some, given-text}
use Rattle.line.specs.Writing.{Choice, chosen}
use Rattle.line_trip.proofs.Cuts.{sound}

pub not-no : (a : Bool) → no a ≡ true → a ≡ false
not-no true e = true-not-false false e refl
not-no false e = refl

-- ---- what the value that is found says of its key

module _ (k : List ℕ) (ts : List Token) (o : Option (List ℕ)) (e : given k ts ≡ o) where
  pub present-is : present k ts ≡ is_some o
  present-is = sym (given-some k ts) ∙ ap (λ (v : Option (List ℕ)). is_some v) e

  pub value_is : value k ts ≡ text_of o
  value_is = sym (given-text k ts) ∙ ap (λ (v : Option (List ℕ)). text_of v) e

-- ---- among choices, whose keys are known: the first value of the key, then what stands behind them

abbrev pub given_in : List ℕ → List Choice → Option (List ℕ) → Option (List ℕ)
given_in k [] d = d
given_in k (o ∷ os) d = if same k o.key then option_or o.text (given_in k os d) else given_in k os d

given-cons : (k : List ℕ) (t : Token) (ts : List Token) → given k (t ∷ ts) ≡ (if same k t.key then Some t.value else given k ts)
unfolding present value
given-cons k t ts = go (same k t.key)
  where
    go : (b : Bool) → (if b or present k ts then Some (if b then t.value else value k ts) else None) ≡ (if b then Some t.value else given k ts)
    go true = refl
    go false = refl

both : {A : Type 0} (b : Bool) (x : A) → x ≡ (if b then x else x)
both true x = refl
both false x = refl

pub given-chosen : (k : List ℕ) (os : List Choice) (ts : List Token) → given k (chosen os ++ ts) ≡ given_in k os (given k ts)
unfolding chosen
given-chosen k [] ts = refl
given-chosen k (o ∷ os) ts = go o.text (given-chosen k os ts)
  where
    go : (v : Option (List ℕ)) → given k (chosen os ++ ts) ≡ given_in k os (given k ts)
        → given k ((option_to_list (option_map (token o.key) v) ++ chosen os) ++ ts) ≡ (if same k o.key then option_or v (given_in k os (given k ts)) else given_in k os (given k ts))
    go None h = h ∙ both (same k o.key) (given_in k os (given k ts))
    go (Some v) h = given-cons k (token o.key v) (chosen os ++ ts) ∙ ap (λ (d : Option (List ℕ)). if same k o.key then Some v else d) h

pub or-none : {A : Type 0} (o : Option A) → option_or o None ≡ o
or-none None = refl
or-none (Some x) = refl

-- ---- past headers, whose keys are not reserved

abbrev pub free : Token → Bool
free t = no (reserved t.key)

differs : (k : List ℕ) (t : Token) → reserved k ≡ true → free t ≡ true → same k t.key ≡ false
differs k t r f = go (same k t.key) refl
  where
    go : (b : Bool) → same k t.key ≡ b → b ≡ false
    go false e = refl
    go true e = true-not-false (reserved t.key) (ap reserved (sym (same-eq k t.key e)) ∙ r) (not-no (reserved t.key) f)

pub given-past : (k : List ℕ) (ts : List Token) → reserved k ≡ true → (hs : List Token) → every free hs ≡ true → given k (hs ++ ts) ≡ given k ts
given-past k ts r [] e = refl
given-past k ts r (h ∷ hs) e = given-cons k h (hs ++ ts) ∙ if_no _ _ _ (differs k h r (and_left (free h) (every free hs) e)) ∙ given-past k ts r hs (and_right (free h) (every free hs) e)

-- a key that is not reserved is none of the reserved ones
pub some-no : (k : List ℕ) (ks : List (List ℕ)) (i : ℕ) → i < length ks → some (same k) ks ≡ false → same k (get_or ks i []) ≡ false
some-no k [] i l e = absurd (omega arith)
some-no k (x ∷ ks) zero l e = (or_no (same k x) (some (same k) ks) e).0
some-no k (x ∷ ks) (suc i) l e = some-no k ks i (omega arith) (or_no (same k x) (some (same k) ks) e).1

-- ---- no key twice

abbrev pub once : List Token → Bool
once ts = all_differ (keys ts)

present-append : (k : List ℕ) (a b : List Token) → present k a ≡ false → present k b ≡ false → present k (a ++ b) ≡ false
unfolding present
present-append k [] b e f = f
present-append k (t ∷ a) b e f = let g = or_no (same k t.key) (present k a) e in or-next _ _ g.0 ∙ present-append k a b g.1 f

abbrev pub apart : List Token → Token → Bool
apart b t = no (present t.key b)

pub once-append : (a b : List Token) → once a ≡ true → once b ≡ true → every (apart b) a ≡ true → once (a ++ b) ≡ true
unfolding all_differ present
once-append [] b p q r = q
once-append (t ∷ a) b p q r =
    and_both (no (present t.key (a ++ b))) (once (a ++ b))
    (no_false _ (present-append t.key a b (not-no (present t.key a) (and_left _ _ p)) (not-no (present t.key b) (and_left (apart b t) (every (apart b) a) r))))
    (once-append a b (and_right (no (present t.key a)) _ p) q (and_right (apart b t) (every (apart b) a) r))

-- the choices' keys: no two the same, and none among the tokens behind
abbrev pub any_key : List ℕ → List Choice → Bool
any_key k [] = false
any_key k (o ∷ os) = same k o.key or any_key k os

abbrev pub clear : List Choice → List Token → Bool
clear [] ts = true
clear (o ∷ os) ts = no (any_key o.key os) and (no (present o.key ts) and clear os ts)

any-given : (k : List ℕ) (os : List Choice) (d : Option (List ℕ)) → any_key k os ≡ false → given_in k os d ≡ d
any-given k [] d e = refl
any-given k (o ∷ os) d e = let f = or_no (same k o.key) (any_key k os) e in if_no _ _ _ f.0 ∙ any-given k os d f.1

once-cons : (t : Token) (ts : List Token) → present t.key ts ≡ false → once ts ≡ true → once (t ∷ ts) ≡ true
unfolding all_differ present
once-cons t ts e f = and_both (no (present t.key ts)) (once ts) (no_false _ e) f

pub once-chosen : (os : List Choice) (ts : List Token) → once ts ≡ true → clear os ts ≡ true → once (chosen os ++ ts) ≡ true
unfolding chosen
once-chosen [] ts r e = r
once-chosen (o ∷ os) ts r e =
    let k = o.key in
    let a = not-no (any_key k os) (and_left (no (any_key k os)) (no (present k ts) and clear os ts) e) in
    let b = and_right (no (any_key k os)) (no (present k ts) and clear os ts) e in
    let f = not-no (present k ts) (and_left (no (present k ts)) (clear os ts) b) in
    let ih = once-chosen os ts r (and_right (no (present k ts)) (clear os ts) b) in
    let g = present-is k (chosen os ++ ts) (given k ts) (given-chosen k os ts ∙ any-given k os (given k ts) a) ∙ given-some k ts ∙ f in
    go o.text g ih
  where
    go : (v : Option (List ℕ)) → present o.key (chosen os ++ ts) ≡ false → once (chosen os ++ ts) ≡ true → once ((option_to_list (option_map (token o.key) v) ++ chosen os) ++ ts) ≡ true
    go None g ih = ih
    go (Some v) g ih = once-cons (token o.key v) (chosen os ++ ts) g ih

-- ---- the headers among the tokens

pub others-append : (a b : List Token) → others (a ++ b) ≡ others a ++ others b
unfolding others
others-append [] b = refl
others-append (t ∷ a) b = go (reserved t.key) (others-append a b)
  where
    go : (r : Bool) → others (a ++ b) ≡ others a ++ others b → (if r then others (a ++ b) else (t ∷ others (a ++ b))) ≡ (if r then others a else (t ∷ others a)) ++ others b
    go true h = h
    go false h = ap (λ (l : List Token). t ∷ l) h

pub others-free : (hs : List Token) → every free hs ≡ true → others hs ≡ hs
unfolding others
others-free [] e = refl
others-free (h ∷ hs) e =
    if_no _ _ _ (not-no (reserved h.key) (and_left (free h) (every free hs) e)) ∙ ap (λ (l : List Token). h ∷ l) (others-free hs (and_right (free h) (every free hs) e))

abbrev pub reserved_choice : Choice → Bool
reserved_choice o = reserved o.key

pub others-chosen : (os : List Choice) → every reserved_choice os ≡ true → others (chosen os) ≡ []
unfolding chosen others
others-chosen [] e = refl
others-chosen (o ∷ os) e = go o.text (others-chosen os (and_right (reserved_choice o) (every reserved_choice os) e))
  where
    go : (v : Option (List ℕ)) → others (chosen os) ≡ [] → others (option_to_list (option_map (token o.key) v) ++ chosen os) ≡ []
    go None ih = ih
    go (Some v) ih = if_yes _ _ _ (and_left (reserved_choice o) (every reserved_choice os) e) ∙ ih

pub last-only : (k : List ℕ) (a : List Token) (t : Token) → present k a ≡ false → last_only k (keys (a ++ (t ∷ []))) ≡ true
unfolding present last_only
last-only k [] t e = go (no (same k t.key))
  where
    go : (b : Bool) → (b or true) and true ≡ true
    go true = refl
    go false = refl
last-only k (u ∷ a) t e =
    let f = or_no (same k u.key) (present k a) e in
    and_both (no (same k u.key) or none (keys (a ++ (t ∷ [])))) _ (or_left _ _ (no_false _ f.0)) (last-only k a t f.1)

-- ---- sound tokens

abbrev pub sound_choice : Choice → Bool
sound_choice o = if_some (λ v. sound (token o.key v)) o.text

pub sound-chosen : (os : List Choice) → every sound_choice os ≡ true → every sound (chosen os) ≡ true
unfolding chosen
sound-chosen [] e = refl
sound-chosen (o ∷ os) e = go o.text (sound-chosen os (and_right (sound_choice o) (every sound_choice os) e)) (and_left (sound_choice o) (every sound_choice os) e)
  where
    go : (v : Option (List ℕ)) → every sound (chosen os) ≡ true → if_some (λ v. sound (token o.key v)) v ≡ true → every sound (option_to_list (option_map (token o.key) v) ++ chosen os) ≡ true
    go None ih f = ih
    go (Some v) ih f = and_both (sound (token o.key v)) (every sound (chosen os)) f ih
