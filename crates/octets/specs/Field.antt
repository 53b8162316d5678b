-- A field of a binary format: how it is read from the front of a list of bytes, how it is written, which values it may hold, and
-- what of a value counts. A format is put together from fields; its reader, its writer and its rules then come from one text.
use Rattle.std.specs.Prelude.{ℕ, zero, suc, ◌+◌, ◌^◌, List, [], ◌∷◌, ◌++◌, map, Bool, true, false, length, take, drop, ℤ, Option, Some, None, option_map, if◌then◌else◌}
use Rattle.std.specs.Int.Signed.{mag}
use Rattle.octets.specs.Words.{◌and◌, no, every, ◌<?◌, ◌≤?◌, ◌=?◌}
use Rattle.octets.specs.Numbers.{little, little_bytes, twos, from_twos}

-- what reading finds: a value with the number of bytes that it took, or nothing
pub data Res (A : Type 0) : Type 0 where
  bad : Res A
  got : A → ℕ → Res A

abbrev pub bind : {A B : Type 0} → Res A → (A → ℕ → Res B) → Res B
bind bad k = bad
bind (got a n) k = k a n

-- parse reads from the front, print writes, ok says which values are good, tidy clears what is no part of the value
pub record Field (A : Type 0) : Type 0 where
  pub parse : List ℕ → Res A
  pub print : A → List ℕ
  pub ok : A → Bool
  pub tidy : A → A

-- a number in w bytes
abbrev pub num : ℕ → Field ℕ
num w = record {
  parse = λ s. if w ≤? length s then got (little (take w s)) w else bad;
  print = little_bytes w;
  ok = λ v. v <? 256 ^ w;
  tidy = λ v. v;
}

-- k bytes that each pass a test
abbrev pub raw : (ℕ → Bool) → ℕ → Field (List ℕ)
raw p k = record {
  parse = λ s. if k ≤? length s and every p (take k s) then got (take k s) k else bad;
  print = λ l. l;
  ok = λ l. length l =? k and every p l;
  tidy = λ l. l;
}

-- a field of which only the values that pass a test are good
abbrev pub only : {A : Type 0} → (A → Bool) → Field A → Field A
only p F = record {
  parse = λ s. bind (F.parse s) (λ a n. if p a then got a n else bad);
  print = F.print;
  ok = λ a. F.ok a and p a;
  tidy = F.tidy;
}

-- a field that is there where b is true; where it is not, any value stands for it, and `blank` is read
abbrev pub when : {A : Type 0} → Bool → A → Field A → Field A
when true blank F = F
when false blank F = record { parse = λ s. got blank 0; print = λ a. []; ok = λ a. true; tidy = λ a. blank }

-- a field of an Option: where b is true it is there, and read in Some; where b is false there is None, and nothing is read
abbrev pub given_print : {A : Type 0} → Field A → Option A → List ℕ
given_print F None = []
given_print F (Some x) = F.print x

abbrev pub given_ok : {A : Type 0} → Bool → Field A → Option A → Bool
given_ok b F None = no b
given_ok b F (Some x) = b and F.ok x

abbrev pub given : {A : Type 0} → Bool → Field A → Field (Option A)
given b F = record {
  parse = λ s. if b then bind (F.parse s) (λ a n. got (Some a) n) else got None 0;
  print = given_print F;
  ok = given_ok b F;
  tidy = option_map F.tidy;
}

-- a field and then one that depends on its value
abbrev pub seq : {A B : Type 0} → Field A → (A → Field B) → Field (A × B)
seq F G = record {
  parse = λ s. bind (F.parse s) (λ a n. bind ((G a).parse (drop n s)) (λ b m. got (a, b) (n + m)));
  print = λ x. F.print x.0 ++ (G x.0).print x.1;
  ok = λ x. F.ok x.0 and (G x.0).ok x.1;
  tidy = λ x. (F.tidy x.0, (G x.0).tidy x.1);
}

-- a field whose value the next one's value tells, as a length
abbrev pub tagged : {A B : Type 0} → (B → A) → Field A → (A → Field B) → Field B
tagged key F G = record {
  parse = λ s. bind (F.parse s) (λ a n. bind ((G a).parse (drop n s)) (λ b m. got b (n + m)));
  print = λ b. F.print (key b) ++ (G (key b)).print b;
  ok = λ b. F.ok (key b) and (G (key b)).ok b;
  tidy = λ b. (G (key b)).tidy b;
}

-- the same field, its value held another way; only what passes `holds` is good
abbrev pub through : {A B : Type 0} → (A → B) → (B → A) → (B → Bool) → Field A → Field B
through to from holds F = record {
  parse = λ s. bind (F.parse s) (λ a n. got (to a) n);
  print = λ b. F.print (from b);
  ok = λ b. holds b and F.ok (from b);
  tidy = λ b. to (F.tidy (from b));
}

-- k values, one after the other: a list is one value followed by a shorter list
abbrev pub many_parse : {A : Type 0} → Field A → ℕ → List ℕ → Res (List A)
many_parse F zero s = got [] 0
many_parse F (suc k) s = bind (F.parse s) (λ a n. bind (many_parse F k (drop n s)) (λ l m. got (a ∷ l) (n + m)))

abbrev pub many_print : {A : Type 0} → Field A → List A → List ℕ
many_print F [] = []
many_print F (a ∷ l) = F.print a ++ many_print F l

abbrev pub many : {A : Type 0} → Field A → ℕ → Field (List A)
many F k = record {
  parse = many_parse F k;
  print = many_print F;
  ok = λ l. length l =? k and every F.ok l;
  tidy = map F.tidy;
}

-- a signed number in eight bytes
abbrev pub signed_num : Field ℤ
signed_num = through from_twos twos (λ z. mag z <? 2 ^ 63) (num 8)
