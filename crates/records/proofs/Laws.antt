-- The record's fields keep the laws of fields, and a key and a row that keep their rules are what a record holds.
use Prim.Native.Nat.{ℕ, zero, suc, ◌+◌, ◌-◌, ◌*◌, ◌^◌, ◌≤◌}
use native.Mathlib.Omega.{arith}
use mathlib.Core.Path.{◌≡◌, refl, sym, ap, ◌∙◌}
use mathlib.Core.Bool.{Bool, true}
use mathlib.Core.List.{List, [], ◌∷◌, ◌++◌, map}
use lib.ListN.{length, take, drop, replicate, length-append, length-drop, take-append-drop}
use lib.Seq.{length-take-le}
use borrow.Author.Tests.{eqb-true, eq-eqb, lt-ltb, le-leb, leb-true}
use Rattle.octets.specs.Words.{◌and◌, every, ◌≤?◌, ◌=?◌}
use Rattle.octets.specs.Bytes.{front}
use Rattle.octets.specs.Numbers.{little_bytes}
use Rattle.octets.specs.Field.{num, raw, only, seq, many, many_print}
use Rattle.octets.proofs.Tests.{and_left, and_right, and_both}
use Rattle.octets.proofs.NumberLaws.{length-bytes}
use Rattle.octets.proofs.FieldLaws.{Laws, num_laws, raw_laws, only-laws, seq-laws, tagged-laws, through-laws, many-laws}
use Rattle.callsigns.specs.Callsign.{callsign}
use Rattle.callsigns.proofs.Lengths.{callsign-short}
use Rattle.names.specs.Texts.{stream_id}
use Rattle.names.proofs.Lengths.{stream_id-short}
use Rattle.keys.specs.declared.Key.{Key}
use Rattle.keys.specs.Key.{originator_of, stream_id_of, key_of, holds_name, keeps_key}
use Rattle.keys.proofs.Names.{zeros-are, originator-back, id-back, key-keeps, key-names}
use Rattle.places.specs.declared.Held.{Held}
use Rattle.rows.specs.declared.Row.{Row}
use Rattle.rows.specs.Stream.{Stream, words, keeps}
use Rattle.rows.specs.Row.{stream_of, row_of, keeps_row}
use Rattle.rows.proofs.Rules.{kept_row, packs, unpacks, keeps-row, keep, held-most}
use Rattle.records.specs.Record.{text, names, key, message, messages, stream, row, body}

-- ---- texts and the key

abbrev pub any : ℕ → Bool
any b = true

pub all_any : (l : List ℕ) → every any l ≡ true
all_any [] = refl
all_any (b ∷ l) = all_any l

pub text-laws : Laws text
unfolding text
text-laws = tagged-laws length (num 1) (raw any) (λ n l e. eqb-true (length l) n (and_left _ _ e)) (λ n e. refl) (num_laws 1) (raw_laws any)

text-good : (l : List ℕ) → length l ≤ 255 → text.ok l ≡ true
unfolding text
text-good l h = and_both _ _ (lt-ltb (length l) (256 ^ 1) (omega arith)) (and_both _ _ (eq-eqb (length l) (length l) refl) (all_any l))

names-laws : Laws names
unfolding text
names-laws = only-laws (λ x. callsign x.0 and stream_id x.1) (seq text (λ o. text)) (λ x e. refl) (seq-laws text (λ o. text) (λ o e. refl) text-laws (λ o. text-laws))

names-right : (x : List ℕ × List ℕ) → names.ok x ≡ true → (callsign x.0 ≡ true) × (stream_id x.1 ≡ true)
names-right x e =
    let b = and_right (text.ok x.0 and text.ok x.1) _ e in
    (and_left (callsign x.0) _ b, and_right (callsign x.0) _ b)

-- what is left of an array of one value
pub drop-same : {A : Type 0} (a : A) (n m : ℕ) → drop n (replicate m a) ≡ replicate (m - n) a
drop-same a zero m = ap (λ (k : ℕ). replicate k a) (let z : m ≡ m - 0 = omega arith in z)
drop-same a (suc n) zero = ap (λ (k : ℕ). replicate k a) (let z : 0 ≡ 0 - suc n = omega arith in z)
drop-same a (suc n) (suc m) = drop-same a n m ∙ ap (λ (k : ℕ). replicate k a) (let z : m - n ≡ suc m - suc n = omega arith in z)

-- a name in its array is the front of zeros
name-packs : (size : ℕ) (valid : List ℕ → Bool) (n : ℕ) (a : List ℕ) → holds_name size valid n a ≡ true → (front (take n a) (replicate size 0) ≡ a) × (length (take n a) ≡ n)
name-packs size valid n a e =
    let l = eqb-true (length a) size (and_left (length a =? size) _ e) in
    let f = and_right (length a =? size) _ e in
    let h = leb-true n size (and_left (n ≤? size) _ f) in
    let z = and_right (valid (take n a)) _ (and_right (n ≤? size) _ f) in
    let t : length (take n a) ≡ n = length-take-le n a (omega arith) in
    let d : drop n a ≡ replicate (size - n) 0 = zeros-are (drop n a) (size - n) (length-drop n a ∙ ap (λ (k : ℕ). k - n) l) z in
    (ap (λ (r : List ℕ). take n a ++ r) (ap (λ (k : ℕ). drop {A = ℕ} k (replicate size 0)) t ∙ drop-same 0 n size ∙ sym d) ∙ take-append-drop n a, t)

key-packs : (k : Key) → keeps_key k ≡ true → key_of (originator_of k) (stream_id_of k) ≡ k
unfolding keeps_key key_of
key-packs k e =
    let a = name-packs 12 callsign k.originator_len k.originator (and_left _ _ e) in
    let b = name-packs 255 stream_id k.stream_id_len k.stream_id (and_right (holds_name 12 callsign k.originator_len k.originator) _ e) in
    λ i. record { originator = a.0 i; originator_len = a.1 i; stream_id = b.0 i; stream_id_len = b.1 i }

pair_is : (o s a b : List ℕ) → o ≡ a → s ≡ b → ◌≡◌ {A = List ℕ × List ℕ} (o, s) (a, b)
pair_is o s a b e f = cc

pub key_laws : Laws key
unfolding key
key_laws = through-laws (λ x. key_of x.0 x.1) (λ k. (originator_of k, stream_id_of k)) keeps_key names
    (λ x e.
    let v = names-right x e in
    (pair_is _ _ x.0 x.1 (originator-back x.0 x.1) (id-back x.0 x.1), key-keeps x.0 x.1 v.0 v.1))
    names-laws

module _ (k : Key) (e : keeps_key k ≡ true) where
  pub key-good : key.ok k ≡ true
  unfolding key
  key-good =
      let v = key-names k e in
      let a : length (originator_of k) ≤ 255 = omega (arith, callsign-short (originator_of k) v.0) in
      and_both _ _ e
      (and_both _ _ (and_both _ _ (text-good (originator_of k) a) (text-good (stream_id_of k) (stream_id-short (stream_id_of k) v.1))) (and_both _ _ v.0 v.1))

  pub key-tidy : key.tidy k ≡ k
  unfolding key text
  key-tidy = key-packs k e

-- ---- the row

pub message-laws : Laws message
unfolding message
message-laws = through-laws _ _ (λ m. true) _ (λ a e. (refl, refl))
    (seq-laws (num 4) _ (λ a e. refl) (num_laws 4) (λ n. seq-laws (num 4) _ (λ a e. refl) (num_laws 4) (λ t. num_laws 4)))

pub messages-laws : Laws messages
unfolding messages
messages-laws = tagged-laws length (only (λ n. n ≤? 16) (num 1)) (many message) (λ n l e. eqb-true (length l) n (and_left _ _ e)) (λ n e. refl)
    (only-laws (λ n. n ≤? 16) (num 1) (λ a e. refl) (num_laws 1)) (λ n. many-laws message n message-laws)

stream-laws : Laws stream
stream-laws = through-laws _ _ (λ s. true) _ (λ a e. (refl, refl))
    (seq-laws (num 8) _ (λ a e. refl) (num_laws 8) (λ e. seq-laws (num 4) _ (λ a e. refl) (num_laws 4) (λ c. seq-laws (num 4) _ (λ a e. refl) (num_laws 4) (λ g. messages-laws))))

-- messages are tidy as they are
tidy-all : (l : List Held) → map message.tidy l ≡ l
unfolding message
tidy-all [] = refl
tidy-all (m ∷ l) = ap (λ (r : List Held). m ∷ r) (tidy-all l)

stream-tidy : (s : Stream) → stream.tidy s ≡ s
unfolding messages
stream-tidy s = ap {B = Stream} (λ (l : List Held). record { expected = s.expected; clock = s.clock; gap_start = s.gap_start; held = l }) (tidy-all s.held)

pub row_laws : Laws row
unfolding row
row_laws = through-laws row_of stream_of keeps_row (only keeps stream)
    (λ s e. (unpacks s, keeps-row s (and_right (stream.ok s) _ e)))
    (only-laws keeps stream (λ s e. ap keeps (stream-tidy s)) stream-laws)

words-good : (l : List Held) → every words l ≡ true → every message.ok l ≡ true
unfolding message
words-good [] e = refl
words-good (m ∷ l) e = let w = and_left (words m) _ e in and_both _ _ w (words-good l (and_right (words m) _ e))

module _ (r : Row) (e : keeps_row r ≡ true) where
  pub row-good : row.ok r ≡ true
  unfolding row messages
  row-good =
      let k = kept_row r e in
      let s = k.stream in
      let l = (stream_of r).held in
      let m = held-most (stream_of r) s in
      and_both _ _ e
      (and_both _ _
      (and_both _ _ (lt-ltb r.expected (256 ^ 8) (omega (arith, s.high)))
      (and_both _ _ (lt-ltb r.clock (256 ^ 4) s.clock)
      (and_both _ _ (lt-ltb r.gap_start (256 ^ 4) (omega (arith, s.clock, s.since)))
      (and_both _ _ (and_both _ _ (lt-ltb (length l) (256 ^ 1) (omega arith)) (le-leb (length l) 16 m)) (and_both _ _ (eq-eqb (length l) (length l) refl) (words-good l s.sizes))))))
      (keep (stream_of r) s))

  pub row-tidy : row.tidy r ≡ r
  unfolding row
  row-tidy = ap row_of (stream-tidy (stream_of r)) ∙ sym (packs r e)

-- ---- the record

pub body-laws : Laws body
unfolding body
body-laws = seq-laws key (λ k. row) (λ a e. refl) key_laws (λ k. row_laws)

module _ (k : Key) (r : Row) where
  pub body-good : keeps_key k ≡ true → keeps_row r ≡ true → body.ok (k, r) ≡ true
  unfolding body
  body-good e f = and_both _ _ (key-good k e) (row-good r f)

  pub body-tidy : keeps_key k ≡ true → keeps_row r ≡ true → body.tidy (k, r) ≡ (k, r)
  unfolding body
  body-tidy e f = let a = key-tidy k e in let b = row-tidy r f in cc

  pub body-rules : body.ok (k, r) ≡ true → (keeps_key k ≡ true) × (keeps_row r ≡ true)
  unfolding body key row
  body-rules e = (and_left (keeps_key k) _ (and_left (key.ok k) _ e), and_left (keeps_row r) _ (and_right (key.ok k) _ e))

-- ---- how long a record is

pub text-size : (l : List ℕ) → length (text.print l) ≡ 1 + length l
unfolding text
text-size l = length-append (little_bytes 1 (length l)) l ∙ ap (λ (k : ℕ). k + length l) (length-bytes 1 (length l))

pub message-size : (m : Held) → length (message.print m) ≡ 12
unfolding message
message-size m = rw (length-append, length-append, length-bytes, length-bytes, length-bytes)

pub many-size : (l : List Held) → length (many_print message l) ≡ 12 * length l
many-size [] = refl
many-size (m ∷ l) = length-append (message.print m) (many_print message l) ∙ (omega (arith, message-size m, many-size l))

pub key-size : (k : Key) → length (key.print k) ≡ 2 + length (originator_of k) + length (stream_id_of k)
unfolding key
key-size k = length-append (text.print (originator_of k)) (text.print (stream_id_of k)) ∙ (omega (arith, text-size (originator_of k), text-size (stream_id_of k)))

pub row-size : (r : Row) → length (row.print r) ≡ 17 + 12 * length (stream_of r).held
unfolding row messages
row-size r = rw (length-append, length-append, length-append, length-append, length-bytes, length-bytes, length-bytes, length-bytes, many-size) (omega arith)

module _ (k : Key) (r : Row) where
  pub body-size : length (body.print (k, r)) ≡ 19 + length (originator_of k) + length (stream_id_of k) + 12 * length (stream_of r).held
  unfolding body
  body-size = length-append (key.print k) (row.print r) ∙ (omega (arith, key-size k, row-size r))

  -- at most 478 bytes: with its mark and number 481
  pub body-most : keeps_key k ≡ true → keeps_row r ≡ true → length (body.print (k, r)) ≤ 478
  body-most e f =
      let v = key-names k e in
      omega (arith, body-size, callsign-short (originator_of k) v.0, stream_id-short (stream_id_of k) v.1, held-most (stream_of r) (kept_row r f).stream)
