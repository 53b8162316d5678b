-- The id: its number is the digest's first 28 bits, its digits are what `text` writes of it, and pieces after a salt have the payload's id.
use Rattle.std.proofs.Common.{◌≡◌, ℕ, zero, suc, ◌/◌, ◌%◌, ◌^◌, ◌<◌, ◌≤◌, List, [], ◌∷◌, ◌++◌, length, take, replicate, ℤ, sym, ap, ◌∙◌, arith, take_at, le-ltb, lt-ltb}
use lib.Seq.{take-append-le}
use Rattle.octets.specs.Bytes.{placed}
use Rattle.octets.specs.Numbers.{little_bytes, twos}
use Rattle.octets.proofs.Tests.{if_yes, if_no}
use Rattle.octets.proofs.NumberLaws.{length-bytes}
use Rattle.refusals.specs.Numbers.{payload_too_long, longest_payload}
use Rattle.text.specs.Digits.{digit, digits}
use Rattle.text.specs.Hex.{hex_digits, hex_value}
use Rattle.text.proofs.Numerals.{length_digits}
use Rattle.text.proofs.Hexes.{hex-back}
use Rattle.sha1_block.specs.declared.Hash.{Hash}
use Rattle.sha1_digest.specs.declared.Sha1.{Sha1}
use Rattle.std.specs.Prelude.{Option, Some}
use Rattle.sha1_block.specs.Block.{plus, compressed, chain}
use Rattle.sha1_digest.specs.Sha1.{initial, sha1}
use Rattle.sha1_digest.specs.Machine.{fresh, fed_all, fed_pieces, concatenated, finished}
use Rattle.sha1_digest.specs.Id.{salt_bytes, first_seven, id_number, message_id, is, refused}
use Rattle.sha1_digest.proofs.Feed.{parts, over}
use Rattle.sha1_digest.proofs.AnyPieces.{digest, any-pieces}

-- the first seven of eight digits are those of a sixteenth
seven : (a : ℕ) (l : List ℕ) → take 7 (hex_digits 8 a ++ l) ≡ hex_digits 7 (a / 16)
unfolding digits
seven a l =
    let e = length_digits 16 7 (a / 16) in
    take-append-le 7 (hex_digits 8 a) l (omega (arith, length_digits 16 8 a)) ∙ take_at (hex_digits 7 (a / 16)) (digit (a % 16) ∷ []) 7 e

pub first-bits : (h : Hash) → h.a < 2 ^ 32 → h.a / 2 ^ 4 ≡ id_number h
first-bits h k = sym (ap (λ s. hex_value s) (seven h.a _) ∙ hex-back 7 (h.a / 16) (omega arith))

-- what `text` writes of an id's number are the digest's first seven digits
written : (h : Hash) → h.a < 2 ^ 32 → hex_digits 7 (id_number h) ≡ first_seven h
written h k = ap (hex_digits 7) (sym (first-bits h k)) ∙ sym (seven h.a _)

-- a digest's words have 32 bits
chain-lt : (p : List ℕ) (n : ℕ) → (chain initial p n).a < 2 ^ 32
unfolding chain compressed plus
chain-lt p zero = omega arith
chain-lt p (suc n) = omega arith

pub sha1-written : (s : List ℕ) → hex_digits 7 (id_number (sha1 s)) ≡ first_seven (sha1 s)
unfolding sha1
sha1-written s = written (sha1 s) (chain-lt _ _)

short-enough : (salt : Option ℤ) (payload : List ℕ) → length payload ≤ longest_payload → is (id_number (sha1 (salt_bytes salt ++ payload))) ≡ message_id salt payload
short-enough salt payload k = sym (if_no _ _ _ (le-ltb longest_payload (length payload) k))

-- a salt and then a payload in any pieces: the id is that of the payload as a whole
pub id-of-pieces : (salt : Option ℤ) (ps : List (List ℕ)) → length (concatenated ps) ≤ longest_payload
    → is (id_number (finished (fed_pieces (fed_all fresh (salt_bytes salt)) ps))) ≡ message_id salt (concatenated ps)
id-of-pieces salt ps k = ap (λ h. is (id_number h)) (any-pieces (salt_bytes salt ∷ ps)) ∙ short-enough salt (concatenated ps) k

-- ---- what the code makes

module _ (salt : Option ℤ) where
  pub salted : (bytes : List ℕ) (new st : Sha1) (z value : ℤ) → salt ≡ Some value → z ≡ value → bytes ≡ placed (little_bytes 8 (twos z)) 0 (replicate 8 0)
      → new ≡ fresh → st ≡ fed_all new bytes → st ≡ fed_all fresh (salt_bytes salt)
  salted bytes new st z value e v b p q =
      let s = little_bytes 8 (twos value) in
      let w : bytes ≡ s = b ∙ ap (λ z. placed (little_bytes 8 (twos z)) 0 (replicate 8 0)) v ∙ over s (replicate 8 0) (sym (length-bytes 8 (twos value))) in
      q ∙ ap (λ n. fed_all n bytes) p ∙ ap (fed_all fresh) (w ∙ ap salt_bytes (sym e))

  module _ (payload : List ℕ) where
    pub too_long : longest_payload < length payload → refused payload_too_long ≡ message_id salt payload
    too_long k = sym (if_yes _ _ _ (lt-ltb longest_payload (length payload) k))

    pub whole-id : (n : ℕ) (begun st : Sha1) → length payload ≤ longest_payload → begun ≡ fed_all fresh (salt_bytes salt) → st ≡ fed_all begun payload → n ≡ id_number (finished st)
        → is n ≡ message_id salt payload
    whole-id n begun st k p q e =
        let fed : st ≡ fed_all fresh (salt_bytes salt ++ payload) = q ∙ ap (λ st. fed_all st payload) p ∙ sym (parts fresh (salt_bytes salt) payload) in
        ap is (e ∙ ap (λ st. id_number (finished st)) fed ∙ ap id_number (digest (salt_bytes salt ++ payload))) ∙ short-enough salt payload k
