-- Worked examples, computed: the standard's "abc", the empty message, the standard's 56 bytes, whose padding takes a second block, and two ids.
use Rattle.std.specs.Prelude.{Some, None}
use mathlib.Core.List.{List, [], ◌∷◌, ◌++◌}
use mathlib.Core.Path.{◌≡◌, refl}
use Prim.Native.Nat.{ℕ, ◌+◌}
use lib.IntN.{pos, negsuc}
use Rattle.octets.specs.Numbers.{little_bytes}
use Rattle.text.specs.Digits.{value, digits}
use Rattle.sha1_block.specs.Block.{quarter, scheduled, schedule, round, rounds, plus, compressed, chain}
use Rattle.sha1_digest.specs.Sha1.{padding, sha1}
use Rattle.sha1_digest.specs.Id.{salt_bytes, id_number}

pub empty : sha1 [] ≡ record { a = 0xDA39A3EE; b = 0x5E6B4B0D; c = 0x3255BFEF; d = 0x95601890; e = 0xAFD80709 }
unfolding quarter padding scheduled schedule round rounds plus compressed chain sha1
empty = refl

pub abc : sha1 (0x61 ∷ 0x62 ∷ 0x63 ∷ []) ≡ record { a = 0xA9993E36; b = 0x4706816A; c = 0xBA3E2571; d = 0x7850C26C; e = 0x9CD0D89D }
unfolding quarter padding scheduled schedule round rounds plus compressed chain sha1
abc = refl

-- "abcdbcdecdefdefgefghfghighijhijkijkljklmklmnlmnomnopnopq"
abbrev letters : ℕ → List ℕ
letters n = n ∷ (n + 1) ∷ (n + 2) ∷ (n + 3) ∷ []

pub second_block : sha1 (letters 0x61 ++ (letters 0x62 ++ (letters 0x63 ++ (letters 0x64 ++ (letters 0x65 ++ (letters 0x66 ++ (letters 0x67 ++ (letters 0x68 ++ (letters 0x69 ++ (letters 0x6A ++ (letters 0x6B ++ (letters 0x6C ++ (letters 0x6D ++ letters 0x6E)))))))))))))
    ≡ record { a = 0x84983E44; b = 0x1C3BD26E; c = 0xBAAE4AA1; d = 0xF95129E5; e = 0xE54670F1 }
unfolding quarter padding scheduled schedule round rounds plus compressed chain sha1
second_block = refl

pub id-of-abc : id_number (sha1 (salt_bytes None ++ (0x61 ∷ 0x62 ∷ 0x63 ∷ []))) ≡ 0xA9993E3
unfolding quarter padding scheduled schedule round rounds plus compressed chain sha1 digits value
id-of-abc = refl

-- a salted id: the salt 1714982400000 and `hello`
pub salted-id : id_number (sha1 (salt_bytes (Some (pos 1714982400000)) ++ (0x68 ∷ 0x65 ∷ 0x6C ∷ 0x6C ∷ 0x6F ∷ []))) ≡ 0xF628422
unfolding little_bytes quarter padding scheduled schedule round rounds plus compressed chain sha1 digits value
salted-id = refl

-- a salt of -2
pub salt-bytes : salt_bytes (Some (negsuc 1)) ≡ 0xFE ∷ 0xFF ∷ 0xFF ∷ 0xFF ∷ 0xFF ∷ 0xFF ∷ 0xFF ∷ 0xFF ∷ []
unfolding little_bytes
salt-bytes = refl
