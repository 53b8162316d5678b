-- SHA-1 as FIPS 180-4 defines it, on a message of whole bytes, in the standard's order; the numbers are its sections. What a block does
-- to the hash value stands in the crate sha1_block.
use Rattle.std.specs.Prelude.{ℕ, ◌-◌, ◌*◌, ◌/◌, ◌%◌, ◌^◌, List, [], ◌∷◌, ◌++◌, length, replicate}
use Rattle.sha1_block.specs.declared.Hash.{Hash}
use Rattle.sha1_block.specs.Block.{chain}

-- 5.1.1: how many zero bytes follow the byte 0x80 after n bytes: the fewest with which the 8 bytes of the length end a block
abbrev pub pad_zeros : ℕ → ℕ
pad_zeros n = (119 - n % 64) % 64

-- a number of 64 bits, the highest byte first
abbrev pub big64 : ℕ → List ℕ
big64 n =
    n / 2 ^ 56 % 256 ∷ n / 2 ^ 48 % 256 ∷ n / 2 ^ 40 % 256 ∷ n / 2 ^ 32 % 256
    ∷ n / 2 ^ 24 % 256 ∷ n / 2 ^ 16 % 256 ∷ n / 2 ^ 8 % 256 ∷ n % 256 ∷ []

-- what follows a message of n bytes: the byte 0x80, zeros, and the length in bits
unfoldable pub padding : ℕ → List ℕ
padding n = 0x80 ∷ (replicate (pad_zeros n) 0 ++ big64 (8 * n))

-- 5.3.1: the initial hash value
abbrev pub initial : Hash
initial = record { a = 0x67452301; b = 0xEFCDAB89; c = 0x98BADCFE; d = 0x10325476; e = 0xC3D2E1F0 }

-- the message digest, as five words
unfoldable pub sha1 : List ℕ → Hash
sha1 s = let p = s ++ padding (length s) in chain initial p (length p / 64)
