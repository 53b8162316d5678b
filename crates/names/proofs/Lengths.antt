-- How long each name is at most: what an array that holds one must have room for.
use Prim.Native.Nat.{ℕ, ◌≤◌}
use mathlib.Core.Path.{◌≡◌}
use mathlib.Core.Bool.{true}
use mathlib.Core.List.{List}
use borrow.Author.Tests.{leb-true}
use lib.ListN.{length}
use Rattle.octets.proofs.Tests.{and_left, inside-high}
use Rattle.names.specs.Texts.{id_text, stream_id, header_key, header_value}

id-text-short : (most : ℕ) (s : List ℕ) → id_text most s ≡ true → length s ≤ most
unfolding id_text
id-text-short most s e = inside-high 1 most (length s) (and_left _ _ e)

pub stream_id-short : (s : List ℕ) → stream_id s ≡ true → length s ≤ 255
unfolding stream_id
stream_id-short s e = id-text-short 255 s e

pub header_key-short : (s : List ℕ) → header_key s ≡ true → length s ≤ 32
unfolding header_key
header_key-short s e = id-text-short 32 s (and_left _ _ e)

pub header_value-short : (s : List ℕ) → header_value s ≡ true → length s ≤ 128
unfolding header_value
header_value-short s e = leb-true (length s) 128 (and_left _ _ e)
