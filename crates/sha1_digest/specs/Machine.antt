-- A state that is fed a message in pieces, at every value that it can have: five words, a block that fills, and how many bytes were fed.
-- The block's bytes in use are the first `total % 64`, so every value is a state.
use Rattle.std.specs.Prelude.{ℕ, ◌+◌, ◌%◌, ◌^◌, List, [], ◌∷◌, ◌++◌, replicate, slice_set, if◌then◌else◌}
use Rattle.octets.specs.Words.{◌=?◌}
use Rattle.sha1_block.specs.declared.Hash.{Hash}
use Rattle.sha1_digest.specs.declared.Sha1.{Sha1}
use Rattle.sha1_block.specs.Block.{compressed}
use Rattle.sha1_digest.specs.Sha1.{initial, padding}

-- nothing was fed
abbrev pub fresh : Sha1
fresh = record { h = initial; block = replicate 64 0; total = 0 }

-- a byte more: it goes to its place in the block, and a full block into the hash value; the count drops its carry past 64 bits
unfoldable pub fed : Sha1 → ℕ → Sha1
fed st x =
    let at = st.total % 64 in
    let filled = slice_set st.block at x in
    record { h = if at =? 63 then compressed st.h filled else st.h; block = filled; total = (st.total + 1) % 2 ^ 64 }

-- more bytes, one after the other
abbrev pub fed_all : Sha1 → List ℕ → Sha1
fed_all st [] = st
fed_all st (x ∷ s) = fed_all (fed st x) s

-- the five words after the padding that belongs to the count
abbrev pub finished : Sha1 → Hash
finished st = (fed_all st (padding st.total)).h

-- pieces, one after the other; and the message that they make
abbrev pub fed_pieces : Sha1 → List (List ℕ) → Sha1
fed_pieces st [] = st
fed_pieces st (p ∷ ps) = fed_pieces (fed_all st p) ps

abbrev pub concatenated : List (List ℕ) → List ℕ
concatenated [] = []
concatenated (p ∷ ps) = p ++ concatenated ps
