-- What the private functions promise one another; no public promise speaks of it.
use Rattle.std.specs.Prelude.{ℕ, ◌+◌, ◌≤◌, ◌≡◌, List, ◌++◌, length}
use Rattle.octets.specs.Bytes.{placed}
use Rattle.octets.specs.Field.{num}

-- the buffer has room for w from the place `at` on
pub record Room (w : List ℕ) (at : ℕ) (buffer : List ℕ) : Type 0 where
  pub room : at + length w ≤ length buffer

-- w was put at the place `at`, and `next` is the place behind it
pub record Put (w : List ℕ) (at : ℕ) (before : List ℕ) (next : ℕ) (after : List ℕ) : Type 0 where
  pub place : next ≡ at + length w
  pub bytes : after ≡ placed w at before

-- a text behind its length in `width` bytes
abbrev pub text_bytes : ℕ → List ℕ → List ℕ
text_bytes width s = (num width).print (length s) ++ s
