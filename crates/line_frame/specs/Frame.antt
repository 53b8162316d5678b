-- Document 01, "The ihave line": the line's text, its first two words, and the tokens behind them.
use Rattle.std.specs.Prelude.{ℕ, Bool, List, length, Option, None, if◌then◌else◌}
use Rattle.octets.specs.Words.{◌and◌, no, ◌≤?◌, ◌=?◌, every}
use Rattle.octets.specs.Bytes.{same}
use Rattle.utf8.specs.Utf8.{utf8}
use Rattle.text.specs.Hex.{is_hex, id_of}
use Rattle.tokens.specs.Cuts.{before, after}
use Rattle.tokens.specs.Tokens.{keyed, space}
pub use Rattle.tokens.specs.Tokens.{ihave}

abbrev pub verb_word : List ℕ → List ℕ
verb_word s = before space s

abbrev pub id_word : List ℕ → List ℕ
id_word s = before space (after space s)

abbrev pub rest_of : List ℕ → List ℕ
rest_of s = after space (after space s)

-- no byte below 0x20, no 0x7F
unfoldable pub plain : ℕ → Bool
plain x = 0x20 ≤? x and no (x =? 0x7F)

-- at most 512 bytes, well-formed UTF-8
unfoldable pub is_text : List ℕ → Bool
is_text s = length s ≤? 512 and (utf8 s and every plain s)

-- `ihave`, the id, then `key=value` tokens, one space between, none at the end (a space more would make an empty word, which has no `=`);
-- no key twice; `chk`, if present, is last
unfoldable pub framed : List ℕ → Bool
framed s = same (verb_word s) ihave and (is_hex 7 (id_word s) and keyed (rest_of s))

-- the id, where the bytes may be a line's and the first word is `ihave`
unfoldable pub line_head : List ℕ → Option ℕ
line_head s = if is_text s and same (verb_word s) ihave then id_of (id_word s) else None
