-- Document 01, "The ihave line": the rules of a line's reserved keys. The value of a key that is not there is empty.
-- What a line and a datagram have in common (`ttl` from 1, N from 1 to M, names) is said once, in `envelope`.
use Rattle.std.specs.Prelude.{ℕ, Bool, true, List, [], ◌∷◌, if◌then◌else◌}
use Rattle.octets.specs.Words.{◌and◌}
use Rattle.octets.specs.Bytes.{same}
use Rattle.text.specs.Decimal.{is_number, is_signed}
use Rattle.text.specs.Hex.{is_hex}
use Rattle.names.specs.Reserved.{key_len, key_fmt, key_s, key_clen, key_chk, key_ttl, key_mid, key_frag, key_sid, key_sn, key_gt}
use Rattle.tokens.specs.Tokens.{Token, present, value}
use Rattle.line_values.specs.Values.{is_part}
pub use Rattle.line_words.specs.Standing.{alike, all_or_none, format_rule}

-- a value that may be missing: where it is there, it keeps a rule
abbrev pub kept : Bool → (List ℕ → Bool) → List ℕ → Bool
kept has rule v = if has then rule v else true

abbrev pub optional : List ℕ → (List ℕ → Bool) → List Token → Bool
optional k rule ts = kept (present k ts) rule (value k ts)

-- `p`, and `d`
abbrev pub 'p' : List ℕ
'p' = 112 ∷ []

abbrev pub 'd' : List ℕ
'd' = 100 ∷ []

-- ---- by the values, those that may be missing behind their flags

-- `len` 0 to 2147483647 and `fmt` are required (an empty value is no number, and neither `p` nor `d`); `clen` present exactly with `fmt=d`
abbrev pub payload_rule : List ℕ → List ℕ → Bool → List ℕ → Bool
payload_rule len fmt hasClen clen =
    is_number 2147483647 len
    and (format_rule (same fmt 'p') (same fmt 'd') hasClen
    and kept hasClen (is_number 2147483647) clen)

-- `s` a signed number, `ttl` up to 2147483647, `chk` four hex digits
abbrev pub singles_rule : Bool → List ℕ → Bool → List ℕ → Bool → List ℕ → Bool
singles_rule hasS s hasTtl ttl hasChk chk = kept hasS is_signed s and (kept hasTtl (is_number 2147483647) ttl and kept hasChk (is_hex 4) chk)

-- `mid` and `frag` both or neither
abbrev pub fragment_rule : Bool → List ℕ → Bool → List ℕ → Bool
fragment_rule hasMid mid hasFrag frag = alike hasMid hasFrag and (kept hasMid (is_hex 7) mid and kept hasFrag is_part frag)

-- `sid`, `sn`, `gt` all or none; `sn`, `gt` 0 to 4294967295
abbrev pub stream_rule : Bool → Bool → List ℕ → Bool → List ℕ → Bool
stream_rule hasSid hasSn sn hasGt gt =
    all_or_none hasSid hasSn hasGt
    and (kept hasSn (is_number 4294967295) sn and kept hasGt (is_number 4294967295) gt)

-- ---- by a line's tokens

abbrev pub deflated : List Token → Bool
deflated ts = same (value key_fmt ts) 'd'

unfoldable pub payload_good : List Token → Bool
payload_good ts = payload_rule (value key_len ts) (value key_fmt ts) (present key_clen ts) (value key_clen ts)

unfoldable pub singles_good : List Token → Bool
singles_good ts = singles_rule (present key_s ts) (value key_s ts) (present key_ttl ts) (value key_ttl ts) (present key_chk ts) (value key_chk ts)

unfoldable pub fragment_good : List Token → Bool
fragment_good ts = fragment_rule (present key_mid ts) (value key_mid ts) (present key_frag ts) (value key_frag ts)

unfoldable pub stream_good : List Token → Bool
stream_good ts = stream_rule (present key_sid ts) (present key_sn ts) (value key_sn ts) (present key_gt ts) (value key_gt ts)
