-- What the readers of a line's values answer: where the rules hold, the values, else nothing.
use Rattle.std.specs.Prelude.{ℕ, List, Option, Some, None, if◌then◌else◌}
use Rattle.std.specs.Option.{is_some, option_map}
use Rattle.octets.specs.Bytes.{same}
use Rattle.text.specs.Decimal.{number, signed}
use Rattle.text.specs.Hex.{hex_value}
use Rattle.names.specs.Reserved.{key_len}
use Rattle.envelope.specs.Texts.{stream_text}
use Rattle.envelope.specs.declared.Fragment.{Fragment}
use Rattle.envelope.specs.declared.Stream.{Stream}
use Rattle.tokens.specs.Cuts.{before, after}
use Rattle.tokens.specs.Tokens.{Token, value}
use Rattle.line_values.specs.Values.{slash, text_of}
use Rattle.line_groups.specs.Rules.{'d', payload_rule, singles_rule, fragment_rule, stream_rule}
use Rattle.line_groups.specs.declared.Payload.{Payload}
use Rattle.line_groups.specs.declared.Singles.{Singles}

abbrev pub len_of : List Token → ℕ
len_of ts = number (value key_len ts)

-- `len`, `fmt` and `clen`
unfoldable pub payload_by : Option (List ℕ) → Option (List ℕ) → Option (List ℕ) → Option Payload
payload_by len fmt clen =
    if payload_rule (text_of len) (text_of fmt) (is_some clen) (text_of clen)
    then Some (record { len = number (text_of len); deflated = same (text_of fmt) 'd' })
    else None

-- `s`, `ttl` and `chk`
unfoldable pub singles_by : Option (List ℕ) → Option (List ℕ) → Option (List ℕ) → Option Singles
singles_by s ttl chk =
    if singles_rule (is_some s) (text_of s) (is_some ttl) (text_of ttl) (is_some chk) (text_of chk)
    then Some (record { salt = option_map signed s; ttl = option_map number ttl; chk = option_map hex_value chk })
    else None

-- `mid` and `frag`
abbrev pub fragment_at : List ℕ → List ℕ → Fragment
fragment_at mid frag = record { mid = hex_value mid; index = number (before slash frag); total = number (after slash frag) }

unfoldable pub fragment_by : Option (List ℕ) → Option (List ℕ) → Option (Option Fragment)
fragment_by mid frag =
    if fragment_rule (is_some mid) (text_of mid) (is_some frag) (text_of frag)
    then Some (option_map (λ m. fragment_at m (text_of frag)) mid)
    else None

-- `sid`, `sn` and `gt`
abbrev pub stream_at : List ℕ → List ℕ → List ℕ → Stream
stream_at sid sn gt = record { sid = stream_text sid; sn = number sn; gt = number gt }

unfoldable pub stream_by : Option (List ℕ) → Option (List ℕ) → Option (List ℕ) → Option (Option Stream)
stream_by sid sn gt =
    if stream_rule (is_some sid) (is_some sn) (text_of sn) (is_some gt) (text_of gt)
    then Some (option_map (λ s. stream_at s (text_of sn) (text_of gt)) sid)
    else None
