-- Document 01, "The ihave line": what may stand behind the words of a line, and which keys come together.
use Rattle.std.specs.Prelude.{ℕ, Bool, if◌then◌else◌}
use Rattle.octets.specs.Words.{◌and◌, ◌or◌, no, ◌<?◌, ◌≤?◌, ◌=?◌}

-- `chk`, if present, is last; every word has its `=`: not all of its bytes stand before one
abbrev pub may_stand : Bool → ℕ → ℕ → Bool
may_stand chk key word = no chk and no (key =? word)

-- at most 8 headers, values of at most 128 bytes
abbrev pub header_room : ℕ → ℕ → Bool
header_room count value = count <? 8 and value ≤? 128

-- both, or neither
abbrev pub alike : Bool → Bool → Bool
alike a b = if a then b else no b

-- `sid`, `sn`, `gt` all or none
abbrev pub all_or_none : Bool → Bool → Bool → Bool
all_or_none sid sn gt = alike sid sn and alike sid gt

-- `fmt` is `p` or `d`; `clen` present exactly with `fmt=d`
abbrev pub format_rule : Bool → Bool → Bool → Bool
format_rule plain deflated clen = (plain or deflated) and alike clen deflated
