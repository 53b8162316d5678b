-- Document 01, "Numbers the node says no with": the refusals of a line in their order, the lowest first; 0 where none refuses.
use Rattle.std.specs.Prelude.{ℕ, Bool, if◌then◌else◌}
use Rattle.octets.specs.Words.{◌and◌, no, ◌<?◌, ◌≤?◌}
use Rattle.refusals.specs.Numbers.{line_malformed, chk_differs, format_d, payload_too_long, longest_payload, buffer_too_short}

-- a line that was read
abbrev pub refuses_reading : Bool → Bool → Bool → ℕ → ℕ
refuses_reading malformed differs deflated len =
    if malformed then line_malformed
    else if differs then chk_differs
    else if deflated then format_d
    else if longest_payload <? len then payload_too_long
    else 0

-- which messages can be written: by the rules that the reader tests, and in at most 512 bytes
abbrev pub line_good : Bool → ℕ → ℕ → Bool
line_good valid len size = valid and (len ≤? 2147483647 and size ≤? 512)

-- a line of `size` bytes, its LF counted, that is written into a buffer of `room` bytes
abbrev pub refuses_writing : Bool → ℕ → ℕ → ℕ → ℕ
refuses_writing good len size room =
    if no good then line_malformed
    else if longest_payload <? len then payload_too_long
    else if room <? size then buffer_too_short
    else 0
