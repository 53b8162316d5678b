-- Document 01, "Numbers the node says no with": a name for each number of the table.
use Rattle.std.specs.Prelude.{ℕ}

-- line malformed
abbrev pub line_malformed : ℕ
line_malformed = 1

-- `chk` differs
abbrev pub chk_differs : ℕ
chk_differs = 2

-- `fmt=d`
abbrev pub format_d : ℕ
format_d = 3

-- payload length above 4,096 (line, datagram, id)
abbrev pub payload_too_long : ℕ
payload_too_long = 4

-- no payload is longer
abbrev pub longest_payload : ℕ
longest_payload = 4096

-- lent buffer too short for the whole answer
abbrev pub buffer_too_short : ℕ
buffer_too_short = 5

-- datagram empty or first byte not 7
abbrev pub not_version7 : ℕ
not_version7 = 6

-- datagram malformed
abbrev pub datagram_malformed : ℕ
datagram_malformed = 7

-- originator is no callsign
abbrev pub no_callsign : ℕ
no_callsign = 8

-- stream id malformed
abbrev pub stream_id_malformed : ℕ
stream_id_malformed = 9

-- stale number
abbrev pub stale : ℕ
stale = 10

-- number already held
abbrev pub already_held : ℕ
already_held = 11

-- row full
abbrev pub row_full : ℕ
row_full = 12

-- offer on an unknown key, no free row
abbrev pub no_free_row : ℕ
no_free_row = 13

-- no such stream
abbrev pub no_such_stream : ℕ
no_such_stream = 14

-- close while something is held
abbrev pub still_holding : ℕ
still_holding = 15

-- image not one that a save writes
abbrev pub no_saved_image : ℕ
no_saved_image = 16

-- fragment: master id malformed, or N, M or length outside its range
abbrev pub fragment_malformed : ℕ
fragment_malformed = 17

-- M differs from the group's
abbrev pub other_total : ℕ
other_total = 18

-- fragment already held
abbrev pub fragment_held : ℕ
fragment_held = 19

-- no free group
abbrev pub no_free_group : ℕ
no_free_group = 20

-- group unknown or incomplete
abbrev pub not_complete : ℕ
not_complete = 21

-- session closed
abbrev pub session_closed : ℕ
session_closed = 22

-- fragment store not 65,536 bytes
abbrev pub store_length : ℕ
store_length = 23

-- state of any kind handed in breaks its section's rules
abbrev pub state_broken : ℕ
state_broken = 40
