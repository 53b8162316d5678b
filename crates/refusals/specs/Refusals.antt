-- The table's number of each refusal, and what tests that refuse say.
use Rattle.std.specs.Prelude.{ℕ, Result, Ok, Err}
use Rattle.refusals.specs.declared.Refusal.{Refusal}
use Rattle.refusals.specs.Numbers.{line_malformed, chk_differs, format_d, payload_too_long, buffer_too_short, not_version7, datagram_malformed, no_callsign, stream_id_malformed, stale, already_held, row_full, no_free_row, no_such_stream, still_holding, no_saved_image, fragment_malformed, other_total, fragment_held, no_free_group, not_complete, session_closed, store_length, state_broken}

abbrev pub number_of : Refusal → ℕ
number_of Refusal.LineMalformed = line_malformed
number_of Refusal.ChkDiffers = chk_differs
number_of Refusal.FormatD = format_d
number_of Refusal.PayloadTooLong = payload_too_long
number_of Refusal.BufferTooShort = buffer_too_short
number_of Refusal.NotVersion7 = not_version7
number_of Refusal.DatagramMalformed = datagram_malformed
number_of Refusal.NoCallsign = no_callsign
number_of Refusal.StreamIdMalformed = stream_id_malformed
number_of Refusal.Stale = stale
number_of Refusal.AlreadyHeld = already_held
number_of Refusal.RowFull = row_full
number_of Refusal.NoFreeRow = no_free_row
number_of Refusal.NoSuchStream = no_such_stream
number_of Refusal.StillHolding = still_holding
number_of Refusal.NoSavedImage = no_saved_image
number_of Refusal.FragmentMalformed = fragment_malformed
number_of Refusal.OtherTotal = other_total
number_of Refusal.FragmentHeld = fragment_held
number_of Refusal.NoFreeGroup = no_free_group
number_of Refusal.NotComplete = not_complete
number_of Refusal.SessionClosed = session_closed
number_of Refusal.StoreLength = store_length
number_of Refusal.StateBroken = state_broken

-- the number of the refusal, 0 where there is none
abbrev pub refusal_in : {A : Type 0} → Result A Refusal → ℕ
refusal_in (Ok x) = 0
refusal_in (Err r) = number_of r
