-- Document 01, "Bench cards": cards 1 to 9 hold, by computation, under one statement over the table of cards.
use mathlib.Core.Path.{◌≡◌, refl}
use mathlib.Core.Bool.{true}
use Rattle.octets.specs.Words.{every}
use Rattle.octets.specs.Numbers.{little, little_bytes}
use Rattle.utf8.specs.Utf8 as utf8
use Rattle.callsigns.specs.Runs as runs
use Rattle.callsigns.specs.Callsign.{alnum, suffix, base_length, callsign, same_call}
use Rattle.names.specs.Texts.{text_byte, ruled, id_text, stream_id}
use Rattle.keys.specs.Key.{same_key, key_of, is_no_key, keeps_key, named_of}
use Rattle.rows.specs.Row.{keeps_row, is_no_row}
use Rattle.rows.specs.Stream as stream
use Rattle.streams.specs.Table.{empty, keeps_slot, has_key, keeps_slots}
use Rattle.streams.specs.Calls as calls
use Rattle.records.specs.Record as record_of
use Rattle.image.specs.Image.{image_of, table_of, load_of}
use Rattle.history.specs.Cards.{plays, cards}

pub cards-hold : every (λ c. plays c empty) cards ≡ true
unfolding little little_bytes utf8.run runs.run runs.rest alnum suffix base_length callsign same_call text_byte ruled id_text stream_id same_key key_of is_no_key keeps_key named_of keeps_row is_no_row stream.keeps stream.offer stream.take stream.force keeps_slot has_key keeps_slots calls.look_up calls.open_rows calls.row_at record_of.body record_of.key record_of.text record_of.row record_of.messages record_of.message image_of table_of load_of
cards-hold = refl
