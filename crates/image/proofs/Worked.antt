-- The two images of document 01, by computation: an empty table, and a table of one row.
use mathlib.Core.Path.{◌≡◌, refl}
use mathlib.Core.Bool.{true}
use mathlib.Core.List.{List, [], ◌∷◌}
use Prim.Native.Nat.{ℕ}
use Rattle.octets.specs.Numbers.{little_bytes}
use Rattle.keys.specs.Key.{key_of}
use Rattle.rows.specs.Row.{row_of}
use Rattle.streams.specs.declared.Table.{Table}
use Rattle.streams.specs.Table.{empty, with_slot}
use Rattle.records.specs.Record.{text, key, message, messages, row, body}
use Rattle.image.specs.Image.{image_of}

pub empty-image : image_of empty ≡ 0x53 ∷ 0x45 ∷ 0 ∷ []
unfolding image_of
empty-image = refl

-- originator `G0ORIG`, stream `chat`, expected 1, clock 1000, holding 2 with timeout 600 and slip 9
abbrev one_row : Table
one_row =
    with_slot empty 0
    (record {
      is_open = true;
      key = key_of (0x47 ∷ 0x30 ∷ 0x4F ∷ 0x52 ∷ 0x49 ∷ 0x47 ∷ []) (0x63 ∷ 0x68 ∷ 0x61 ∷ 0x74 ∷ []);
      row = row_of (record { expected = 1; clock = 1000; gap_start = 1000; held = record { number = 2; timeout = 600; slip = 9 } ∷ [] });
    })

abbrev one_row_image : List ℕ
one_row_image =
    0x53 ∷ 0x54 ∷ 0x00
    ∷ 0x06 ∷ 0x47 ∷ 0x30 ∷ 0x4F ∷ 0x52 ∷ 0x49 ∷ 0x47
    ∷ 0x04 ∷ 0x63 ∷ 0x68 ∷ 0x61 ∷ 0x74
    ∷ 0x01 ∷ 0x00 ∷ 0x00 ∷ 0x00 ∷ 0x00 ∷ 0x00 ∷ 0x00 ∷ 0x00
    ∷ 0xE8 ∷ 0x03 ∷ 0x00 ∷ 0x00
    ∷ 0xE8 ∷ 0x03 ∷ 0x00 ∷ 0x00
    ∷ 0x01
    ∷ 0x02 ∷ 0x00 ∷ 0x00 ∷ 0x00 ∷ 0x58 ∷ 0x02 ∷ 0x00 ∷ 0x00 ∷ 0x09 ∷ 0x00 ∷ 0x00 ∷ 0x00
    ∷ 0x53 ∷ 0x45 ∷ 0x01
    ∷ []

pub one-row-image : image_of one_row ≡ one_row_image
unfolding image_of body key text row messages message key_of little_bytes
one-row-image = refl
