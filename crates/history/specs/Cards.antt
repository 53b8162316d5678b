-- Document 01, "Bench cards": a card's lines, how a card is played, and the table of cards 1 to 9. Each card is played on an empty table,
-- on the stream `chat` of originator `G0ORIG`.
use Rattle.std.specs.Prelude.{ℕ, zero, suc, ◌+◌, Bool, true, false, List, [], ◌∷◌}
use Rattle.octets.specs.Words.{◌and◌, ◌=?◌}
use Rattle.octets.specs.Bytes.{same}
use Rattle.rows.specs.Answer.{Answer, accepted, given, nothing, refused, Outcome}
use Rattle.streams.specs.declared.Table.{Table}
use Rattle.streams.specs.Answer.{Counted, counted, uncounted}
use Rattle.streams.specs.Calls as calls
use Rattle.image.specs.Image.{image_of, load_of}

-- a line of a card: a call and its answer; or what the first row expects and its clock; or how many rows are open; or the image that a save
-- writes; or an image that is loaded
pub data Line : Type 0 where
  offer : (number timeout time : ℕ) → Answer → Line
  take : (time : ℕ) → Answer → Line
  force : (time : ℕ) → Answer → Line
  row : (expected clock : ℕ) → Line
  rows : ℕ → Line
  saves : List ℕ → Line
  loads : List ℕ → Line

abbrev pub originator : List ℕ
originator = 71 ∷ 48 ∷ 79 ∷ 82 ∷ 73 ∷ 71 ∷ []

abbrev pub chat : List ℕ
chat = 99 ∷ 104 ∷ 97 ∷ 116 ∷ []

-- the slip of every message on the cards
abbrev pub slip : ℕ
slip = 9

-- an answer as numbers, by which two are compared
abbrev pub numbers : Answer → List ℕ
numbers accepted = 0 ∷ []
numbers nothing = 1 ∷ []
numbers (refused n) = 2 ∷ n ∷ []
numbers (given n s) = 3 ∷ n ∷ s ∷ []

abbrev pub same_answer : Answer → Answer → Bool
same_answer a b = same (numbers a) (numbers b)

abbrev pub same_count : Counted → ℕ → Bool
same_count (counted m) n = m =? n
same_count (uncounted m) n = false

-- the answer is the card's, and the rest holds of the table after it
abbrev pub then-on : Outcome Table → Answer → (Table → Bool) → Bool
then-on o a rest = same_answer o.answer a and rest o.after

abbrev pub plays : List Line → Table → Bool
plays [] t = true
plays (offer n timeout time a ∷ l) t = then-on (calls.offer t originator chat (record { number = n; timeout = timeout; slip = slip }) time) a (plays l)
plays (take time a ∷ l) t = then-on (calls.take t originator chat time) a (plays l)
plays (force time a ∷ l) t = then-on (calls.force t originator chat time) a (plays l)
plays (row expected clock ∷ l) t = let r = (calls.row_at t 0).row in r.expected =? expected and r.clock =? clock and plays l t
plays (rows n ∷ l) t = same_count (calls.open_rows t) n and plays l t
plays (saves image ∷ l) t = same (image_of t) image and plays l t
plays (loads image ∷ l) t = then-on (load_of t image) accepted (plays l)

-- the image of an empty table, and that of one row
abbrev pub empty_image : List ℕ
empty_image = 0x53 ∷ 0x45 ∷ 0x00 ∷ []

abbrev pub one_row : List ℕ
one_row =
    0x53 ∷ 0x54 ∷ 0x00 ∷ 0x06 ∷ 0x47 ∷ 0x30 ∷ 0x4F ∷ 0x52 ∷ 0x49 ∷ 0x47 ∷ 0x04 ∷ 0x63 ∷ 0x68 ∷ 0x61 ∷ 0x74
    ∷ 0x01 ∷ 0x00 ∷ 0x00 ∷ 0x00 ∷ 0x00 ∷ 0x00 ∷ 0x00 ∷ 0x00 ∷ 0xE8 ∷ 0x03 ∷ 0x00 ∷ 0x00 ∷ 0xE8 ∷ 0x03 ∷ 0x00 ∷ 0x00
    ∷ 0x01 ∷ 0x02 ∷ 0x00 ∷ 0x00 ∷ 0x00 ∷ 0x58 ∷ 0x02 ∷ 0x00 ∷ 0x00 ∷ 0x09 ∷ 0x00 ∷ 0x00 ∷ 0x00
    ∷ 0x53 ∷ 0x45 ∷ 0x01 ∷ []

-- a message given
abbrev pub gave : ℕ → Answer
gave number = given number slip

-- the numbers from n on, offered one after the other and accepted
abbrev pub offers : ℕ → ℕ → List Line → List Line
offers n zero l = l
offers n (suc count) l = offer n 0 0 accepted ∷ offers (n + 1) count l

abbrev pub cards : List (List Line)
cards =
    -- 1. Offer 1, take: 1 given, expected 2.
    (offer 1 0 0 accepted ∷ take 0 (gave 1) ∷ row 2 0 ∷ [])
    -- 2. Offer 2, timeout 600, at 1000. Take at 1599: nothing; at 1600: 2.
    ∷ (offer 2 600 1000 accepted ∷ take 1599 nothing ∷ take 1600 (gave 2) ∷ [])
    -- 3. Timeout 0: take at 4294967295 gives nothing.
    ∷ (offer 2 0 1000 accepted ∷ take 4294967295 nothing ∷ [])
    -- 4. Offer 2 as in card 2, take at 500: nothing, clock 1000.
    ∷ (offer 2 600 1000 accepted ∷ take 500 nothing ∷ row 1 1000 ∷ [])
    -- 5. Hold 2 and 5, timeout 600, at 1000. Take at 1600: 2; again: nothing; at 2200: 5.
    ∷ (offer 2 600 1000 accepted ∷ offer 5 600 1000 accepted ∷ take 1600 (gave 2) ∷ take 1600 nothing ∷ take 2200 (gave 5) ∷ [])
    -- 6. Offer 0, unknown key: 10, no row.
    ∷ (offer 0 0 0 (refused 10) ∷ rows 0 ∷ [])
    -- 7. Offer 4294967295, force, offer it again: 10.
    ∷ (offer 4294967295 0 0 accepted ∷ force 0 (gave 4294967295) ∷ offer 4294967295 0 0 (refused 10) ∷ [])
    -- 8. Offer 2 to 16: accepted; 17: 12; 1: accepted.
    ∷ offers 2 15 (offer 17 0 0 (refused 12) ∷ offer 1 0 0 accepted ∷ [])
    -- 9. The two images of "The saved table", saved and loaded.
    ∷ (saves empty_image ∷ offer 2 600 1000 accepted ∷ saves one_row ∷ loads empty_image ∷ rows 0 ∷ loads one_row ∷ row 1 1000 ∷ saves one_row ∷ [])
    ∷ []
