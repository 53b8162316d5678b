-- How many bytes, then the bytes.
use mathlib.Core.Path.{refl, sym, ap}
use native.Mathlib.Omega.{arith}
use Rattle.datagram_head.specs.Steps.{text_bytes}
use Rattle.datagram_head.proofs.Puts.{put-by, first-room, next-room, both, room_as, put_as}
use Rattle.datagram_head.proofs.texts.put_text.Goals as goal

pub put_number-next-requires : goal.put_number-next-requires
put_number-next-requires c = first-room _ _ (room_as (ap (text_bytes c.args.width) (sym c.part-s.ensures)) c.requires)

pub overflow_add-result : goal.overflow_add-result
overflow_add-result c = let h = next-room _ c.put_number-next.ensures (room_as (ap (text_bytes c.args.width) (sym c.part-s.ensures)) c.requires) in
    omega (arith, h.room)

pub returns : goal.returns
returns c = let h = room_as (ap (text_bytes c.args.width) (sym c.part-s.ensures)) c.requires in
    put_as (ap (text_bytes c.args.width) c.part-s.ensures) (both h c.put_number-next.ensures (put-by refl c.copy_at.ensures.1))
