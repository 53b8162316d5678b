-- The bytes that are left, or the whole piece.
use mathlib.Core.Path.{refl}
use Rattle.machine.specs.Machine.{run}
use Rattle.talk.specs.declared.Event.{Event}
use Rattle.talk.specs.Answer as talk
use Rattle.talk.specs.Talk.{nothing, completed}
use Rattle.session.specs.Feed.{feed}
use Rattle.session.proofs.Steps.{silent-as, told-as, payload-part, payload-whole, part-stored, whole-stored}
use Rattle.session.proofs.pieces.receive.Goals as goal

pub returns-then-left-n : goal.returns-then-left-n
returns-then-left-n c = (told-as (run feed nothing 0 c.args.s c.args.piece.now) _ (completed c.args.s.terms c.feed_all-next.result) (talk.says c.hear_payload.result) _ c.args.reply.now _ (payload-whole c.args.s c.args.piece.now c.part-part.result.now c.args.payload.now _ c.feed_all-next.result _ c.requires.0 c.requires.1 c.requires.2 c.requires.3 refl c.part-part.ensures c.copy_at.ensures.1 c.feed_all-next.ensures c.if-left-n.true) c.hear_payload.ensures c.told.ensures, whole-stored c.args.s c.args.piece.now c.part-part.result.now c.args.payload.now _ c.feed_all-next.result _ c.requires.0 c.requires.1 c.requires.2 c.requires.3 refl c.part-part.ensures c.copy_at.ensures.1 c.feed_all-next.ensures c.if-left-n.true)

pub returns : goal.returns
returns c = (silent-as (run feed nothing 0 c.args.s c.args.piece.now) _ Event.Nothing _ _ _ c.args.reply.now (payload-part c.args.s c.args.piece.now c.part-part.result.now c.args.payload.now _ c.feed_all-next.result _ c.requires.0 c.requires.1 c.requires.2 c.requires.3 refl c.part-part.ensures c.copy_at.ensures.1 c.feed_all-next.ensures c.if-left-n.false) refl c.silent.ensures, part-stored c.args.s c.args.piece.now c.part-part.result.now c.args.payload.now _ c.feed_all-next.result _ c.requires.0 c.requires.1 c.requires.2 c.requires.3 refl c.part-part.ensures c.copy_at.ensures.1 c.feed_all-next.ensures c.if-left-n.false)
