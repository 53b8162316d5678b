-- What stands before the LF is quiet, as far as the line has room.
use mathlib.Core.Path.{◌≡◌, refl}
use native.Mathlib.Omega.{arith}
use borrow.Author.Rules.{rules}
use lib.ListN.{length}
use Rattle.std.specs.Prelude.{Some}
use Rattle.refusals.specs.declared.Refusal.{Refusal}
use Rattle.machine.specs.Machine.{run}
use Rattle.talk.specs.declared.Event.{Event}
use Rattle.talk.specs.Answer as talk
use Rattle.talk.specs.Sessions.{closed}
use Rattle.talk.specs.Talk.{nothing}
use Rattle.session.specs.Feed.{feed}
use Rattle.session.specs.Runs.{line_turn}
use Rattle.session.proofs.Steps.{silent-as, told-as, line_quiet, line-whole, line-long}
use Rattle.session.proofs.pieces.listen.Goals as goal

pub returns-then-room-n : goal.returns-then-room-n
returns-then-room-n c = silent-as (run feed nothing 0 c.args.s c.args.piece.now) _ (Event.End (record { reason = Some Refusal.LineMalformed })) _ closed _ c.args.reply.now (line-long c.args.s c.args.piece.now c.before_byte-part.result.now c.requires.0 c.requires.1 c.before_byte-part.ensures (search rules)) refl c.too_long.ensures

pub returns-then-n-piece : goal.returns-then-n-piece
returns-then-n-piece c = let long : length c.args.s.line ≡ 512 = search rules in
    silent-as (run feed nothing 0 c.args.s c.args.piece.now) _ Event.Nothing _ _ _ c.args.reply.now (line_quiet c.args.s c.args.piece.now c.before_byte-part.result.now _ c.requires.0 long c.before_byte-part.ensures c.copy_at.ensures.1 (search rules) (search rules)) refl c.silent.ensures

pub returns : goal.returns
returns c = let long : length c.args.s.line ≡ 512 = search rules in
    told-as (run feed nothing 0 c.args.s c.args.piece.now) _ (line_turn c.args.s.mode c.args.s.terms c.part-text.result.now) (talk.says c.hear.result) _ c.args.reply.now _ (line-whole c.args.s c.args.piece.now c.before_byte-part.result.now _ c.requires.0 long c.before_byte-part.ensures c.copy_at.ensures.1 (omega (arith, c.if-room-n.false, c.requires.1)) c.if-n-piece.false c.part-text.result.now c.part-text.ensures) c.hear.ensures c.told.ensures
