-- The refusals in their order, then the piece.
use mathlib.Core.Path.{refl}
use native.Mathlib.Omega.{arith}
use lib.ListN.{length, take}
use Rattle.machine.specs.Machine.{run}
use Rattle.talk.specs.Talk.{nothing}
use Rattle.session.specs.Feed.{feed}
use Rattle.refusals.proofs.Told.{not-0}
use Rattle.session_rules.proofs.Tests as rules
use Rattle.session.proofs.Tests as tests
use Rattle.session.proofs.feed.Goals as goal

pub returns-in-Err : goal.returns-in-Err
returns-in-Err c = tests.refusal c.args.s c.args.piece.now c.args.payload.now c.args.reply.now _ _ _ (rules.digest-free c.args.s (length c.args.payload.now) (length c.args.reply.now) _ c.in-Err.ensures) (omega (arith, not-0 c.in-Err.r)) (c.silent.ensures, refl)

pub receive-requires : goal.receive-requires
receive-requires c = let k = rules.kept c.args.s (rules.passed c.args.s (length c.args.payload.now) (length c.args.reply.now) _ (rules.digest-free c.args.s (length c.args.payload.now) (length c.args.reply.now) _ c.in_default.ensures) (omega arith)).kept in let z = rules.no_line c.args.s k c.if-s-eq2.true in (c.if-s-eq2.true, z.0, z.1, rules.payload-bound c.args.s k c.if-s-eq2.true)

pub returns-then-s-eq2 : goal.returns-then-s-eq2
returns-then-s-eq2 c = tests.goes c.args.s c.args.piece.now c.args.payload.now _ c.args.reply.now _ _ (rules.passed c.args.s (length c.args.payload.now) (length c.args.reply.now) _ (rules.digest-free c.args.s (length c.args.payload.now) (length c.args.reply.now) _ c.in_default.ensures) (omega arith)) (tests.stores c.args.s (take (run feed nothing 0 c.args.s c.args.piece.now).used c.args.piece.now) c.args.payload.now _ c.if-s-eq2.true c.receive.ensures.1) c.receive.ensures.0

pub listen-requires : goal.listen-requires
listen-requires c = let g = (rules.passed c.args.s (length c.args.payload.now) (length c.args.reply.now) _ (rules.digest-free c.args.s (length c.args.payload.now) (length c.args.reply.now) _ c.in_default.ensures) (omega arith)) in let k = rules.kept c.args.s g.kept in let m = rules.mode-low c.args.s k g.going c.if-s-eq2.false in (m, rules.line-bound c.args.s k (omega (arith, m)))

pub returns : goal.returns
returns c = tests.goes c.args.s c.args.piece.now c.args.payload.now _ c.args.reply.now _ _ (rules.passed c.args.s (length c.args.payload.now) (length c.args.reply.now) _ (rules.digest-free c.args.s (length c.args.payload.now) (length c.args.reply.now) _ c.in_default.ensures) (omega arith)) (tests.stays c.args.s (take (run feed nothing 0 c.args.s c.args.piece.now).used c.args.piece.now) c.args.payload.now c.if-s-eq2.false) c.listen.ensures
