-- Word by word: what is filled is the schedule's beginning.
use Rattle.std.proofs.Common.{◌≡◌, ◌*◌, sym, refl, ap, ◌∙◌, arith, length-set, take_all, rules}
use Rattle.sha1_block.specs.Block as fips
use Rattle.sha1_block.proofs.Schedule.{word-part, more, early, late}
use Rattle.sha1_block.proofs.block.schedule.Goals as goal

pub loop-t-init : goal.loop-t-init
unfolding fips.schedule
loop-t-init c = (refl, refl)

pub loop-t-preserved : goal.loop-t-preserved
loop-t-preserved c = (
  rw length-set c.loop-t.invariant.0,
  more _ c.loop-t.w c.loop-t.t _ (search rules) c.loop-t.invariant.1
      (c.word.ensures ∙ word-part c.args.s.now c.args.at 64 (4 * c.loop-t.t) (omega arith) ∙ early _ _ _ c.loop-t-test.true),
)

pub loop-t-2-preserved : goal.loop-t-2-preserved
loop-t-2-preserved c = (rw length-set c.loop-t-2.invariant.0, more _ c.loop-t-2.w c.loop-t-2.t _ (search rules) c.loop-t-2.invariant.1 (c.mix.ensures ∙ late _ _ _ c.loop-t-2.auto.t))

pub returns : goal.returns
returns c = let e : c.loop-t-2.t ≡ 80 = omega arith in sym (take_all c.loop-t-2.t c.loop-t-2.w (omega arith)) ∙ c.loop-t-2.invariant.1 ∙ ap (fips.schedule _) e
