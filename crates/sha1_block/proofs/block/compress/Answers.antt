-- Four runs make the eighty rounds.
use Rattle.std.proofs.Common.{refl, ap, ◌∙◌}
use Rattle.sha1_block.specs.Block as fips
use Rattle.sha1_block.proofs.block.compress.Goals as goal

pub returns : goal.returns
unfolding fips.compressed fips.rounds
returns c = let h = c.args.h in let e = c.run-v.ensures h (c.run-2.ensures h (c.run-x.ensures h (c.run.ensures h refl))) in
    c.plus.ensures ∙ ap (fips.plus h) (e ∙ ap (λ w. fips.rounds w 80 h) c.schedule-w.ensures)
