-- Each first byte leads one row of the table, numbered from 0, or none.
use mathlib.Core.Path.{refl}
use borrow.Author.Rules.{rules}
use Rattle.utf8.proofs.Runs.{row-decides, by-none, passes}
use Rattle.utf8.proofs.characters.character.Goals as goal

pub returns-in-224 : goal.returns-in-224
returns-in-224 c = passes _ c.args.i _ _ (row-decides 2 refl refl c.args.s.now c.args.i (search rules) (search rules) (search rules)) c.behind.ensures

pub returns-in-225-to-236 : goal.returns-in-225-to-236
returns-in-225-to-236 c = passes _ c.args.i _ _ (row-decides 3 refl refl c.args.s.now c.args.i (search rules) (search rules) (search rules)) c.behind-in-225-to-236.ensures

pub returns-in-237 : goal.returns-in-237
returns-in-237 c = passes _ c.args.i _ _ (row-decides 4 refl refl c.args.s.now c.args.i (search rules) (search rules) (search rules)) c.behind-in-237.ensures

pub returns-in-238-to-239 : goal.returns-in-238-to-239
returns-in-238-to-239 c = passes _ c.args.i _ _ (row-decides 5 refl refl c.args.s.now c.args.i (search rules) (search rules) (search rules)) c.behind-in-238-to-239.ensures

pub returns-in-240 : goal.returns-in-240
returns-in-240 c = passes _ c.args.i _ _ (row-decides 6 refl refl c.args.s.now c.args.i (search rules) (search rules) (search rules)) c.behind-in-240.ensures

pub returns-in-241-to-243 : goal.returns-in-241-to-243
returns-in-241-to-243 c = passes _ c.args.i _ _ (row-decides 7 refl refl c.args.s.now c.args.i (search rules) (search rules) (search rules)) c.behind-in-241-to-243.ensures

pub returns-in-244 : goal.returns-in-244
returns-in-244 c = passes _ c.args.i _ _ (row-decides 8 refl refl c.args.s.now c.args.i (search rules) (search rules) (search rules)) c.behind-in-244.ensures

pub returns-in_default : goal.returns-in_default
returns-in_default c = by-none c.args.s.now c.args.i 0x80 0xC1 refl (search rules) (search rules) (search rules)

pub returns-in_default-2 : goal.returns-in_default-2
returns-in_default-2 c = by-none c.args.s.now c.args.i 0xF5 0xFF refl (search rules) (search rules) (search rules)
