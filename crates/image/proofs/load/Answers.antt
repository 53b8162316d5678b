-- 40, then 16, then the image's table.
use mathlib.Core.Path.{◌∙◌}
use native.Mathlib.Omega.{arith}
use Rattle.image.proofs.Reading.{rules_kept, no-rules, load-broken, load-bad, load-room, load-rules, load-end, load-yes}
use Rattle.image.proofs.load.Goals as goal

pub returns-in-Err : goal.returns-in-Err
returns-in-Err c = let n = no-rules c.args.t _ c.open_rows.ensures _ c.in-Err.is in c.refused.ensures ∙ load-broken c.args.t c.args.image.now _ n.0 n.1

pub returns-in_default-read_rows : goal.returns-in_default-read_rows
returns-in_default-read_rows c = c.refused-in_default-read_rows.ensures ∙ load-bad c.args.t c.args.image.now (rules_kept c.args.t _ c.open_rows.ensures _ c.in_default.is).keeps _ c.read_rows.ensures c.in_default-read_rows.is

pub slice_bounds-is_end-count : goal.slice_bounds-is_end-count
slice_bounds-is_end-count c = load-room c.args.t c.args.image.now (rules_kept c.args.t _ c.open_rows.ensures _ c.in_default.is).keeps _ c.read_rows.ensures _ c.in-Some.is

pub slice_bounds-is_end-start : goal.slice_bounds-is_end-start
slice_bounds-is_end-start c = load-room c.args.t c.args.image.now (rules_kept c.args.t _ c.open_rows.ensures _ c.in_default.is).keeps _ c.read_rows.ensures _ c.in-Some.is

pub overflow_cast-r : goal.overflow_cast-r
overflow_cast-r c = omega (arith, (load-rules c.args.t c.args.image.now (rules_kept c.args.t _ c.open_rows.ensures _ c.in_default.is).keeps _ c.read_rows.ensures _ c.in-Some.is).few)

pub returns-then-not-is_end : goal.returns-then-not-is_end
returns-then-not-is_end c = c.refused-then-not-is_end.ensures ∙ load-end c.args.t c.args.image.now (rules_kept c.args.t _ c.open_rows.ensures _ c.in_default.is).keeps _ c.read_rows.ensures _ c.in-Some.is _ c.is_end.ensures c.if-not-is_end.true

pub returns : goal.returns
returns c = load-yes c.args.t c.args.image.now (rules_kept c.args.t _ c.open_rows.ensures _ c.in_default.is).keeps _ c.read_rows.ensures _ c.in-Some.is _ c.is_end.ensures c.if-not-is_end.false
