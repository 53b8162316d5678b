-- The lowest free group is one of the four.
use Rattle.std.proofs.Common.{sym, ◌∙◌, arith}
use Rattle.groups.specs.Groups.{is_free}
use Rattle.groups.proofs.Search.{found-bound}
use Rattle.groupcalls.proofs.calls.add_new.Goals as goal

pub add_to-requires : goal.add_to-requires
add_to-requires c = (omega (arith, found-bound is_free c.in_ok-g.g c.args.t.now.items (sym c.in_ok-g.ensures.ok_part ∙ c.find_free.ensures)), c.requires.1)
