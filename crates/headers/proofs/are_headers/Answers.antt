-- Each is a header, and fewer than two keys differ.
use mathlib.Core.Path.{sym, ◌∙◌}
use borrow.Author.Tests.{le-leb}
use Rattle.octets.proofs.Tests.{and-next}
use Rattle.headers.specs.Rule.{headers}
use Rattle.headers.proofs.Pairs.{few-differ}
use Rattle.headers.proofs.are_headers.Goals as goal

pub returns-then-h-lt2 : goal.returns-then-h-lt2
unfolding headers
returns-then-h-lt2 c = sym (and-next _ _ (le-leb _ 8 c.if-h-gt8.false) ∙ and-next _ _ (sym c.each_is_header.ensures ∙ c.if-not-each_is_header.false) ∙ few-differ c.args.h c.if-h-lt2.true)
