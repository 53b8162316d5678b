-- The first bytes of the array, behind their number.
use Rattle.layout.specs.Layout.{text, call}
use Rattle.datagram_head.proofs.texts.put_call.Goals as goal

pub put_text-requires : goal.put_text-requires
unfolding call text
put_text-requires c = c.requires

pub returns : goal.returns
unfolding call text
returns c = c.put_text.ensures
