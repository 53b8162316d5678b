-- The first bytes of the array, behind their number.
use Rattle.layout.specs.Layout.{text, address}
use Rattle.datagram_head.proofs.texts.put_address.Goals as goal

pub put_text-requires : goal.put_text-requires
unfolding address text
put_text-requires c = c.requires

pub returns : goal.returns
unfolding address text
returns c = c.put_text.ensures
