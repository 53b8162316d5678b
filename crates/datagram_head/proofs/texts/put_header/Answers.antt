-- The key, then the value behind it.
use Rattle.layout.specs.Layout.{text, header}
use Rattle.headers.specs.Keys.{key_of}
use Rattle.headers.specs.Rule.{value_of}
use Rattle.datagram_head.proofs.Puts.{first-room, next-room, both}
use Rattle.datagram_head.proofs.texts.put_header.Goals as goal

pub put_text-a-requires : goal.put_text-a-requires
unfolding header text key_of value_of
put_text-a-requires c = first-room _ _ c.requires

pub put_text-requires : goal.put_text-requires
unfolding header text key_of value_of
put_text-requires c = next-room _ c.put_text-a.ensures c.requires

pub returns : goal.returns
unfolding header text key_of value_of
returns c = both c.requires c.put_text-a.ensures c.put_text.ensures
