-- The key and the value, each with zeros behind it.
use Rattle.held_texts.specs.Texts.{padded}
use Rattle.held_texts.proofs.header_text.Goals as goal

pub returns : goal.returns
unfolding padded
returns c = rw (c.fill-key_len.ensures.0, c.fill-key_len.ensures.1, c.fill-value_len.ensures.0, c.fill-value_len.ensures.1)
