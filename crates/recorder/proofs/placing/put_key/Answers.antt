-- The originator, then the stream id behind it.
use mathlib.Core.Path.{refl}
use Rattle.recorder.proofs.Behind.{key_fits, key-placed}
use Rattle.recorder.proofs.placing.put_key.Goals as goal

pub put_text-requires : goal.put_text-requires
put_text-requires c = (key_fits c.args.k _ _ c.args.at c.args.out.now c.args.out.now c.part-originator.ensures c.part-stream_id.ensures (c.requires) refl).0

pub put_text-requires-2 : goal.put_text-requires-2
put_text-requires-2 c = (key_fits c.args.k _ _ c.args.at c.args.out.now c.put_text.new.out c.part-originator.ensures c.part-stream_id.ensures (c.requires) c.put_text.auto.out).1

pub returns : goal.returns
returns c = key-placed c.args.k _ _ _ c.args.at c.args.out.now _ _ c.part-originator.ensures c.part-stream_id.ensures refl c.put_text.ensures c.put_text-2.ensures (c.requires)
