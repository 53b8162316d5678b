-- 8, then 9, then the key.
use mathlib.Core.Path.{sym, ap, ◌∙◌}
use native.Mathlib.Omega.{arith}
use Rattle.octets.proofs.Tests.{if_no, no_true}
use Rattle.callsigns.proofs.Lengths.{callsign-short}
use Rattle.names.proofs.Lengths.{stream_id-short}
use Rattle.keys.specs.declared.Key.{Key}
use Rattle.keys.specs.Key.{Named, named_of}
use Rattle.keys.proofs.Names.{key-is}
use Rattle.keys.proofs.name.Goals as goal

pub padded-requires : goal.padded-requires
padded-requires c = (omega arith, callsign-short _ (sym c.is_callsign.ensures ∙ c.if-not-is_callsign.false))

pub padded-requires-2 : goal.padded-requires-2
padded-requires-2 c = (omega arith, stream_id-short _ (sym c.is_stream_id.ensures ∙ c.if-not-is_stream_id.false))

pub returns : goal.returns
unfolding named_of
returns c = let p = sym c.is_callsign.ensures ∙ c.if-not-is_callsign.false in
    let q = sym c.is_stream_id.ensures ∙ c.if-not-is_stream_id.false in
    sym (if_no _ _ _ (no_true _ p) ∙ if_no _ _ _ (no_true _ q) ∙ ap {B = Named} (λ (k : Key). record { refusal = 0; key = k }) (sym (key-is _ _ _ _ c.padded.ensures c.padded-2.ensures)))
