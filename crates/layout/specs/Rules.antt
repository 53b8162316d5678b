-- Document 01, "The datagram": the rules of a message that a datagram carries. The line's rules hold for the fields that it shares.
use Rattle.std.specs.Prelude.{Bool}
use Rattle.octets.specs.Words.{◌and◌, ◌≤?◌, every}
use Rattle.envelope.specs.Rules.{call_in, if_some, envelope}
use Rattle.layout.specs.declared.Hops.{Hops}
use Rattle.layout.specs.declared.Datagram.{Datagram}
use Rattle.layout.specs.Texts.{hops_of}

-- 0 to 16 callsigns
unfoldable pub hops_in : Hops → Bool
hops_in h = h.count ≤? 16 and every call_in (hops_of h)

-- (the flood hops may be any byte)
unfoldable pub valid : Datagram → Bool
valid m =
    envelope m.fields
    and (if_some call_in m.link
    and (if_some hops_in m.route
    and if_some hops_in m.hops))
