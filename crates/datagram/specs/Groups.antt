-- What the private readers of the fields promise one another; no public promise speaks of it.
use Rattle.std.specs.Prelude.{ℕ, Result, Ok, Err}
use Rattle.refusals.specs.declared.Refusal.{Refusal}
use Rattle.refusals.specs.Refusals.{number_of}
use Rattle.layout.specs.declared.Datagram.{Datagram}
use Rattle.layout.specs.Layout as layout
use Rattle.datagram_numbers.specs.declared.Opening.{Opening}
use Rattle.datagram_texts.specs.declared.Ends.{Ends}
use Rattle.datagram_lists.specs.declared.Way.{Way}
use Rattle.datagram.specs.Answer.{Said, accepted, refused}
use Rattle.datagram.specs.declared.fields.Options.{Options}

abbrev pub options_held : layout.Options → Options
options_held x = record { fragment = x.0; stream = x.1.0; headers = x.1.1 }

-- and back: the layout's values of a group that is held in a struct
abbrev pub opening_in : Opening → layout.Opening
opening_in o = (o.flags, (o.id, (o.salt, o.ttl)))

abbrev pub ends_in : Ends → layout.Ends
ends_in e = (e.dst, (e.src, e.link))

abbrev pub way_in : Way → layout.Way
way_in w = (w.flood, (w.route, w.hops))

abbrev pub options_in : Options → layout.Options
options_in p = (p.fragment, (p.stream, p.headers))

-- the payload's place and length, found or refused, beside a message
abbrev pub says_with : Datagram → Result (ℕ × ℕ) Refusal → Said
says_with m (Ok p) = accepted m p.0 p.1
says_with m (Err r) = refused (number_of r)
