-- What the private functions promise one another; no public promise speaks of it.
use Rattle.std.specs.Prelude.{ℕ, List, Option, get_or}
use Rattle.std.specs.Option.{option_map}
use Rattle.headers.specs.declared.Headers.{Headers}
use Rattle.envelope.specs.Texts.{call_text, address_text}
use Rattle.envelope.specs.declared.Fragment.{Fragment}
use Rattle.envelope.specs.declared.Stream.{Stream}
use Rattle.envelope.specs.declared.Envelope.{Envelope}
use Rattle.line_values.specs.Values.{text_of}
use Rattle.line_groups.specs.declared.Singles.{Singles}
use Rattle.line_places.specs.Places.{no_place, value_at}
use Rattle.line_places.specs.declared.Place.{Place}

-- a key's value, by the table of places
abbrev pub slot_value : List ℕ → List (Option Place) → ℕ → Option (List ℕ)
slot_value t slots i = value_at t (get_or slots i no_place)

-- the fields, from the groups that were read
unfoldable pub gather_of : ℕ → List ℕ → List (Option Place) → Singles → Option Fragment → Option Stream → Headers → Envelope
gather_of id t slots q f m h = record {
  id = id;
  salt = q.salt;
  ttl = q.ttl;
  src = option_map call_text (slot_value t slots 7);
  fragment = f;
  stream = m;
  headers = h;
  dst = address_text (text_of (slot_value t slots 4));
}
