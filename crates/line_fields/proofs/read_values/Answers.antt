-- The first rule that does not hold decides.
use mathlib.Core.Path.{sym, ◌∙◌}
use Rattle.line_fields.proofs.Groups.{values-places, values-payload, values-singles, values-fragment, values-stream, values-all}
use Rattle.line_fields.proofs.read_values.Goals as goal

pub returns-in_default : goal.returns-in_default
returns-in_default c = values-places c.args.t.now c.args.id (sym c.read_places.ensures ∙ c.in_default.is)

pub returns-in_default-payload : goal.returns-in_default-payload
returns-in_default-payload c = values-payload c.args.t.now c.args.id c.in-Some.places (sym c.read_places.ensures ∙ c.in-Some.is) (sym c.payload.ensures ∙ c.in_default-payload.is)

pub returns-in_default-singles : goal.returns-in_default-singles
returns-in_default-singles c = values-singles c.args.t.now c.args.id c.in-Some.places (sym c.read_places.ensures ∙ c.in-Some.is) c.in-Some-payload.p (sym c.payload.ensures ∙ c.in-Some-payload.is) (sym c.singles.ensures ∙ c.in_default-singles.is)

pub returns-in_default-fragment : goal.returns-in_default-fragment
returns-in_default-fragment c = values-fragment c.args.t.now c.args.id c.in-Some.places (sym c.read_places.ensures ∙ c.in-Some.is) c.in-Some-payload.p (sym c.payload.ensures ∙ c.in-Some-payload.is) c.in-Some-singles.q (sym c.singles.ensures ∙ c.in-Some-singles.is) (sym c.fragment.ensures ∙ c.in_default-fragment.is)

pub returns-in_default-stream : goal.returns-in_default-stream
returns-in_default-stream c = values-stream c.args.t.now c.args.id c.in-Some.places (sym c.read_places.ensures ∙ c.in-Some.is) c.in-Some-payload.p (sym c.payload.ensures ∙ c.in-Some-payload.is) c.in-Some-singles.q (sym c.singles.ensures ∙ c.in-Some-singles.is) c.in-Some-fragment.f (sym c.fragment.ensures ∙ c.in-Some-fragment.is) (sym c.stream.ensures ∙ c.in_default-stream.is)

pub returns : goal.returns
returns c = values-all c.args.t.now c.args.id c.in-Some.places (sym c.read_places.ensures ∙ c.in-Some.is) c.in-Some-payload.p (sym c.payload.ensures ∙ c.in-Some-payload.is) c.in-Some-singles.q (sym c.singles.ensures ∙ c.in-Some-singles.is) c.in-Some-fragment.f (sym c.fragment.ensures ∙ c.in-Some-fragment.is) c.in-Some-stream.m (sym c.stream.ensures ∙ c.in-Some-stream.is) c.gather-fields.result c.gather-fields.ensures
