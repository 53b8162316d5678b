-- The four groups, each from the part behind the last, the rules, and the payload's place.
use Rattle.std.proofs.Common.{refl, arith, ◌≡◌, ◌+◌, sym, ◌∙◌}
use Rattle.layout.specs.Layout.{opening, ends, way, options}
use Rattle.layout.proofs.Whole.{opening-laws, ends-laws, way-laws}
use Rattle.datagram_numbers.specs.Found.{opening_held}
use Rattle.datagram_numbers.proofs.Chains.{tail, tail-length, none-read, some-read, room-read}
use Rattle.datagram_texts.specs.Found.{ends_held}
use Rattle.datagram_lists.specs.Found.{way_held}
use Rattle.datagram.specs.Groups.{options_held, opening_in, ends_in, way_in, options_in}
use Rattle.datagram.proofs.Groups.{no-opening, no_ends, no_way, no_options, all-room, not_valid, is-valid}
use Rattle.datagram.proofs.Whole.{fields-bad, fields-got}
use Rattle.datagram.proofs.fields.read_message.Goals as goal

pub returns-in_default : goal.returns-in_default
returns-in_default c =
    fields-bad c.args.d.now (no-opening (tail 1 c.args.d.now) (none-read opening_held _ c.read_opening.result c.read_opening.ensures c.in_default.is))

pub slice_bounds-d1-count : goal.slice_bounds-d1-count
slice_bounds-d1-count c = room-read opening opening_held (tail 1 c.args.d.now) c.read_opening.result _ _ opening-laws c.read_opening.ensures c.in-Some.is

pub slice_bounds-d1-start : goal.slice_bounds-d1-start
slice_bounds-d1-start c = room-read opening opening_held (tail 1 c.args.d.now) c.read_opening.result _ _ opening-laws c.read_opening.ensures c.in-Some.is

pub returns-in_default-read_ends : goal.returns-in_default-read_ends
returns-in_default-read_ends c =
    let eo = some-read opening_held opening_in (opening.parse (tail 1 c.args.d.now)) c.read_opening.result c.in-Some.opening c.in-Some.n1 (λ x. refl) c.read_opening.ensures c.in-Some.is in
    fields-bad c.args.d.now (no_ends (tail 1 c.args.d.now) (opening_in c.in-Some.opening) c.in-Some.n1 eo (none-read ends_held _ c.read_ends.result c.read_ends.ensures c.in_default-read_ends.is))

pub slice_bounds-d2-count : goal.slice_bounds-d2-count
slice_bounds-d2-count c = room-read (ends c.in-Some.opening.flags) ends_held (tail c.in-Some.n1 (tail 1 c.args.d.now)) c.read_ends.result _ _ (ends-laws c.in-Some.opening.flags) c.read_ends.ensures c.in-Some-read_ends.is

pub slice_bounds-d2-start : goal.slice_bounds-d2-start
slice_bounds-d2-start c = room-read (ends c.in-Some.opening.flags) ends_held (tail c.in-Some.n1 (tail 1 c.args.d.now)) c.read_ends.result _ _ (ends-laws c.in-Some.opening.flags) c.read_ends.ensures c.in-Some-read_ends.is

pub returns-in_default-way_found : goal.returns-in_default-way_found
returns-in_default-way_found c =
    let eo = some-read opening_held opening_in (opening.parse (tail 1 c.args.d.now)) c.read_opening.result c.in-Some.opening c.in-Some.n1 (λ x. refl) c.read_opening.ensures c.in-Some.is in
    let ee = some-read ends_held ends_in ((ends c.in-Some.opening.flags).parse (tail c.in-Some.n1 (tail 1 c.args.d.now))) c.read_ends.result c.in-Some-read_ends.ends c.in-Some-read_ends.n2 (λ x. refl) c.read_ends.ensures c.in-Some-read_ends.is in
    fields-bad c.args.d.now (no_way (tail 1 c.args.d.now) (opening_in c.in-Some.opening) c.in-Some.n1 eo (ends_in c.in-Some-read_ends.ends) c.in-Some-read_ends.n2 ee (none-read way_held _ c.read_way-way_found.result c.read_way-way_found.ensures c.in_default-way_found.is))

pub slice_bounds-d3-count : goal.slice_bounds-d3-count
slice_bounds-d3-count c = room-read (way c.in-Some.opening.flags) way_held (tail c.in-Some-read_ends.n2 (tail c.in-Some.n1 (tail 1 c.args.d.now))) c.read_way-way_found.result _ _ (way-laws c.in-Some.opening.flags) c.read_way-way_found.ensures c.in-Some-way_found.is

pub slice_bounds-d3-start : goal.slice_bounds-d3-start
slice_bounds-d3-start c = room-read (way c.in-Some.opening.flags) way_held (tail c.in-Some-read_ends.n2 (tail c.in-Some.n1 (tail 1 c.args.d.now))) c.read_way-way_found.result _ _ (way-laws c.in-Some.opening.flags) c.read_way-way_found.ensures c.in-Some-way_found.is

pub returns-in_default-options_found : goal.returns-in_default-options_found
returns-in_default-options_found c =
    let eo = some-read opening_held opening_in (opening.parse (tail 1 c.args.d.now)) c.read_opening.result c.in-Some.opening c.in-Some.n1 (λ x. refl) c.read_opening.ensures c.in-Some.is in
    let ee = some-read ends_held ends_in ((ends c.in-Some.opening.flags).parse (tail c.in-Some.n1 (tail 1 c.args.d.now))) c.read_ends.result c.in-Some-read_ends.ends c.in-Some-read_ends.n2 (λ x. refl) c.read_ends.ensures c.in-Some-read_ends.is in
    let ew = some-read way_held way_in ((way c.in-Some.opening.flags).parse (tail c.in-Some-read_ends.n2 (tail c.in-Some.n1 (tail 1 c.args.d.now)))) c.read_way-way_found.result c.in-Some-way_found.way c.in-Some-way_found.n3 (λ x. refl) c.read_way-way_found.ensures c.in-Some-way_found.is in
    fields-bad c.args.d.now (no_options (tail 1 c.args.d.now) (opening_in c.in-Some.opening) c.in-Some.n1 eo (ends_in c.in-Some-read_ends.ends) c.in-Some-read_ends.n2 ee (way_in c.in-Some-way_found.way) c.in-Some-way_found.n3 ew (none-read options_held _ c.read_options-options_found.result c.read_options-options_found.ensures c.in_default-options_found.is))

pub returns-then-not-is_valid : goal.returns-then-not-is_valid
returns-then-not-is_valid c =
    let eo = some-read opening_held opening_in (opening.parse (tail 1 c.args.d.now)) c.read_opening.result c.in-Some.opening c.in-Some.n1 (λ x. refl) c.read_opening.ensures c.in-Some.is in
    let ee = some-read ends_held ends_in ((ends c.in-Some.opening.flags).parse (tail c.in-Some.n1 (tail 1 c.args.d.now))) c.read_ends.result c.in-Some-read_ends.ends c.in-Some-read_ends.n2 (λ x. refl) c.read_ends.ensures c.in-Some-read_ends.is in
    let ew = some-read way_held way_in ((way c.in-Some.opening.flags).parse (tail c.in-Some-read_ends.n2 (tail c.in-Some.n1 (tail 1 c.args.d.now)))) c.read_way-way_found.result c.in-Some-way_found.way c.in-Some-way_found.n3 (λ x. refl) c.read_way-way_found.ensures c.in-Some-way_found.is in
    let ep = some-read options_held options_in ((options c.in-Some.opening.flags).parse (tail c.in-Some-way_found.n3 (tail c.in-Some-read_ends.n2 (tail c.in-Some.n1 (tail 1 c.args.d.now))))) c.read_options-options_found.result c.in-Some-options_found.options c.in-Some-options_found.n4 (λ x. refl) c.read_options-options_found.ensures c.in-Some-options_found.is in
    fields-bad c.args.d.now (not_valid (tail 1 c.args.d.now) (opening_in c.in-Some.opening) c.in-Some.n1 eo (ends_in c.in-Some-read_ends.ends) c.in-Some-read_ends.n2 ee (way_in c.in-Some-way_found.way) c.in-Some-way_found.n3 ew (options_in c.in-Some-options_found.options) c.in-Some-options_found.n4 ep (rw (← c.put_together-message.ensures) (sym c.is_valid.ensures ∙ c.if-not-is_valid.true)))

pub overflow_add-n1 : goal.overflow_add-n1
overflow_add-n1 c =
    let eo = some-read opening_held opening_in (opening.parse (tail 1 c.args.d.now)) c.read_opening.result c.in-Some.opening c.in-Some.n1 (λ x. refl) c.read_opening.ensures c.in-Some.is in
    let ee = some-read ends_held ends_in ((ends c.in-Some.opening.flags).parse (tail c.in-Some.n1 (tail 1 c.args.d.now))) c.read_ends.result c.in-Some-read_ends.ends c.in-Some-read_ends.n2 (λ x. refl) c.read_ends.ensures c.in-Some-read_ends.is in
    let ew = some-read way_held way_in ((way c.in-Some.opening.flags).parse (tail c.in-Some-read_ends.n2 (tail c.in-Some.n1 (tail 1 c.args.d.now)))) c.read_way-way_found.result c.in-Some-way_found.way c.in-Some-way_found.n3 (λ x. refl) c.read_way-way_found.ensures c.in-Some-way_found.is in
    let ep = some-read options_held options_in ((options c.in-Some.opening.flags).parse (tail c.in-Some-way_found.n3 (tail c.in-Some-read_ends.n2 (tail c.in-Some.n1 (tail 1 c.args.d.now))))) c.read_options-options_found.result c.in-Some-options_found.options c.in-Some-options_found.n4 (λ x. refl) c.read_options-options_found.ensures c.in-Some-options_found.is in
    omega (arith, all-room (tail 1 c.args.d.now) (opening_in c.in-Some.opening) c.in-Some.n1 eo (ends_in c.in-Some-read_ends.ends) c.in-Some-read_ends.n2 ee (way_in c.in-Some-way_found.way) c.in-Some-way_found.n3 ew (options_in c.in-Some-options_found.options) c.in-Some-options_found.n4 ep, tail-length 1 c.args.d.now, c.well_formed.0)

pub overflow_add-n1-2 : goal.overflow_add-n1-2
overflow_add-n1-2 c =
    let eo = some-read opening_held opening_in (opening.parse (tail 1 c.args.d.now)) c.read_opening.result c.in-Some.opening c.in-Some.n1 (λ x. refl) c.read_opening.ensures c.in-Some.is in
    let ee = some-read ends_held ends_in ((ends c.in-Some.opening.flags).parse (tail c.in-Some.n1 (tail 1 c.args.d.now))) c.read_ends.result c.in-Some-read_ends.ends c.in-Some-read_ends.n2 (λ x. refl) c.read_ends.ensures c.in-Some-read_ends.is in
    let ew = some-read way_held way_in ((way c.in-Some.opening.flags).parse (tail c.in-Some-read_ends.n2 (tail c.in-Some.n1 (tail 1 c.args.d.now)))) c.read_way-way_found.result c.in-Some-way_found.way c.in-Some-way_found.n3 (λ x. refl) c.read_way-way_found.ensures c.in-Some-way_found.is in
    let ep = some-read options_held options_in ((options c.in-Some.opening.flags).parse (tail c.in-Some-way_found.n3 (tail c.in-Some-read_ends.n2 (tail c.in-Some.n1 (tail 1 c.args.d.now))))) c.read_options-options_found.result c.in-Some-options_found.options c.in-Some-options_found.n4 (λ x. refl) c.read_options-options_found.ensures c.in-Some-options_found.is in
    omega (arith, all-room (tail 1 c.args.d.now) (opening_in c.in-Some.opening) c.in-Some.n1 eo (ends_in c.in-Some-read_ends.ends) c.in-Some-read_ends.n2 ee (way_in c.in-Some-way_found.way) c.in-Some-way_found.n3 ew (options_in c.in-Some-options_found.options) c.in-Some-options_found.n4 ep, tail-length 1 c.args.d.now, c.well_formed.0)

pub overflow_add-n1-3 : goal.overflow_add-n1-3
overflow_add-n1-3 c =
    let eo = some-read opening_held opening_in (opening.parse (tail 1 c.args.d.now)) c.read_opening.result c.in-Some.opening c.in-Some.n1 (λ x. refl) c.read_opening.ensures c.in-Some.is in
    let ee = some-read ends_held ends_in ((ends c.in-Some.opening.flags).parse (tail c.in-Some.n1 (tail 1 c.args.d.now))) c.read_ends.result c.in-Some-read_ends.ends c.in-Some-read_ends.n2 (λ x. refl) c.read_ends.ensures c.in-Some-read_ends.is in
    let ew = some-read way_held way_in ((way c.in-Some.opening.flags).parse (tail c.in-Some-read_ends.n2 (tail c.in-Some.n1 (tail 1 c.args.d.now)))) c.read_way-way_found.result c.in-Some-way_found.way c.in-Some-way_found.n3 (λ x. refl) c.read_way-way_found.ensures c.in-Some-way_found.is in
    let ep = some-read options_held options_in ((options c.in-Some.opening.flags).parse (tail c.in-Some-way_found.n3 (tail c.in-Some-read_ends.n2 (tail c.in-Some.n1 (tail 1 c.args.d.now))))) c.read_options-options_found.result c.in-Some-options_found.options c.in-Some-options_found.n4 (λ x. refl) c.read_options-options_found.ensures c.in-Some-options_found.is in
    omega (arith, all-room (tail 1 c.args.d.now) (opening_in c.in-Some.opening) c.in-Some.n1 eo (ends_in c.in-Some-read_ends.ends) c.in-Some-read_ends.n2 ee (way_in c.in-Some-way_found.way) c.in-Some-way_found.n3 ew (options_in c.in-Some-options_found.options) c.in-Some-options_found.n4 ep, tail-length 1 c.args.d.now, c.well_formed.0)

pub overflow_add-n1-4 : goal.overflow_add-n1-4
overflow_add-n1-4 c =
    let eo = some-read opening_held opening_in (opening.parse (tail 1 c.args.d.now)) c.read_opening.result c.in-Some.opening c.in-Some.n1 (λ x. refl) c.read_opening.ensures c.in-Some.is in
    let ee = some-read ends_held ends_in ((ends c.in-Some.opening.flags).parse (tail c.in-Some.n1 (tail 1 c.args.d.now))) c.read_ends.result c.in-Some-read_ends.ends c.in-Some-read_ends.n2 (λ x. refl) c.read_ends.ensures c.in-Some-read_ends.is in
    let ew = some-read way_held way_in ((way c.in-Some.opening.flags).parse (tail c.in-Some-read_ends.n2 (tail c.in-Some.n1 (tail 1 c.args.d.now)))) c.read_way-way_found.result c.in-Some-way_found.way c.in-Some-way_found.n3 (λ x. refl) c.read_way-way_found.ensures c.in-Some-way_found.is in
    let ep = some-read options_held options_in ((options c.in-Some.opening.flags).parse (tail c.in-Some-way_found.n3 (tail c.in-Some-read_ends.n2 (tail c.in-Some.n1 (tail 1 c.args.d.now))))) c.read_options-options_found.result c.in-Some-options_found.options c.in-Some-options_found.n4 (λ x. refl) c.read_options-options_found.ensures c.in-Some-options_found.is in
    omega (arith, all-room (tail 1 c.args.d.now) (opening_in c.in-Some.opening) c.in-Some.n1 eo (ends_in c.in-Some-read_ends.ends) c.in-Some-read_ends.n2 ee (way_in c.in-Some-way_found.way) c.in-Some-way_found.n3 ew (options_in c.in-Some-options_found.options) c.in-Some-options_found.n4 ep, tail-length 1 c.args.d.now, c.well_formed.0)

pub find_payload-requires : goal.find_payload-requires
find_payload-requires c =
    let eo = some-read opening_held opening_in (opening.parse (tail 1 c.args.d.now)) c.read_opening.result c.in-Some.opening c.in-Some.n1 (λ x. refl) c.read_opening.ensures c.in-Some.is in
    let ee = some-read ends_held ends_in ((ends c.in-Some.opening.flags).parse (tail c.in-Some.n1 (tail 1 c.args.d.now))) c.read_ends.result c.in-Some-read_ends.ends c.in-Some-read_ends.n2 (λ x. refl) c.read_ends.ensures c.in-Some-read_ends.is in
    let ew = some-read way_held way_in ((way c.in-Some.opening.flags).parse (tail c.in-Some-read_ends.n2 (tail c.in-Some.n1 (tail 1 c.args.d.now)))) c.read_way-way_found.result c.in-Some-way_found.way c.in-Some-way_found.n3 (λ x. refl) c.read_way-way_found.ensures c.in-Some-way_found.is in
    let ep = some-read options_held options_in ((options c.in-Some.opening.flags).parse (tail c.in-Some-way_found.n3 (tail c.in-Some-read_ends.n2 (tail c.in-Some.n1 (tail 1 c.args.d.now))))) c.read_options-options_found.result c.in-Some-options_found.options c.in-Some-options_found.n4 (λ x. refl) c.read_options-options_found.ensures c.in-Some-options_found.is in
    omega (arith, all-room (tail 1 c.args.d.now) (opening_in c.in-Some.opening) c.in-Some.n1 eo (ends_in c.in-Some-read_ends.ends) c.in-Some-read_ends.n2 ee (way_in c.in-Some-way_found.way) c.in-Some-way_found.n3 ew (options_in c.in-Some-options_found.options) c.in-Some-options_found.n4 ep, tail-length 1 c.args.d.now, c.requires)

pub returns-in_err-payload_at : goal.returns-in_err-payload_at
returns-in_err-payload_at c =
    let eo = some-read opening_held opening_in (opening.parse (tail 1 c.args.d.now)) c.read_opening.result c.in-Some.opening c.in-Some.n1 (λ x. refl) c.read_opening.ensures c.in-Some.is in
    let ee = some-read ends_held ends_in ((ends c.in-Some.opening.flags).parse (tail c.in-Some.n1 (tail 1 c.args.d.now))) c.read_ends.result c.in-Some-read_ends.ends c.in-Some-read_ends.n2 (λ x. refl) c.read_ends.ensures c.in-Some-read_ends.is in
    let ew = some-read way_held way_in ((way c.in-Some.opening.flags).parse (tail c.in-Some-read_ends.n2 (tail c.in-Some.n1 (tail 1 c.args.d.now)))) c.read_way-way_found.result c.in-Some-way_found.way c.in-Some-way_found.n3 (λ x. refl) c.read_way-way_found.ensures c.in-Some-way_found.is in
    let ep = some-read options_held options_in ((options c.in-Some.opening.flags).parse (tail c.in-Some-way_found.n3 (tail c.in-Some-read_ends.n2 (tail c.in-Some.n1 (tail 1 c.args.d.now))))) c.read_options-options_found.result c.in-Some-options_found.options c.in-Some-options_found.n4 (λ x. refl) c.read_options-options_found.ensures c.in-Some-options_found.is in
    let m = c.put_together-message.result in
    let z : 1 + c.in-Some.n1 + c.in-Some-read_ends.n2 + c.in-Some-way_found.n3 + c.in-Some-options_found.n4 ≡ 1 + (c.in-Some.n1 + c.in-Some-read_ends.n2 + c.in-Some-way_found.n3 + c.in-Some-options_found.n4) = omega arith in
    let q = fields-got c.args.d.now m (c.in-Some.n1 + c.in-Some-read_ends.n2 + c.in-Some-way_found.n3 + c.in-Some-options_found.n4) _ c.find_payload.result (rw c.put_together-message.ensures (is-valid (tail 1 c.args.d.now) (opening_in c.in-Some.opening) c.in-Some.n1 eo (ends_in c.in-Some-read_ends.ends) c.in-Some-read_ends.n2 ee (way_in c.in-Some-way_found.way) c.in-Some-way_found.n3 ew (options_in c.in-Some-options_found.options) c.in-Some-options_found.n4 ep (rw (← c.put_together-message.ensures) (sym c.is_valid.ensures ∙ c.if-not-is_valid.false)))) z (c.find_payload.ensures m) in
    let w = rw c.in_err-payload_at.was at q in grind (arith, w)

pub returns : goal.returns
returns c =
    let eo = some-read opening_held opening_in (opening.parse (tail 1 c.args.d.now)) c.read_opening.result c.in-Some.opening c.in-Some.n1 (λ x. refl) c.read_opening.ensures c.in-Some.is in
    let ee = some-read ends_held ends_in ((ends c.in-Some.opening.flags).parse (tail c.in-Some.n1 (tail 1 c.args.d.now))) c.read_ends.result c.in-Some-read_ends.ends c.in-Some-read_ends.n2 (λ x. refl) c.read_ends.ensures c.in-Some-read_ends.is in
    let ew = some-read way_held way_in ((way c.in-Some.opening.flags).parse (tail c.in-Some-read_ends.n2 (tail c.in-Some.n1 (tail 1 c.args.d.now)))) c.read_way-way_found.result c.in-Some-way_found.way c.in-Some-way_found.n3 (λ x. refl) c.read_way-way_found.ensures c.in-Some-way_found.is in
    let ep = some-read options_held options_in ((options c.in-Some.opening.flags).parse (tail c.in-Some-way_found.n3 (tail c.in-Some-read_ends.n2 (tail c.in-Some.n1 (tail 1 c.args.d.now))))) c.read_options-options_found.result c.in-Some-options_found.options c.in-Some-options_found.n4 (λ x. refl) c.read_options-options_found.ensures c.in-Some-options_found.is in
    let m = c.put_together-message.result in
    let z : 1 + c.in-Some.n1 + c.in-Some-read_ends.n2 + c.in-Some-way_found.n3 + c.in-Some-options_found.n4 ≡ 1 + (c.in-Some.n1 + c.in-Some-read_ends.n2 + c.in-Some-way_found.n3 + c.in-Some-options_found.n4) = omega arith in
    let q = fields-got c.args.d.now m (c.in-Some.n1 + c.in-Some-read_ends.n2 + c.in-Some-way_found.n3 + c.in-Some-options_found.n4) _ c.find_payload.result (rw c.put_together-message.ensures (is-valid (tail 1 c.args.d.now) (opening_in c.in-Some.opening) c.in-Some.n1 eo (ends_in c.in-Some-read_ends.ends) c.in-Some-read_ends.n2 ee (way_in c.in-Some-way_found.way) c.in-Some-way_found.n3 ew (options_in c.in-Some-options_found.options) c.in-Some-options_found.n4 ep (rw (← c.put_together-message.ensures) (sym c.is_valid.ensures ∙ c.if-not-is_valid.false)))) z (c.find_payload.ensures m) in
    rw c.in_ok-payload_at.was at q
