-- What refuses decides; where nothing does, the message has its place.
use Prim.Native.Nat.{ℕ}
use mathlib.Core.Path.{◌≡◌, sym, ap, ◌∙◌}
use lib.ListN.{length}
use Rattle.octets.proofs.Lists.{unmapped}
use Rattle.places.specs.declared.Held.{Held}
use Rattle.rows.specs.declared.Row.{Row}
use Rattle.rows.specs.Answer.{Answer, Outcome}
use Rattle.rows.specs.Stream.{accept}
use Rattle.rows.specs.Row.{stream_of, packed}
use Rattle.rows.proofs.Steps.{offer-refused, offer-keeps, offer-room, offer-accepted, err-says, ok-says}
use Rattle.rows.proofs.Row.offer.Goals as goal

pub returns-then-is_err : goal.returns-then-is_err
returns-then-is_err c = let long : length c.args.self.held ≡ 16 = search unmapped in
    let message : Held = record { number = c.args.number; timeout = c.args.timeout; slip = c.args.slip } in
    let e = err-says c.refuses_offer-answer.result (sym c.is_err.ensures.value ∙ c.if-is_err.true) in
    ap {B = Outcome Row} (λ (a : Answer). record { answer = a; after = c.args.self }) e.0
    ∙ offer-refused c.args.self message _ long _ _ _ c.keeps_rules.ensures c.has-known.ensures c.gap_open-gap.ensures c.refuses_offer-answer.ensures c.args.time e.1

pub accept-requires : goal.accept-requires
accept-requires c = let long : length c.args.self.held ≡ 16 = search unmapped in
    let message : Held = record { number = c.args.number; timeout = c.args.timeout; slip = c.args.slip } in
    let e = ok-says c.refuses_offer-answer.result (sym c.is_err.ensures.value ∙ c.if-is_err.false) in
    (offer-keeps c.args.self message _ long _ _ _ c.keeps_rules.ensures c.has-known.ensures c.gap_open-gap.ensures c.refuses_offer-answer.ensures e, offer-room c.args.self message _ long _ _ _ c.keeps_rules.ensures c.has-known.ensures c.gap_open-gap.ensures c.refuses_offer-answer.ensures e)

pub returns : goal.returns
returns c = let long : length c.args.self.held ≡ 16 = search unmapped in
    let message : Held = record { number = c.args.number; timeout = c.args.timeout; slip = c.args.slip } in
    let e = ok-says c.refuses_offer-answer.result (sym c.is_err.ensures.value ∙ c.if-is_err.false) in
    c.accept.ensures ∙ ap (λ (k : ℕ). packed (accept (stream_of c.args.self) message k)) c.later.ensures ∙ offer-accepted c.args.self message _ long _ _ _ c.keeps_rules.ensures c.has-known.ensures c.gap_open-gap.ensures c.refuses_offer-answer.ensures e c.args.time
