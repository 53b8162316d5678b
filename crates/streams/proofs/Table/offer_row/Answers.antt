-- The target decides: refused, or the row's own call at its place.
use Rattle.std.specs.Prelude.{Option, Err}
use mathlib.Core.Path.{◌≡◌, ap, ◌∙◌}
use borrow.Author.Rules.{rules}
use Rattle.refusals.specs.declared.Refusal.{Refusal}
use Rattle.keys.specs.declared.Key.{Key}
use Rattle.keys.specs.Key.{named_says}
use Rattle.lookups.specs.Lookup.{offer_target, free_in, standing_of}
use Rattle.streams.specs.Calls.{look_up, offer_by}
use Rattle.streams.specs.Steps.{served}
use Rattle.streams.proofs.Lookups.{asked, asked-key, offer-said, offer-not, offer-at, on-slot, offer-by}
use Rattle.streams.proofs.Table.offer_row.Goals as goal

pub returns-in_err-i : goal.returns-in_err-i
returns-in_err-i c = let e : c.from_residual.result ≡ Err c.in_err-i.field-0.0 = search rules in
    ap (served c.args.self.now) e ∙ offer-not c.args.self.now (named_says c.name-named.result) c.unwrap_or-key.result (record { number = c.args.number; timeout = c.args.timeout; slip = c.args.slip }) c.args.time _ (c.in_err-i.ensures ∙ ap (λ (e : Option Refusal). offer_target c.args.number (free_in c.test-ruled.result) (standing_of c.test-ruled.result e)) c.err.ensures.value ∙ offer-said c.args.self.now c.name-named.result c.test-ruled.result (asked c.args.self.now c.name-named.result _ _ c.none.ensures c.unwrap_or-key.ensures _ c.test-ruled.ensures) c.args.number) ∙ ap (λ (k : Key). offer_by c.args.self.now k (record { number = c.args.number; timeout = c.args.timeout; slip = c.args.slip }) c.args.time (look_up c.args.self.now (named_says c.name-named.result))) (asked-key c.args.self.now c.name-named.result _ _ c.none.ensures c.unwrap_or-key.ensures) ∙ offer-by c.args.self.now _ _ (named_says c.name-named.result) c.name-named.ensures (record { number = c.args.number; timeout = c.args.timeout; slip = c.args.slip }) c.args.time

pub offset_bounds-self-i : goal.offset_bounds-self-i
offset_bounds-self-i c = let b = (offer-at c.args.self.now (named_says c.name-named.result) c.unwrap_or-key.result (record { number = c.args.number; timeout = c.args.timeout; slip = c.args.slip }) c.args.time _ (c.in_ok-i.ensures ∙ ap (λ (e : Option Refusal). offer_target c.args.number (free_in c.test-ruled.result) (standing_of c.test-ruled.result e)) c.err.ensures.value ∙ offer-said c.args.self.now c.name-named.result c.test-ruled.result (asked c.args.self.now c.name-named.result _ _ c.none.ensures c.unwrap_or-key.ensures _ c.test-ruled.ensures) c.args.number)).0 in search rules

pub bounds-self-i : goal.bounds-self-i
bounds-self-i c = (offer-at c.args.self.now (named_says c.name-named.result) c.unwrap_or-key.result (record { number = c.args.number; timeout = c.args.timeout; slip = c.args.slip }) c.args.time _ (c.in_ok-i.ensures ∙ ap (λ (e : Option Refusal). offer_target c.args.number (free_in c.test-ruled.result) (standing_of c.test-ruled.result e)) c.err.ensures.value ∙ offer-said c.args.self.now c.name-named.result c.test-ruled.result (asked c.args.self.now c.name-named.result _ _ c.none.ensures c.unwrap_or-key.ensures _ c.test-ruled.ensures) c.args.number)).0

pub returns : goal.returns
returns c = on-slot c.args.self.now (record { number = c.args.number; timeout = c.args.timeout; slip = c.args.slip }) c.args.time _ _ _ _ _ c.for_key.ensures c.offer-offered.ensures ∙ (offer-at c.args.self.now (named_says c.name-named.result) c.unwrap_or-key.result (record { number = c.args.number; timeout = c.args.timeout; slip = c.args.slip }) c.args.time _ (c.in_ok-i.ensures ∙ ap (λ (e : Option Refusal). offer_target c.args.number (free_in c.test-ruled.result) (standing_of c.test-ruled.result e)) c.err.ensures.value ∙ offer-said c.args.self.now c.name-named.result c.test-ruled.result (asked c.args.self.now c.name-named.result _ _ c.none.ensures c.unwrap_or-key.ensures _ c.test-ruled.ensures) c.args.number)).1 ∙ ap (λ (k : Key). offer_by c.args.self.now k (record { number = c.args.number; timeout = c.args.timeout; slip = c.args.slip }) c.args.time (look_up c.args.self.now (named_says c.name-named.result))) (asked-key c.args.self.now c.name-named.result _ _ c.none.ensures c.unwrap_or-key.ensures) ∙ offer-by c.args.self.now _ _ (named_says c.name-named.result) c.name-named.ensures (record { number = c.args.number; timeout = c.args.timeout; slip = c.args.slip }) c.args.time
