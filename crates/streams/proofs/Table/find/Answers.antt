-- What was looked up stands for the key.
use Rattle.std.specs.Prelude.{Option}
use mathlib.Core.Path.{ap, ◌∙◌}
use Rattle.refusals.specs.declared.Refusal.{Refusal}
use Rattle.keys.specs.Key.{Named, named_says}
use Rattle.lookups.specs.Lookup.{known_target, standing_of}
use Rattle.streams.specs.Calls.{look_up}
use Rattle.streams.proofs.Lookups.{asked, known_is, within-known}
use Rattle.streams.proofs.Table.find.Goals as goal

pub returns-clause-at : goal.returns-clause-at
returns-clause-at c = c.known.ensures ∙ ap (λ (e : Option Refusal). known_target (standing_of c.test-ruled.result e)) c.err.ensures.value
    ∙ known_is c.args.self.now c.name-named.result c.test-ruled.result (asked c.args.self.now c.name-named.result _ _ c.none.ensures c.unwrap_or.ensures _ c.test-ruled.ensures)
    ∙ ap (λ (n : Named). known_target (look_up c.args.self.now n)) c.name-named.ensures

pub returns-clause-within : goal.returns-clause-within
returns-clause-within c = within-known c.args.self.now (named_says c.name-named.result) c.known.result
    (c.known.ensures ∙ ap (λ (e : Option Refusal). known_target (standing_of c.test-ruled.result e)) c.err.ensures.value
    ∙ known_is c.args.self.now c.name-named.result c.test-ruled.result (asked c.args.self.now c.name-named.result _ _ c.none.ensures c.unwrap_or.ensures _ c.test-ruled.ensures))
