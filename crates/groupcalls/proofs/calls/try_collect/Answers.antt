-- The gate, then the group of the key; an unknown key is 21.
use Rattle.std.proofs.Common.{◌≡◌, ℕ, Err, Option, Some, None, rules, sym, ap, ◌∙◌, arith}
use Rattle.std.specs.Prelude.{Result}
use Rattle.std.specs.Option.{ok_or}
use Rattle.refusals.specs.declared.Refusal.{Refusal}
use Rattle.groups.specs.Groups.{has_key}
use Rattle.groups.proofs.Search.{found-bound}
use Rattle.groupcalls.proofs.Tests.{above-0, gate-long, collect-refused, collect-passed}
use Rattle.groupcalls.proofs.calls.try_collect.Goals as goal

pub returns-in_err-key : goal.returns-in_err-key
returns-in_err-key c = let r : c.from_residual.result ≡ Err c.in_err-key.field-0.0 = search rules in
    rw r (collect-refused _ _ _ _ _ c.in_err-key.ensures.number (above-0 _))

pub returns-in_err-g : goal.returns-in_err-g
returns-in_err-g c = let r : c.from_residual-in_err-g.result ≡ Err c.in_err-g.field-0.0 = search rules in
    let n : ◌≡◌ {A = Result ℕ Refusal} (Err c.in_err-g.field-0.0) (Err Refusal.NotComplete) = c.in_err-g.ensures.value ∙ ap (λ (o : Option ℕ). ok_or o Refusal.NotComplete) c.in_err-g.ensures.ok_part in
    let m : c.in_err-g.field-0.0 ≡ Refusal.NotComplete = cc in
    rw r (rw m (collect-passed _ _ _ _ _ c.in_ok-key.ensures.number (omega arith) _ c.in_ok-key.ensures.key None (sym c.in_err-g.ensures.ok_part ∙ c.find.ensures)))

pub collect_at-requires : goal.collect_at-requires
collect_at-requires c = let long = gate-long c.args.t.now _ _ _ _ c.in_ok-key.ensures.number (omega arith) in
    omega (arith, long, found-bound (has_key c.in_ok-key.key) c.in_ok-g.g c.args.t.now.items (sym c.in_ok-g.ensures.ok_part ∙ c.find.ensures))

pub returns : goal.returns
returns c = c.collect_at.ensures ∙ collect-passed _ _ _ _ _ c.in_ok-key.ensures.number (omega arith) _ c.in_ok-key.ensures.key (Some c.in_ok-g.g) (sym c.in_ok-g.ensures.ok_part ∙ c.find.ensures)
