-- The gate, then the group of the key, or a new one.
use Rattle.std.proofs.Common.{◌≡◌, Err, rules, ◌∙◌, arith}
use Rattle.groups.specs.Groups.{has_key}
use Rattle.groups.proofs.Search.{found-bound}
use Rattle.groupcalls.proofs.Tests.{above-0, gate-long, add-refused, add-passed, add-ranged}
use Rattle.groupcalls.proofs.calls.try_add.Goals as goal

pub returns-in_err-key : goal.returns-in_err-key
returns-in_err-key c = let r : c.from_residual.result ≡ Err c.in_err-key.field-0.0 = search rules in
    rw r (add-refused _ _ _ c.args.f _ _ c.in_range-ranged.ensures c.in_err-key.ensures.number (above-0 _))

pub add_at-requires : goal.add_at-requires
add_at-requires c = let long = gate-long c.args.t.now _ _ _ _ c.in_ok-key.ensures.number (omega arith) in
    (omega (arith, long, found-bound (has_key c.in_ok-key.key) _ c.args.t.now.items c.in-Some.ensures), add-ranged _ _ _ c.args.f _ _ c.in_range-ranged.ensures c.in_ok-key.ensures.number (omega arith))

pub add_new-requires : goal.add_new-requires
add_new-requires c = (gate-long c.args.t.now _ _ _ _ c.in_ok-key.ensures.number (omega arith), add-ranged _ _ _ c.args.f _ _ c.in_range-ranged.ensures c.in_ok-key.ensures.number (omega arith))

pub returns-in-Some : goal.returns-in-Some
returns-in-Some c = c.add_at.ensures ∙ add-passed _ _ _ c.args.f _ _ c.in_range-ranged.ensures c.in_ok-key.ensures.number (omega arith) _ c.in_ok-key.ensures.key _ c.in-Some.ensures

pub returns-in-None : goal.returns-in-None
returns-in-None c = c.add_new.ensures ∙ add-passed _ _ _ c.args.f _ _ c.in_range-ranged.ensures c.in_ok-key.ensures.number (omega arith) _ c.in_ok-key.ensures.key _ c.in-None.ensures
