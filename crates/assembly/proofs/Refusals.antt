-- THEOREM: a refusal changes nothing: not the groups, not the store, not the buffer that is lent.
use Rattle.std.specs.Prelude.{if◌then◌else◌}
use mathlib.Core.Path.{◌≡◌, refl, ap}
use Prim.Native.Nat.{ℕ}
use native.Mathlib.Omega.{arith}
use mathlib.Core.Bool.{Bool, true, false}
use mathlib.Core.List.{List, map}
use lib.ListN.{length}
use Rattle.octets.specs.Words.{no}
use Rattle.refusals.specs.Numbers.{state_broken}
use Rattle.groups.specs.declared.Groups.{Groups}
use Rattle.groups.specs.Groups.{keeps_groups}
use Rattle.groupcalls.specs.Answer.{Said, swept, refused, Outcome, refuse}
use Rattle.groupcalls.specs.Calls.{sweep, swept_group}
use Rattle.groupcalls.proofs.Moves.{Move, joining, opening, add-moves, Taking, taking, collect-takes}
use Rattle.fragments.specs.Store.{out_after, store_after}
use Rattle.assembly.specs.History.{Names, named, Arrival, fragment, Call, adding, collecting, sweeping, House, outcome, bytes_after, after}

add-stays : (w : House) (a : Names) (f : Arrival) (n : ℕ) → (outcome w (adding a f)).answer ≡ refused n → (outcome w (adding a f)).after ≡ w.groups
add-stays w a f n e = go (outcome w (adding a f)) (add-moves w.groups (length w.store) (named a) (fragment f)) e
  where
    go : (o : Outcome) → Move w.groups (length w.store) (named a) (fragment f) o → o.answer ≡ refused n → o.after ≡ w.groups
    go o (Move.refusing m) q = refl
    go o (joining k s r b u v x) q = let z : ◌≡◌ {A = ℕ} 0 1 = cc in absurd (omega arith)
    go o (opening k s r b u v x) q = let z : ◌≡◌ {A = ℕ} 0 1 = cc in absurd (omega arith)

collect-stays : (w : House) (a : Names) (out : List ℕ) (n : ℕ) → (outcome w (collecting a out)).answer ≡ refused n → (outcome w (collecting a out)).after ≡ w.groups
collect-stays w a out n e = go (outcome w (collecting a out)) (collect-takes w.groups (length w.store) (named a) (length out)) e
  where
    go : (o : Outcome) → Taking w.groups (length w.store) (named a) (length out) o → o.answer ≡ refused n → o.after ≡ w.groups
    go o (Taking.refusing m) q = refl
    go o (taking k s r b u v x) q = let z : ◌≡◌ {A = ℕ} 0 1 = cc in absurd (omega arith)

sweep-stays : (t : Groups) (time n : ℕ) → (sweep t time).answer ≡ refused n → (sweep t time).after ≡ t
unfolding sweep
sweep-stays t time n e = go (keeps_groups t) e
  where
    outcomes : Bool → Outcome
    outcomes b = if no b then refuse state_broken t else record { answer = swept; after = record { items = map (swept_group time) t.items } }

    go : (b : Bool) → (outcomes b).answer ≡ refused n → (outcomes b).after ≡ t
    go false q = refl
    go true q = let z : ◌≡◌ {A = ℕ} 0 1 = cc in absurd (omega arith)

-- the groups and the store after a refused call are those before it
pub refused-stays : (w : House) (c : Call) (n : ℕ) → (outcome w c).answer ≡ refused n → after w c ≡ w
refused-stays w (adding a f) n e =
    let g = add-stays w a f n e in
    let s : bytes_after w (adding a f) ≡ w.store = ap (λ (x : Said). store_after x f.number f.bytes w.store) e in
    λ i. record { groups = g i; store = s i }
refused-stays w (collecting a out) n e = let g = collect-stays w a out n e in λ i. record { groups = g i; store = w.store }
refused-stays w (sweeping time) n e = let g = sweep-stays w.groups time n e in λ i. record { groups = g i; store = w.store }

-- and so is the buffer that a refused collect was lent
pub refused-buffer : (w : House) (a : Names) (out : List ℕ) (n : ℕ) → (outcome w (collecting a out)).answer ≡ refused n
    → out_after (outcome w (collecting a out)).answer w.groups w.store out ≡ out
refused-buffer w a out n e = ap (λ (x : Said). out_after x w.groups w.store out) e
