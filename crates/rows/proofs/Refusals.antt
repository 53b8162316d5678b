-- THEOREM: a refusal hands the row back as it came, its clock included.
use mathlib.Core.Path.{◌≡◌, refl, sym, ap, ◌∙◌}
use Prim.Native.Nat.{ℕ}
use mathlib.Core.Bool.{Bool, true, false}
use Rattle.places.specs.declared.Held.{Held}
use Rattle.rows.specs.declared.Row.{Row}
use Rattle.rows.specs.Answer.{refused, Outcome}
use Rattle.rows.specs.Stream.{Stream, offer, take, force}
use Rattle.rows.specs.Row.{stream_of, row_of, keeps_row, checked, offer_of, take_of, force_of}
use Rattle.rows.proofs.Rules.{packs}
use Rattle.rows.proofs.Cases.{by-offer, by-take, by-force}

-- where the answer is a refusal, the state after the call is s
abbrev pub Unmoved : {State : Type 0} → State → Outcome State → Type 0
Unmoved s o = (n : ℕ) → o.answer ≡ refused n → o.after ≡ s

pub offer-unmoved : (s : Stream) (m : Held) (time : ℕ) → Unmoved s (offer s m time)
offer-unmoved s m time = by-offer s (Unmoved s) time m (λ n e. refl) (λ n e. refl) (λ n e. refl) (λ h d f n e. cc)

pub take-unmoved : (s : Stream) (time : ℕ) → Unmoved s (take s time)
take-unmoved s time = by-take s (Unmoved s) time (λ n e. cc) (λ m rest h d n e. cc)

pub force-unmoved : (s : Stream) (time : ℕ) → Unmoved s (force s time)
force-unmoved s time = by-force s (Unmoved s) time (λ n e. cc) (λ m rest h n e. cc)

-- the same of a row, whether it keeps the rules or not
checked-unmoved : (r : Row) (o : Outcome Stream) → Unmoved (stream_of r) o → Unmoved r (checked r o)
checked-unmoved r o u = go (keeps_row r) refl
  where
    go : (b : Bool) → keeps_row r ≡ b → Unmoved r (checked r o)
    go true k = rw k (λ n e. ap row_of (u n e) ∙ sym (packs r k))
    go false k = rw k (λ n e. refl)

pub offer-unmoved-row : (r : Row) (m : Held) (time : ℕ) → Unmoved r (offer_of r m time)
offer-unmoved-row r m time = checked-unmoved r (offer (stream_of r) m time) (offer-unmoved (stream_of r) m time)

pub take-unmoved-row : (r : Row) (time : ℕ) → Unmoved r (take_of r time)
take-unmoved-row r time = checked-unmoved r (take (stream_of r) time) (take-unmoved (stream_of r) time)

pub force-unmoved-row : (r : Row) (time : ℕ) → Unmoved r (force_of r time)
force-unmoved-row r time = checked-unmoved r (force (stream_of r) time) (force-unmoved (stream_of r) time)
