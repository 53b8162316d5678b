-- A call on a row: the row after it is tied to the history after it, and is the one to which that history leads.
use Prim.Native.Nat.{ℕ, max}
use mathlib.Core.Path.{◌≡◌, refl, ap, ◌∙◌}
use mathlib.Core.Bool.{true}
use mathlib.Core.List.{List, [], ◌∷◌}
use Rattle.octets.proofs.Tests.{and_left, and_right}
use Rattle.places.specs.declared.Held.{Held}
use Rattle.rows.specs.Answer.{Outcome}
use Rattle.rows.specs.Stream.{Stream, word, words, keeps}
use Rattle.rows.specs.Stream as row
use Rattle.rows.proofs.Rules.{kept}
use Rattle.rows.proofs.Keeps.{offer-keeps}
use Rattle.rows.proofs.Cases.{by-offer, by-take, by-force}
use Rattle.history.specs.History.{take, force, History}
use Rattle.history.specs.Chain.{Call, offer, give, close, small, noted, closing, row_call, replay}
use Rattle.history.proofs.Sound.{Sound, sound-opened, sound-stay, sound-accept, sound-give, due-passes}

-- the row is tied to its history, and is the one to which the history leads
pub record Led (h : History) (s : Stream) : Type 0 where
  pub sound : Sound h s
  pub is : s ≡ replay h

module _ (h : History) (s : Stream) (k : Led h s) where
  -- o is the outcome x of the call c, and leaves what it must
  abbrev After : Call → Outcome Stream → Outcome Stream → Type 0
  After c x o = o ≡ x → Led (noted h c o.answer) o.after

  module _ (time : ℕ) where
    step-offer : (m : Held) → keeps s ≡ true → words m ≡ true → word time ≡ true → Led (noted h (offer m time) (row.offer s m time).answer) (row.offer s m time).after
    step-offer m e v w =
        by-offer s (λ (o : Outcome Stream). keeps o.after ≡ true → After (offer m time) (row.offer s m time) o) time m (λ a q. k) (λ a q. k) (λ a q. k)
        (λ lo free room a q. record {
          sound = sound-accept h s k.sound m time (kept _ a).order;
          is = ap (λ (o : Outcome Stream). o.after) q ∙ ap (λ (x : Stream). (row.offer x m time).after) k.is;
        })
        (offer-keeps s e time w m v) refl

    stays : Led (noted h (give take time) (row.stay s (max s.clock time)).answer) (row.stay s (max s.clock time)).after
    stays = record { sound = sound-stay h s k.sound time; is = ap (λ (x : Stream). (row.stay x (max x.clock time)).after) k.is }

    step-take : Led (noted h (give take time) (row.take s time).answer) (row.take s time).after
    step-take =
        by-take s (After (give take time) (row.take s time)) time (λ q. stays)
        (λ m rest f d q. record {
          sound = sound-give h s k.sound m rest f take time (due-passes h s k.sound m rest f time d);
          is = ap (λ (o : Outcome Stream). o.after) q ∙ ap (λ (x : Stream). (row.take x time).after) k.is;
        })
        refl

    step-force : Led (noted h (give force time) (row.force s time).answer) (row.force s time).after
    step-force =
        by-force s (After (give force time) (row.force s time)) time (λ q. stays)
        (λ m rest f q. record {
          sound = sound-give h s k.sound m rest f force time (λ lt. tt);
          is = ap (λ (o : Outcome Stream). o.after) q ∙ ap (λ (x : Stream). (row.force x time).after) k.is;
        })
        refl

  -- a close ends the history, or is refused
  step-close : (l : List Held) → Led (noted h close (closing s l).answer) (closing s l).after
  step-close [] = record { sound = sound-opened; is = refl }
  step-close (m ∷ l) = k

  pub step-led : keeps s ≡ true → (c : Call) → small c ≡ true → Led (noted h c (row_call s c).answer) (row_call s c).after
  step-led e (offer m time) w = step-offer time m e (and_left (words m) _ w) (and_right (words m) _ w)
  step-led e (give take time) w = step-take time
  step-led e (give force time) w = step-force time
  step-led e close w = step-close s.held
