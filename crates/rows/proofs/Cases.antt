-- The calls by their cases: what holds of each outcome that document 01 names holds of the call.
use Rattle.std.specs.Prelude.{if◌then◌else◌}
use mathlib.Core.Path.{◌≡◌, refl}
use Prim.Native.Nat.{ℕ, ◌≤◌, max}
use mathlib.Core.Bool.{Bool, true, false}
use mathlib.Core.List.{List, [], ◌∷◌}
use borrow.Author.Tests.{ltb-false}
use Rattle.octets.specs.Words.{◌<?◌}
use Rattle.refusals.specs.Numbers.{stale, already_held, row_full}
use Rattle.places.specs.declared.Held.{Held}
use Rattle.rows.specs.Answer.{Outcome, refuse}
use Rattle.rows.specs.Stream.{Stream, holds, offer, accept, due, take, take_from, force, force_from, give, stay}
use Rattle.rows.specs.Steps.{full}

module _ (s : Stream) (P : Outcome Stream → Type 0) (time : ℕ) where
  pub by-offer : (m : Held) → P (refuse stale s) → P (refuse already_held s) → P (refuse row_full s)
      → (s.expected ≤ m.number → holds m.number s.held ≡ false → full s m.number ≡ false → P (accept s m (max s.clock time)))
      → P (offer s m time)
  unfolding offer
  by-offer m a b c d = go (m.number <? s.expected) (holds m.number s.held) (full s m.number) refl refl refl
    where
      go : (x y z : Bool) → (m.number <? s.expected) ≡ x → holds m.number s.held ≡ y → full s m.number ≡ z
          → P (if x then refuse stale s else if y then refuse already_held s else if z then refuse row_full s else accept s m (max s.clock time))
      go true y z e f g = a
      go false true z e f g = b
      go false false true e f g = c
      go false false false e f g = d (ltb-false _ _ e) f g

  pub by-take : P (stay s (max s.clock time))
      → ((lowest : Held) (rest : List Held) → s.held ≡ lowest ∷ rest → due s lowest (max s.clock time) ≡ true → P (give lowest rest (max s.clock time)))
      → P (take s time)
  unfolding take
  by-take a b = go s.held refl
    where
      test : (m : Held) (l : List Held) (t : Bool) → s.held ≡ m ∷ l → due s m (max s.clock time) ≡ t
          → P (if t then give m l (max s.clock time) else stay s (max s.clock time))
      test m l true e f = b m l e f
      test m l false e f = a

      go : (l : List Held) → s.held ≡ l → P (take_from s (max s.clock time) l)
      go [] e = a
      go (m ∷ l) e = test m l (due s m (max s.clock time)) e refl

  pub by-force : P (stay s (max s.clock time)) → ((lowest : Held) (rest : List Held) → s.held ≡ lowest ∷ rest → P (give lowest rest (max s.clock time))) → P (force s time)
  unfolding force
  by-force a b = go s.held refl
    where
      go : (l : List Held) → s.held ≡ l → P (force_from s (max s.clock time) l)
      go [] e = a
      go (m ∷ l) e = b m l e
