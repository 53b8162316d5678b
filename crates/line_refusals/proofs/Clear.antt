-- The writer's tests in their order, and what holds where none of them refuses.
use Rattle.std.specs.Prelude.{if◌then◌else◌}
use Prim.Native.Nat.{ℕ, ◌+◌, ◌≤◌, ◌<◌}
use mathlib.Core.Path.{◌≡◌, refl, sym, ap, ◌∙◌}
use mathlib.Core.Bool.{Bool, true, false, not}
use native.Mathlib.Omega.{arith}
use borrow.Author.Tests.{leb-true, lt-ltb, le-ltb, ltb-false}
use Rattle.octets.specs.Words.{no, ◌≤?◌, ◌<?◌}
use Rattle.octets.proofs.Tests.{and_right}
use Rattle.refusals.specs.Numbers.{longest_payload}
use Rattle.line_refusals.specs.Order.{refuses_reading, refuses_writing, line_good}

-- by the tests alone: whether the message is good, its payload too long, the room too short
abbrev first : Bool → Bool → ℕ
first good long = if not good then 1 else if long then 4 else 0

abbrev whole : Bool → Bool → Bool → ℕ
whole good long short = if no good then 1 else if long then 4 else if short then 5 else 0

module _ (n : ℕ) where
  first-refuses : (g p q : Bool) → n ≡ first g p → (n ≡ 0 → ⊥) → n ≡ whole g p q
  first-refuses false p q e d = e
  first-refuses true true q e d = e
  first-refuses true false q e d = absurd (d e)

  room-decides : (g p q : Bool) → n ≡ first g p → n ≡ 0 → (if q then 5 else 0) ≡ whole g p q
  room-decides false p q e z = absurd (omega arith)
  room-decides true true q e z = absurd (omega arith)
  room-decides true false q e z = refl

-- the writer: the reader's rules refuse; the room does; nothing does
module _ (good : Bool) (len size room n : ℕ) (is-n : n ≡ refuses_reading (not good) false false len) where
  pub by-rules : (n ≡ 0 → ⊥) → n ≡ refuses_writing good len (size + 1) room
  by-rules d = first-refuses n good (longest_payload <? len) (room <? size + 1) is-n d

  module _ (z : n ≡ 0) where
    pub by-room : room ≤ size → 5 ≡ refuses_writing good len (size + 1) room
    by-room h =
        sym (ap (λ (b : Bool). if b then 5 else 0) (lt-ltb room (size + 1) (omega arith)))
        ∙ room-decides n good (longest_payload <? len) (room <? size + 1) is-n z

    pub by-none : size < room → 0 ≡ refuses_writing good len (size + 1) room
    by-none h =
        sym (ap (λ (b : Bool). if b then 5 else 0) (le-ltb room (size + 1) (omega arith)))
        ∙ room-decides n good (longest_payload <? len) (room <? size + 1) is-n z

-- what nothing refuses is short enough for a line, and has room for its LF too
pub cleared : (valid : Bool) (len size room : ℕ) → refuses_writing (line_good valid len size) len (size + 1) room ≡ 0 → (size ≤ 512) × (size < room)
cleared valid len size room e = go (line_good valid len size) refl (longest_payload <? len) (room <? size + 1) refl e
  where
    go : (g : Bool) → line_good valid len size ≡ g → (p q : Bool) → (room <? size + 1) ≡ q → whole g p q ≡ 0 → (size ≤ 512) × (size < room)
    go false f p q h z = absurd (omega arith)
    go true f true q h z = absurd (omega arith)
    go true f false true h z = absurd (omega arith)
    go true f false false h z = (leb-true size 512 (and_right (len ≤? 2147483647) _ (and_right valid _ f)), let k = ltb-false room (size + 1) h in omega arith)
