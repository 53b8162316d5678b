-- Values that may be missing, each by itself.
use Rattle.std.specs.Prelude.{Option, Some, None, if◌then◌else◌}
use Rattle.std.specs.Borrow.{Bor}
use Rattle.std.specs.Option.{is_some, option_map}
use Prim.Native.Nat.{ℕ}
use mathlib.Core.Path.{◌≡◌, refl, sym, ◌∙◌}
use mathlib.Core.Bool.{Bool, true, false}
use mathlib.Core.List.{List}
use lib.IntN.{ℤ}
use Rattle.text.specs.Decimal.{is_number, number, is_signed, signed}
use Rattle.text.specs.Hex.{is_hex, hex_value}
use Rattle.line_values.specs.Values.{text_of}
use Rattle.line_groups.specs.Rules.{kept}
use Rattle.line_groups.specs.Answers.{singles_by}

-- a value keeps its rule, and r is what it says
pub record Said {A : Type 0} (rule : List ℕ → Bool) (f : List ℕ → A) (o : Option (List ℕ)) (r : Option A) : Type 0 where
  pub keeps : kept (is_some o) rule (text_of o) ≡ true
  pub says : r ≡ option_map f o

module _ {A : Type 0} (rule : List ℕ → Bool) (f : List ℕ → A) where
  pub said_some : (o : Option (Bor (List ℕ))) (r : Option A) (v : Bor (List ℕ)) (n : Option A) (x : A)
      → o ≡ Some v → n ≡ (if rule v.now then Some (f v.now) else None) → n ≡ Some x → r ≡ Some x → Said rule f (option_map (λ b. b.now) o) r
  said_some o r v n x is_o is-n was is-r = rw is_o (go (rule v.now) refl (sym is-n ∙ was))
    where
      go : (b : Bool) → rule v.now ≡ b → (if b then Some (f v.now) else None) ≡ Some x → Said rule f (Some v.now) r
      go true e h = record { keeps = e; says = is-r ∙ sym h }
      go false e h = cc

  pub said_none : (o : Option (Bor (List ℕ))) (r : Option A) → o ≡ None → r ≡ None → Said rule f (option_map (λ b. b.now) o) r
  said_none o r is_o is-r = rw is_o (record { keeps = refl; says = is-r })

pub singles-said : (s ttl chk : Option (List ℕ)) (a : Option ℤ) (t k : Option ℕ)
    → Said is_signed signed s a → Said (is_number 2147483647) number ttl t → Said (is_hex 4) hex_value chk k → Some (record { salt = a; ttl = t; chk = k }) ≡ singles_by s ttl chk
unfolding singles_by
singles-said s ttl chk a t k p q r = rw (p.says, q.says, r.says, p.keeps, q.keeps, r.keeps) refl
