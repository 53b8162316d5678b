-- An id at the front of a part, from what reading its seven bytes answered.
use Rattle.std.specs.Prelude.{if◌then◌else◌}
use Rattle.std.proofs.Common.{ℕ, ◌≤◌, ◌≡◌, refl, ap, sym, ◌∙◌, Bool, true, false, List, length, take, length-take, Option, Some, None, arith, eq-eqb}
use borrow.Author.Tests.{le-leb}
use Rattle.octets.specs.Words.{every}
use Rattle.octets.specs.Field.{Res, bad, got, bind}
use Rattle.text.specs.Digits.{is_digit}
use Rattle.text.specs.Hex.{hex_value, id_of}
use Rattle.layout.specs.Layout.{hex_id}

-- an id that was read, or none, as a field's reading
abbrev id_found : Option ℕ → Res ℕ
id_found (Some v) = got v 7
id_found None = bad

id-found : (s : List ℕ) → 7 ≤ length s → hex_id.parse s ≡ id_found (id_of (take 7 s))
unfolding hex_id
id-found s h =
    let l : length (take 7 s) ≡ 7 = rw length-take (omega arith) in
    rw (le-leb 7 (length s) h, eq-eqb (length (take 7 s)) 7 l) (go (every (is_digit 16) (take 7 s)))
  where
    go : (b : Bool) → bind (if b then got (take 7 s) 7 else bad) (λ l n. got (hex_value l) n) ≡ id_found (if b then Some (hex_value (take 7 s)) else None)
    go true = refl
    go false = refl

pub no-id : (s : List ℕ) → 7 ≤ length s → None ≡ id_of (take 7 s) → hex_id.parse s ≡ bad
no-id s h e = id-found s h ∙ ap id_found (sym e)
