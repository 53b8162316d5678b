-- Places that the code is handed hold numbers of 32 bits: what their type says, as the logic has it.
use mathlib.Core.Path.{◌≡◌, refl}
use Prim.Native.Nat.{ℕ, zero, suc}
use mathlib.Core.Bool.{true}
use mathlib.Core.List.{List, [], ◌∷◌}
use lib.ListN.{take}
use mir.Val.{Val}
use denote.Shadow.{shadow}
use denote.Array.{each}
use borrow.Author.Tests.{lt-ltb}
use Rattle.octets.specs.Words.{every}
use Rattle.octets.proofs.Tests.{and_left, and_right, and_both}
use Rattle.places.specs.declared.Held.{Held}
use Rattle.places.specs.Messages.{words}
use Rattle.places.specs.contracts.Held as held

pub each-words : (l : List Held) (us : List Val) → shadow (each (held.the_row).Denot (held.the_row).own_val l us) → every words l ≡ true
each-words [] us p = refl
each-words (m ∷ l) [] p = absurd p
each-words (m ∷ l) (u ∷ us) p =
    let f = p.0.1.1 in
    let w : words m ≡ true = and_both _ _ (lt-ltb m.number 4294967296 f.0.1) (and_both _ _ (lt-ltb m.timeout 4294967296 f.1.0.1) (lt-ltb m.slip 4294967296 f.1.1.0.1)) in
    and_both (words m) (every words l) w (each-words l us p.1)

pub every_front : (n : ℕ) (l : List Held) → every words l ≡ true → every words (take n l) ≡ true
every_front zero l e = refl
every_front (suc n) [] e = refl
every_front (suc n) (m ∷ l) e = and_both (words m) _ (and_left (words m) _ e) (every_front n l (and_right (words m) _ e))
