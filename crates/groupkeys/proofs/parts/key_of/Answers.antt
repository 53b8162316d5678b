-- The originator is a callsign, and so it fits.
use Rattle.std.proofs.Common.{◌≡◌, ◌≤◌, length, List, ℕ, Option, Some, true, option_map, sym, ap, ◌∙◌, arith, Bor}
use Rattle.std.proofs.lemmas.Grind.{common_steps}
use Rattle.groupkeys.specs.Key.{is_originator}
use Rattle.callsigns.proofs.Lengths.{callsign-short}
use Rattle.groupkeys.proofs.parts.key_of.Goals as goal

short : (o : Option (Bor (List ℕ))) (s : Bor (List ℕ)) → o ≡ Some s → is_originator (option_map (λ s. s.now) o) ≡ true → length s.now ≤ 12
short o s e h = callsign-short s.now (ap (λ (o : Option (Bor (List ℕ))). is_originator (option_map (λ s. s.now) o)) (sym e) ∙ h)

pub slice_bounds-front-end : goal.slice_bounds-front-end
slice_bounds-front-end c = short _ _ c.in-Some.is c.requires

pub slice_bounds-copy_from_slice-end : goal.slice_bounds-copy_from_slice-end
slice_bounds-copy_from_slice-end c = let h = short _ _ c.in-Some.is c.requires in grind (arith, common_steps)

pub copy_from_slice-requires : goal.copy_from_slice-requires
copy_from_slice-requires c = let h = short _ _ c.in-Some.is c.requires in grind (arith, common_steps)
