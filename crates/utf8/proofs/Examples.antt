-- Worked examples, by computation.
use mathlib.Core.Path.{◌≡◌, refl}
use mathlib.Core.Bool.{true, false}
use mathlib.Core.List.{[], ◌∷◌}
use Rattle.utf8.specs.Utf8.{utf8, run}

-- RFC 3629, section 7: U+0041 U+2262 U+0391 U+002E
not-identical : utf8 (0x41 ∷ 0xE2 ∷ 0x89 ∷ 0xA2 ∷ 0xCE ∷ 0x91 ∷ 0x2E ∷ []) ≡ true
unfolding run
not-identical = refl

-- RFC 3629, section 10: the overlong slash
overlong : utf8 (0x2F ∷ 0xC0 ∷ 0xAE ∷ 0x2E ∷ 0x2F ∷ []) ≡ false
unfolding run
overlong = refl
