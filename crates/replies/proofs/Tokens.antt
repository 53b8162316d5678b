-- The token that is said again.
use mathlib.Core.Path.{◌≡◌, ap, ◌∙◌}
use Prim.Native.Nat.{ℕ, ◌-◌, ◌<◌}
use native.Mathlib.Omega.{arith}
use mathlib.Core.List.{List, []}
use lib.ListN.{length, take, drop, length-drop, drop_of_length-le}
use lib.Seq.{take_all}
use Rattle.tokens.specs.Cuts.{before}
use Rattle.replies.specs.Replies.{error_token}

-- a part up to the end
to_end : (n : ℕ) (s : List ℕ) → take (length s - n) (drop n s) ≡ drop n s
to_end n s = take_all (length s - n) (drop n s) (rw length-drop (omega arith))

pub token-none : (s : List ℕ) → length s < 6 → error_token s ≡ []
unfolding before
token-none s h = rw (drop_of_length-le s {i = 6} (omega arith))

pub token-part : (s t : List ℕ) → t ≡ before 0x20 (take (length s - 6) (drop 6 s)) → t ≡ error_token s
token-part s t e = e ∙ ap (before 0x20) (to_end 6 s)
