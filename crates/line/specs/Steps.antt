-- What the private function promises; no public promise speaks of it.
use Rattle.std.specs.Prelude.{ℕ, ◌-◌, Bool, true, List, length, take, Option}
use Rattle.std.specs.Option.{option_map_or}
use Rattle.octets.specs.Words.{◌=?◌}
use Rattle.crc16.specs.Crc.{crc16}

-- a check, where there is one, against the line
unfoldable pub right_chk : List ℕ → Option ℕ → Bool
right_chk s chk = option_map_or (λ c. crc16 (take (length s - 9) s) =? c) chk true
